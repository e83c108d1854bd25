-- Question 4 is document 01's definition of an image, by its rules.
use mathlib.Core.Path.{◌≡◌, refl, sym, ap, ◌∙◌, subst}
use mathlib.Core.Bool.{true, true≢false}
use mathlib.Core.List.{List, [], ◌∷◌, ◌++◌}
use mathlib.Core.Logic.{◌⊎◌, inl, inr}
use Prim.Native.Nat.{ℕ, zero, ◌+◌, ◌%◌, ◌≤◌, ◌<◌}
use native.Mathlib.Nat.{mod-lt, mod-eq_of_lt}
use native.Mathlib.Decide.{dec_lt}
use native.Mathlib.Omega.{arith}
use lib.ListN.{length, get_or, replicate}
use Rattle.sizes.specs.Sizes.{made}
use Rattle.sizes.specs.Header.{header, sizes_in}
use Rattle.placement.specs.Blocks.{Among, Block, empty, holds, around, stored, holds_smaller, Stands, Rule3, how_many}
use Rattle.placement.specs.Chunks.{Chunk, chunk_before, chunk_home, all_bytes}
use Rattle.sizes.specs.declared.Sizes.{Sizes}
use Rattle.placement.specs.declared.Order.{Order}
use Rattle.sizes.proofs.Laws.Round.{steps_apart}
use Rattle.placement.proofs.Laws.Blocks.{around_inside, stored_long, Far, far}
use Rattle.placement.proofs.Laws.Store.{before_store}
use Rattle.placement.proofs.Laws.Placed.{Rising, Placing, store_count, nothing}
use Rattle.placement.proofs.Laws.Labels.{lower_ordering}
use Rattle.placement.proofs.Laws.Maps.{lawful}
use Rattle.placement.proofs.Laws.Kinds.{ordered, one_place}
use Rattle.placement.proofs.Laws.Tables.{how_many_most}
use Rattle.sizes.proofs.Laws.Sizes.{some_blocks}
use Rattle.skiplist.specs.Lists.{chunks, blocks}
use Rattle.skiplist.specs.Image.{image, orders_in, orders_good, fits, is_image}
use Rattle.skiplist.specs.Rules.{Rules, ImageExactly}
use Rattle.skiplist.specs.Promise.{ImageReadsBack}
use Rattle.skiplist.proofs.Laws.Kept.{fits_parts, fits_make}
use Rattle.skiplist.proofs.Laws.Rising.{lower_chunk, chunks_rising}
use Rattle.skiplist.proofs.Laws.Paths.{inside}
use Rattle.skiplist.proofs.Laws.Third.{image_parts}
use Rattle.skiplist.proofs.Laws.Readback.{reads_back}
use Rattle.skiplist.proofs.Laws.Arranged.{blocks_placing, the_blocks}

-- chunks by rising labels that all stand are no more than the full blocks
pub fewer : (m : ℕ) → zero < m → (cs : List Chunk) (bs : List (Block Chunk)) → length bs ≡ m → Rising lower_chunk cs → ((c : Chunk) → Among c cs → Stands m bs c) → length cs ≤ how_many bs
fewer m some [] bs p u all = omega arith
fewer m some (c ∷ cs) bs p u all =
    let t = all c (inl refl) in
    omega (
      arith,
      fewer m some cs (stored m bs t.at empty) (stored_long m bs t.at empty p) u.1 (λ d a. other d a (before_store m bs t.at p some empty d (all d (inr a)))),
      store_count m bs t.at (holds c) empty p some t.is,
    )
  where
    other : (d : Chunk) → Among d cs → (around m bs (all c (inl refl)).at ≡ holds d) ⊎ Stands m (stored m bs (all c (inl refl)).at empty) d → Stands m (stored m bs (all c (inl refl)).at empty) d
    other d a (inl e) = absurd (true≢false (cc (u.0 d a, lower_ordering.strict c.label, (all c (inl refl)).is)))
    other d a (inr w) = w

-- WHAT THE RULES GIVE
module _ (s : Sizes) (os : List Order) (x : List ℕ) (w : Rules s os x) where
  some : zero < s.blocks
  some = some_blocks s w.allowed

  stands : (c : Chunk) → Among c (chunks s os) → Stands s.blocks w.table c
  stands c a = let t = w.there c a in record { at = t.0; is = around_inside s.blocks w.table t.0 (omega (arith, t.1, w.number)) ∙ t.2 }

  ruled : Rule3 (chunk_home s) (chunk_before s) s.blocks w.table
  unfolding around
  ruled c k h e l g = w.smaller ((chunk_home s c + k) % s.blocks) c e l (λ u le q. omega (arith, steps_apart s.blocks (chunk_home s c) u k (omega arith) h q))

  room : length (chunks s os) ≤ s.blocks
  room = omega (arith, fewer s.blocks some (chunks s os) w.table w.number (chunks_rising s os w.good) stands, how_many_most w.table, w.number)

  rules_fit : fits s os ≡ true
  rules_fit = fits_make s os w.few room

  rules_image : x ≡ image s os
  unfolding image around
  rules_image =
      w.bytes ∙ ap (λ (z : List (Block Chunk)). header s (length os) ++ all_bytes s z)
      (the_blocks s os w.table some w.good room w.number ruled stands (λ c t. w.only (t.at % s.blocks) c t.is))

-- AN IMAGE obeys the rules
module _ (s : Sizes) (os : List Order) (m : made s ≡ true) (g : orders_good s 1 os ≡ true) (f : fits s os ≡ true) where
  some_block : zero < s.blocks
  some_block = some_blocks s m

  placing : Placing (chunk_home s) (chunk_before s) s.blocks (chunks s os) (replicate s.blocks empty) (blocks s os)
  placing = blocks_placing s os m g f

  below : (j : ℕ) (c : Chunk) → get_or (blocks s os) j empty ≡ holds c → j < s.blocks
  below j c e = omega (arith, inside (blocks s os) j c e, placing.long)

  here : (j : ℕ) (c : Chunk) → get_or (blocks s os) j empty ≡ holds c → around s.blocks (blocks s os) j ≡ holds c
  here j c e = around_inside s.blocks (blocks s os) j (below j c e) ∙ e

  placed_only : (c : Chunk) → Among c (chunks s os) ⊎ Stands s.blocks (replicate s.blocks empty) c → Among c (chunks s os)
  placed_only c (inl a) = a
  placed_only c (inr t) = absurd (nothing (ordered (lawful s some_block)) c t)

  passed : (j : ℕ) (c : Chunk) → get_or (blocks s os) j empty ≡ holds c → (t : ℕ) → ((u : ℕ) → u ≤ t → (chunk_home s c + u) % s.blocks ≡ j → ⊥) →
      holds_smaller (chunk_before s) c (get_or (blocks s os) ((chunk_home s c + t) % s.blocks) empty) ≡ true
  unfolding around
  passed j c e t never =
      let y = far (ordered (lawful s some_block)) (blocks s os) c j (here j c e) in
      placing.rule_3 c y.steps y.few y.is t (before y (dec_lt t y.steps))
    where
      before : (y : Far (chunk_home s) s.blocks (blocks s os) c j) → Dec (t < y.steps) → t < y.steps
      before y (yes h) = h
      before y (no h) = absurd (never y.steps (omega arith) (y.there ∙ mod-eq_of_lt (below j c e)))

  pub image_rules : Rules s os (image s os)
  unfolding image around
  image_rules = record {
    allowed = m;
    good = g;
    few = (fits_parts s os f).few;
    table = blocks s os;
    bytes = refl;
    number = placing.long;
    there = λ c a. let t = placing.comes c a in (t.at % s.blocks, omega (arith, mod-lt t.at some_block, placing.long), t.is);
    only = λ j c e. placed_only c (placing.only c (record { at = j; is = here j c e }));
    once = λ i j c e h.
        sym (mod-eq_of_lt (below i c e)) ∙ sym (one_place (lawful s some_block) (blocks s os) placing.rule_3 c c i j (here i c e) (here j c h) refl)
        ∙ mod-eq_of_lt (below j c h);
    smaller = passed;
  }

pub image_exactly : ImageExactly
unfolding ImageExactly ImageReadsBack
image_exactly = (
  λ x e. let w = image_parts x e in subst (Rules (sizes_in x) (orders_in x)) w.bytes (image_rules (sizes_in x) (orders_in x) w.sizes_made w.orders_kept.good w.orders_kept.fit),
  λ s os x w.
      let e = rules_image s os x w in
      let q = reads_back s os w.allowed w.good (rules_fit s os x w) in
      (ap is_image e ∙ q.0, ap sizes_in e ∙ q.2, ap orders_in e ∙ q.1, e),
)
