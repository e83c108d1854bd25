-- The orders gathered from the blocks, in whatever order their chunks stand, are those placed.
use mathlib.Core.Path.{◌≡◌, refl, sym, ap, ◌∙◌}
use mathlib.Core.Bool.{Bool, true, cond, true≢false}
use mathlib.Core.List.{List, [], ◌∷◌, ◌++◌}
use mathlib.Core.Logic.{◌⊎◌, inl, inr}
use Prim.Native.Nat.{ℕ, zero, suc, ◌+◌, ◌%◌, ◌≤◌, ◌<◌}
use native.Mathlib.Nat.{mod-lt}
use native.Mathlib.Omega.{arith}
use borrow.Author.Tests.{lt-ltb}
use lib.Dec.{eqb}
use lib.ListN.{length, get_or, set, replicate, length-replicate}
use Rattle.sizes.specs.Orders.{sort_in, sorted}
use Rattle.placement.specs.Blocks.{Among, Block, empty, holds, around, stored, Stands, placed, how_many}
use Rattle.placement.specs.Chunks.{Chunk, chunk_home, chunk_before}
use Rattle.sizes.specs.declared.Sizes.{Sizes}
use Rattle.placement.specs.declared.Order.{Order}
use Rattle.placement.proofs.Laws.Blocks.{around_inside, stored_long}
use Rattle.placement.proofs.Laws.Store.{after_store}
use Rattle.placement.proofs.Laws.Placed.{how_many_empty, store_count, lands, nothing}
use Rattle.placement.proofs.Laws.Labels.{home_inside}
use Rattle.placement.proofs.Laws.Maps.{lawful}
use Rattle.placement.proofs.Laws.Kinds.{ordered}
use Rattle.placement.proofs.Laws.Cells.{cond_out, cond_valid}
use Rattle.placement.proofs.Laws.Sorted.{sort_in_only, sorted_only, sorted_long}
use Rattle.skiplist.specs.Lists.{front, chunks, in_order, blocks}
use Rattle.skiplist.specs.Image.{all_into, gathered}
use Rattle.skiplist.proofs.Laws.Parts.{Up, up_from, up_front, below}
use Rattle.skiplist.proofs.Laws.Edits.{beta_least}
use Rattle.skiplist.proofs.Laws.Content.{picked}
use Rattle.skiplist.proofs.Laws.Nodes.{all_nodes, nodes_one, all_into_append, all_comm, all_rising}

-- a chunk's nodes, if it is of level 1
unfoldable ones : Chunk → List Order
ones c = cond (eqb c.label.level 1) c.nodes []

gathered_more : (c : Chunk) (bs : List (Block Chunk)) (acc : List Order) → gathered (holds c ∷ bs) acc ≡ gathered bs (all_into (ones c) acc)
unfolding gathered ones all_into
gathered_more c bs acc = ap (gathered bs) (cond_out (λ (ns : List Order). all_into ns acc) (eqb c.label.level 1) c.nodes [])

-- NODES APART: all of some are below all of the others, so they may be gathered in either order
abbrev Apart : (ns vs : List Order) → Type 0
Apart ns vs = (a : ℕ) × ((Up a ns × (below a vs ≡ true)) ⊎ (Up a vs × (below a ns ≡ true)))

turned : (ns vs : List Order) → Apart ns vs → Apart vs ns
turned ns vs (a, inl w) = (a, inr w)
turned ns vs (a, inr w) = (a, inl w)

apart_comm : (ns vs acc : List Order) → Apart ns vs → all_into ns (all_into vs acc) ≡ all_into vs (all_into ns acc)
apart_comm ns vs acc (a, inl (u, e)) = all_comm a ns vs acc u e
apart_comm ns vs acc (a, inr (u, e)) = sym (all_comm a vs ns acc u e)

-- from those of all blocks
abbrev Beside : List Order → List (Block Chunk) → Type 0
Beside ns bs = (j : ℕ) (c : Chunk) → j < length bs → get_or bs j empty ≡ holds c → Apart ns (ones c)

-- gathered before such blocks or after them
gathered_past : (ns : List Order) (bs : List (Block Chunk)) (acc : List Order) → Beside ns bs → gathered bs (all_into ns acc) ≡ all_into ns (gathered bs acc)
unfolding gathered
gathered_past ns [] acc h = refl
gathered_past ns (empty ∷ bs) acc h = gathered_past ns bs acc (λ j c l e. h (suc j) c (omega arith) e)
gathered_past ns (holds c ∷ bs) acc h =
    gathered_more c bs (all_into ns acc) ∙ ap (gathered bs) (sym (apart_comm ns (ones c) acc (h 0 c (omega arith) refl)))
    ∙ gathered_past ns bs (all_into (ones c) acc) (λ j d l e. h (suc j) d (omega arith) e) ∙ ap (all_into ns) (sym (gathered_more c bs acc))

-- a chunk comes into a free block
gathered_set : (bs : List (Block Chunk)) (j : ℕ) (c : Chunk) (acc : List Order) → j < length bs → get_or bs j empty ≡ empty → Beside (ones c) bs →
    gathered (set bs j (holds c)) acc ≡ all_into (ones c) (gathered bs acc)
unfolding gathered
gathered_set [] j c acc l e h = absurd (omega arith)
gathered_set (empty ∷ bs) zero c acc l e h = gathered_more c bs acc ∙ gathered_past (ones c) bs acc (λ j d l e. h (suc j) d (omega arith) e)
gathered_set (holds d ∷ bs) zero c acc l e h = absurd (true≢false cc)
gathered_set (empty ∷ bs) (suc j) c acc l e h = gathered_set bs j c acc (omega arith) e (λ j d l e. h (suc j) d (omega arith) e)
gathered_set (holds d ∷ bs) (suc j) c acc l e h = gathered_set bs j c _ (omega arith) e (λ j d l e. h (suc j) d (omega arith) e)

-- CHUNKS APART: each from all that follow
abbrev Spread : List Chunk → Type 0
Spread [] = Unit {0}
Spread (c ∷ cs) = ((d : Chunk) → Among d cs → Apart (ones c) (ones d)) × Spread cs

-- a bound between rising parts
record Bound (a : ℕ) (ns rs : List Order) : Type 0 where
  pub at : ℕ
  pub from : a ≤ at
  pub under : below at ns ≡ true
  pub above : Up at rs

bound : (a : ℕ) (ns rs : List Order) → Up a (ns ++ rs) → Bound a ns rs
unfolding below
bound a [] rs u = record { at = a; from = omega arith; under = refl; above = u }
bound a (n ∷ ns) rs u =
    let w = bound (suc n.key) ns rs u.1 in
    record { at = w.at; from = omega (arith, u.0, w.from); under = rw (lt-ltb n.key w.at (omega (arith, w.from))) w.under; above = w.above }

-- .. where all nodes rise
up_each : (a : ℕ) (cs : List Chunk) (d : Chunk) → Up a (all_nodes 1 cs) → Among d cs → Up a (ones d)
unfolding picked ones
up_each a [] d u m = absurd m
up_each a (c ∷ cs) d u (inl e) = rw e (up_front (ones c) (all_nodes 1 cs) a u)
up_each a (c ∷ cs) d u (inr m) = let w = bound a (ones c) (all_nodes 1 cs) u in up_from (ones d) w.from (up_each w.at cs d w.above m)

up_spread : (a : ℕ) (cs : List Chunk) → Up a (all_nodes 1 cs) → Spread cs
unfolding picked ones
up_spread a [] u = tt
up_spread a (c ∷ cs) u =
    let w = bound a (ones c) (all_nodes 1 cs) u in
    (λ d m. (w.at, inr (up_each w.at cs d w.above m, w.under)), up_spread w.at cs w.above)

-- SORTED they stay apart, and give the same
module _ (before : Chunk → Chunk → Bool) where
  spread_in : (c : Chunk) (ds : List Chunk) → ((d : Chunk) → Among d ds → Apart (ones c) (ones d)) → Spread ds → Spread (sort_in before c ds)
  unfolding sort_in
  spread_in c [] h u = (h, u)
  spread_in c (d ∷ ds) h u =
      cond_valid Spread (before c d) (h, u) (λ e m. other e (sort_in_only before c ds e m), spread_in c ds (λ e m. h e (inr m)) u.1)
    where
      other : (e : Chunk) → (e ≡ c) ⊎ Among e ds → Apart (ones d) (ones e)
      other e (inl q) = rw q (turned (ones c) (ones d) (h d (inl refl)))
      other e (inr m) = u.0 e m

  into_in : (c : Chunk) (ds : List Chunk) (acc : List Order) → ((d : Chunk) → Among d ds → Apart (ones c) (ones d)) →
      all_into (all_nodes 1 (sort_in before c ds)) acc ≡ all_into (all_nodes 1 ds) (all_into (ones c) acc)
  unfolding sort_in picked ones
  into_in c [] acc h = all_into_append (ones c) [] acc
  into_in c (d ∷ ds) acc h =
      cond_valid (λ (es : List Chunk). all_into (all_nodes 1 es) acc ≡ all_into (all_nodes 1 (d ∷ ds)) (all_into (ones c) acc)) (before c d)
      (all_into_append (ones c) (all_nodes 1 (d ∷ ds)) acc)
      (all_into_append (ones d) (all_nodes 1 (sort_in before c ds)) acc ∙ into_in c ds (all_into (ones d) acc) (λ e m. h e (inr m))
      ∙ ap (all_into (all_nodes 1 ds)) (apart_comm (ones c) (ones d) acc (h d (inl refl))) ∙ sym (all_into_append (ones d) (all_nodes 1 ds) (all_into (ones c) acc)))

  spread_sorted : (cs : List Chunk) → Spread cs → Spread (sorted before cs)
  unfolding sorted
  spread_sorted [] u = tt
  spread_sorted (c ∷ cs) u = spread_in c (sorted before cs) (λ d m. u.0 d (sorted_only before cs d m)) (spread_sorted cs u.1)

  into_sorted : (cs : List Chunk) (acc : List Order) → Spread cs → all_into (all_nodes 1 (sorted before cs)) acc ≡ all_into (all_nodes 1 cs) acc
  unfolding sorted picked ones
  into_sorted [] acc u = refl
  into_sorted (c ∷ cs) acc u =
      into_in c (sorted before cs) acc (λ d m. u.0 d (sorted_only before cs d m)) ∙ into_sorted cs (all_into (ones c) acc) u.1
      ∙ sym (all_into_append (ones c) (all_nodes 1 cs) acc)

module _ (s : Sizes) (some : zero < s.blocks) where
  -- CHUNKS APART, placed one after the other
  placed_gathers : (cs : List Chunk) (bs : List (Block Chunk)) → Spread cs → ((x c : Chunk) → Stands s.blocks bs x → Among c cs → Apart (ones c) (ones x)) → length bs ≡ s.blocks →
      how_many bs + length cs ≤ s.blocks → gathered (placed (chunk_home s) s.blocks cs bs) [] ≡ all_into (all_nodes 1 cs) (gathered bs [])
  unfolding placed picked all_into ones around stored
  placed_gathers [] bs u w q h = refl
  placed_gathers (c ∷ cs) bs u w q h =
      let f = lands s.blocks c bs (chunk_home s c) (home_inside s some c.label) q (omega arith) in
      let i = chunk_home s c + f.steps in
      ap (λ (z : List (Block Chunk)). gathered (placed (chunk_home s) s.blocks cs z) []) f.is
      ∙ placed_gathers cs (stored s.blocks bs i (holds c)) u.1 (λ x d t m. go x d m (after_store s.blocks bs i q some c x t))
      (stored_long s.blocks bs i (holds c) q) (omega (arith, store_count s.blocks bs i empty (holds c) q some f.free))
      ∙ ap (all_into (all_nodes 1 cs)) (gathered_set bs (i % s.blocks) c [] (omega (arith, mod-lt i some)) f.free
      (λ j x l e. w x c (record { at = j; is = around_inside s.blocks bs j (omega arith) ∙ e }) (inl refl)))
      ∙ sym (all_into_append (ones c) (all_nodes 1 cs) (gathered bs []))
    where
      go : (x d : Chunk) → Among d cs → (x ≡ c) ⊎ Stands s.blocks bs x → Apart (ones d) (ones x)
      go x d m (inl e) = rw e (turned (ones c) (ones d) (u.0 d m))
      go x d m (inr t) = w x d t (inr m)

gathered_none : (n : ℕ) → gathered (replicate n empty) [] ≡ []
unfolding gathered
gathered_none zero = refl
gathered_none (suc n) = gathered_none n

-- WHAT THE BLOCKS HOLD is what was placed
pub blocks_gather : (s : Sizes) (os : List Order) → 0 < s.nodes → 0 < s.blocks → Up 1 os → length (chunks s os) ≤ s.blocks → gathered (blocks s os) [] ≡ os
unfolding blocks all_into front
blocks_gather s os b some u h =
    let e = nodes_one s os b (omega (arith, beta_least s)) in
    let v = up_spread 0 (chunks s os) (rw e (omega arith, u)) in
    placed_gathers s some (in_order s os) (replicate s.blocks empty) (spread_sorted (chunk_before s) (chunks s os) v) (λ x c t m. absurd (nothing (ordered (lawful s some)) x t))
    (length-replicate s.blocks empty) (omega (arith, how_many_empty Chunk s.blocks, sorted_long (chunk_before s) (chunks s os)))
    ∙ into_sorted (chunk_before s) (chunks s os) (gathered (replicate s.blocks empty) []) v ∙ rw (e, gathered_none s.blocks) (all_rising [] os u)
