-- Where the search for each label that stands ends at its block, rule 3 holds: what a check of the bytes rests on.
use Rattle.std.proofs.Common.{◌≡◌, ℕ, zero, suc, ◌+◌, ◌*◌, ◌%◌, ◌<◌, Bool, true, false, cond, ◌≢◌, List, [], ◌++◌, length, get_or, take, sym, refl, ap, ◌∙◌, subst, true≢false, add-zero, mod-lt, arith, length-take-le, Some}
use Rattle.placement.specs.Blocks.{Block, empty, holds, around, holds_smaller, Stands, Rule3, how_many}
use Rattle.sizes.specs.declared.Sizes.{Sizes}
use Rattle.placement.specs.Labels.{label, before}
use Rattle.placement.specs.Chunks.{Chunk, chunk_home, chunk_before, all_bytes}
use Rattle.sizes.specs.Sizes.{made}
use Rattle.sizes.specs.Header.{sizes_in, block_long}
use Rattle.sizes.specs.Parts.{block_in}
use Rattle.placement.specs.Decode.{blocks_in}
use Rattle.placement.specs.declared.Label.{Label}
use Rattle.placement.specs.Place.{label_in, probe, search_in}
use Rattle.placement.specs.Maps.{chunk, map_of, Holdable, Table}
use Rattle.placement.proofs.Laws.Maps.{lawful, nodes_at}
use Rattle.placement.proofs.Laws.Kinds.{holds_read}
use Rattle.sizes.proofs.Laws.Round.{steps_same}
use Rattle.sizes.proofs.Laws.Sizes.{some_blocks}
use Rattle.placement.proofs.Laws.Labels.{home_inside}
use Rattle.placement.proofs.Laws.Search.{at_place, absent, search_step, search_from}
use Rattle.placement.proofs.Laws.Bridge.{Good, held, AllGood, good_at, label_of, coding}
use Rattle.placement.proofs.Laws.Coded.{label_blocks}
use Rattle.placement.proofs.Laws.Decoding.{Clean, table_again, blocks_good, blocks_many, blocks_full}
use Rattle.placement.proofs.Laws.Finding.{place_of, probe_theory}
use Rattle.placement.proofs.Laws.Edits.{search_blocks}
use Rattle.sizes.proofs.Laws.Numbers.{Bytes}

-- the search for the label of c, from i on, ends at the place j
pub record Ended (before : Chunk → Chunk → Bool) (m : ℕ) (c : Chunk) (bl : List (Block Chunk)) (fuel i j : ℕ) : Type 0 where
  pub steps : ℕ
  pub few : steps < fuel
  pub there : (i + steps) % m ≡ j
  pub smaller : (l : ℕ) → l < steps → holds_smaller before c (around m bl (i + l)) ≡ true

module _ (before : Chunk → Chunk → Bool) (m : ℕ) (c : Chunk) (bl : List (Block Chunk)) where
  same_at : (a b : ℕ) → Some a ≡ Some b → a ≡ b
  same_at a b e = cc

  pub ended : (f i j : ℕ) → place_of m (search_from before f i m c bl) ≡ Some j → Ended before m c bl f i j
  unfolding search_from
  ended zero i j e = absurd (true≢false cc)
  ended (suc f) i j e = go (around m bl i) refl e (λ z. ended f (suc i) j z)
    where
      later : (d : Chunk) → around m bl i ≡ holds d → before d c ≡ true → Ended before m c bl f (suc i) j → Ended before m c bl (suc f) i j
      later d z h r = record { steps = suc r.steps; few = omega (arith, r.few); there = ap (λ (n : ℕ). n % m) (omega arith) ∙ r.there; smaller = all }
        where
          all : (l : ℕ) → l < suc r.steps → holds_smaller before c (around m bl (i + l)) ≡ true
          all zero w = rw (add-zero, z) h
          all (suc l) w = ap (λ (n : ℕ). holds_smaller before c (around m bl n)) (omega arith) ∙ r.smaller l (omega arith)

      go : (b : Block Chunk) → around m bl i ≡ b → place_of m (search_step before c i b (search_from before f (suc i) m c bl)) ≡ Some j
          → (place_of m (search_from before f (suc i) m c bl) ≡ Some j → Ended before m c bl f (suc i) j) → Ended before m c bl (suc f) i j
      go empty z e rest = absurd (true≢false cc)
      go (holds d) z e rest = test (before d c) (before c d) refl e
        where
          test : (p q : Bool) → before d c ≡ p → place_of m (cond p (search_from before f (suc i) m c bl) (cond q absent (at_place i d))) ≡ Some j
              → Ended before m c bl (suc f) i j
          test true q h e = later d z h (rest e)
          test false true h e = absurd (true≢false cc)
          test false false h e = record { steps = 0; few = omega arith; there = rw add-zero (same_at (i % m) j e); smaller = λ l w. absurd (omega arith) }

module _ (s : Sizes) (some : 0 < s.blocks) (bl : List (Block Chunk)) (v : AllGood s bl) where
  -- the search over the labels finds every chunk in its block
  abbrev pub AllFound : Type 0
  AllFound = (c : Chunk) (i : ℕ) → i < s.blocks → get_or bl i empty ≡ holds c → probe (before s) (λ j. label_of (get_or bl j empty)) s.blocks c.label s.blocks (chunk_home s c) ≡ Some i

  -- what stands in a good block can be held
  holdable : (c : Chunk) (i : ℕ) → get_or bl i empty ≡ holds c → Holdable s c
  holdable c i z = go (rw z at (good_at s v i))
    where
      go : Good s (holds c) → Holdable s c
      go (held q) = q

  -- RULE 3
  pub found_rule_3 : AllFound → Rule3 (chunk_home s) (chunk_before s) s.blocks bl
  unfolding around
  found_rule_3 found c k few z =
      let i : ℕ = (chunk_home s c + k) % s.blocks in
      let e : place_of s.blocks (search_from (chunk_before s) s.blocks (chunk_home s c) s.blocks c bl) ≡ Some i =
      sym (probe_theory s c.label (holdable c i z).level c.nodes s.blocks s.blocks (chunk_home s c) bl v) ∙ found c i (mod-lt (chunk_home s c + k) some) z in
      let r = ended (chunk_before s) s.blocks c bl s.blocks (chunk_home s c) i e in
      λ l w. r.smaller l (omega (arith, steps_same s.blocks (chunk_home s c) (home_inside s some c.label) r.steps k r.few few r.there))

-- a table, from blocks where each search ends at its block
module _ (s : Sizes) (good : made s ≡ true) (hd : List ℕ) (head : length hd ≡ 53) (sizes : sizes_in hd ≡ s) (bl : List (Block Chunk)) (v : AllGood s bl) (long : length bl ≡ s.blocks) where
  -- THE BYTES keep the map that is read off the blocks
  pub searched_keeps : ((c : Chunk) → Stands s.blocks bl c → c.nodes ≢ [])
      → ((c : Chunk) (i : ℕ) → i < s.blocks → get_or bl i empty ≡ holds c → search_in s (hd ++ all_bytes s bl) c.label ≡ Some i)
      → Table s (nodes_at bl) (how_many bl) hd (hd ++ all_bytes s bl)
  unfolding nodes_at map_of around
  searched_keeps full found =
      let some = some_blocks s good in
      let rule = found_rule_3 s some bl v
      (λ c i h z. sym (search_blocks s some hd head bl v long c.label) ∙ found c i h z) in
      let map = holds_read (lawful s some) bl long rule full in
      record {
        good = good;
        head = head;
        sizes = sizes;
        sound = λ l f i n. let t = map.all (label l f i) n in holdable s some bl v (chunk (nodes_at bl) l f i) (t.at % s.blocks) t.is;
        blocks = bl;
        is = refl;
        keeps = record { long = long; rule_3 = rule; map = map; count = refl };
      }

-- THE CHECK OF BYTES: clean blocks, and each label that stands is found where it stands
module _ (s : Sizes) (good : made s ≡ true) (bs : List ℕ) (long : length bs ≡ 53 + s.blocks * block_long s) (sizes : sizes_in (take 53 bs) ≡ s) (bytes : Bytes bs)
    (clean : (i : ℕ) → i < s.blocks → Clean s (block_in (block_long s) bs i))
    (found : (i : ℕ) → i < s.blocks → (label_in (block_long s) bs i).level ≢ 0 → search_in s bs (label_in (block_long s) bs i) ≡ Some i) where
  all : AllGood s (blocks_in s bs)
  all = blocks_good s bs long bytes clean

  is : bs ≡ take 53 bs ++ all_bytes s (blocks_in s bs)
  is = table_again s bs long bytes clean

  head : length (take 53 bs) ≡ 53
  head = length-take-le 53 bs (omega arith)

  label_is : (c : Chunk) (i : ℕ) → i < s.blocks → get_or (blocks_in s bs) i empty ≡ holds c → label_in (block_long s) bs i ≡ c.label
  label_is c i h e =
      ap (λ (x : List ℕ). label_in (block_long s) x i) is
      ∙ label_blocks (coding s) s.blocks (some_blocks s good) (take 53 bs) head (blocks_in s bs) all (blocks_many s bs long bytes clean) i h ∙ ap label_of e

  pub checked_keeps : Table s (nodes_at (blocks_in s bs)) (how_many (blocks_in s bs)) (take 53 bs) bs
  unfolding around
  checked_keeps =
      subst (λ (x : List ℕ). Table s (nodes_at (blocks_in s bs)) (how_many (blocks_in s bs)) (take 53 bs) x) (sym is)
      (searched_keeps s good (take 53 bs) head sizes (blocks_in s bs) all (blocks_many s bs long bytes clean)
      (λ c t. blocks_full s bs long bytes clean (t.at % s.blocks) c t.is)
      (λ c i h e.
      let l = label_is c i h e in
      let some = (holdable s (some_blocks s good) (blocks_in s bs) all c i e).level in
      subst (λ (x : List ℕ). search_in s x c.label ≡ Some i) is
      (subst (λ (w : Label). search_in s bs w ≡ Some i) l (found i h (λ z. omega (arith, ap (λ (w : Label). w.level) l))))))
