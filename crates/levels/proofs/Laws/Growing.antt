-- Laws of a growth: the chunks of so many nodes, what a key adds at a level, and the way down to it.
use Rattle.std.specs.Int.{div_ceil}
use Rattle.std.proofs.lemmas.Grind.{div_ceil_times}
use mathlib.Core.Path.{◌≡◌, refl, sym, ap, ◌∙◌}
use mathlib.Core.Bool.{Bool, true, false}
use mathlib.Core.List.{List, ◌∷◌, ◌++◌, map, map-append}
use Prim.Native.Nat.{ℕ, zero, suc, ◌+◌, ◌*◌, ◌-◌, ◌/◌, ◌≤◌, ◌<◌}
use native.Mathlib.Decide.{dec_lt}
use native.Mathlib.Nat.{zero-add, suc-mul, div-le_self, div-mul-le_self, le-div_iff_mul-le}
use native.Mathlib.Omega.{arith}
use borrow.Author.Tests.{eqb-true, eqb-false}
use lib.Dec.{eqb}
use lib.ListN.{length, take, drop, length-append, length-map}
use Rattle.sizes.specs.Sizes.{beta}
use Rattle.sizes.specs.Hash.{level}
use Rattle.sizes.specs.Header.{header}
use Rattle.placement.specs.Maps.{Map, map_of, Table}
use Rattle.sizes.specs.declared.Sizes.{Sizes}
use Rattle.placement.specs.declared.Order.{Order}
use Rattle.sizes.proofs.Laws.Sizes.{some_nodes}
use Rattle.skiplist.specs.Lists.{masked, first_key, chunks, blocks}
use Rattle.skiplist.proofs.Laws.Parts.{Up, below, up_front, good_up, part}
use Rattle.skiplist.proofs.Laws.Edits.{head_part, tail_part, part_at, level_most}
use Rattle.skiplist.proofs.Laws.Descent.{last_from, step_down, head_below, tail_above}
use Rattle.skiplist.proofs.Laws.Count.{pieces, pieces_up, pieces_cut, count, counts, count_low, count_same, count_high, length_chunks}
use Rattle.skiplist.proofs.Laws.Faithful.{map_is}
use Rattle.skiplist.proofs.Laws.Masks.{map_take, map_drop, below_masked, up_masked, last_masked}
use Rattle.skiplist.proofs.Laws.Image.{image_keeps}
use Rattle.levels.specs.declared.Spot.{Spot}
use Rattle.levels.specs.Edit.{Pieces, Scans, Way, Grows}
use Rattle.levels.specs.Scan.{Grown}
use Rattle.levels.proofs.Laws.Chunking.{pieces_most, pieces_over, pieces_full, pieces_up_to}

-- THE CHUNKS of so many nodes: their number over B, rounded up
pub ceil_pieces : (b n : ℕ) → 0 < b → div_ceil n b ≡ pieces b n
ceil_pieces b n h = go (div_ceil n b) (div_ceil_times n b h)
  where
    go : (q : ℕ) → (n ≤ q * b) × (q * b < n + b) → q ≡ pieces b n
    go zero (l, u) = omega (arith, pieces_most b n 0 h l)
    go (suc q) (l, u) = last (dec_lt q (pieces b n))
      where
        last : Dec (q < pieces b n) → suc q ≡ pieces b n
        last (yes d) = omega (arith, pieces_most b n (suc q) h l)
        last (no d) = absurd (omega (arith, pieces_over b n q h (omega (arith, d)), suc-mul q b))

pub pieces_few : (b n : ℕ) → pieces b n ≤ n
unfolding pieces
pieces_few b zero = omega arith
pieces_few b (suc n) = omega (arith, div-le_self n b)

-- WHAT A KEY ADDS at a level: at most 1 in its own, at most 2 below
pub pieces_step : (b n : ℕ) → 0 < b → pieces b (suc n) ≤ pieces b n + 1
pieces_step b n h = omega (arith, pieces_full b (suc n) h (omega arith), pieces_up_to b (suc n - b) n h (omega arith))

pub pieces_twice : (b p q : ℕ) → 0 < b → pieces b p + pieces b (suc q) ≤ pieces b (p + q) + 2
unfolding pieces
pieces_twice b zero q h = let e : 0 + q ≡ q = omega arith in rw e (omega (arith, pieces_step b q h))
pieces_twice b (suc p) q h =
    let e : suc p + q ≡ suc (p + q) = omega arith in
    rw e
    (omega (arith, (le-div_iff_mul-le {x = p / b + q / b} {y = p + q} h).1 (omega (arith, div-mul-le_self p b, div-mul-le_self q b))))

-- .. and none are fewer
pieces_both : (b p q : ℕ) → 0 < b → pieces b (p + q) ≤ pieces b p + pieces b (suc q)
pieces_both b zero q h = rw (zero-add q) (omega (arith, pieces_up b q h))
pieces_both b (suc p) q h = pieces_cut b (suc p) q h (omega arith)

module _ (b : ℕ) (pos : 0 < b) (k l : ℕ) (x : Spot) where
  module _ (p q : ℕ) (ep : p ≡ pieces b (x.size + 1)) (eq : q ≡ pieces b x.size) where
    one_more : p ≡ pieces b (suc x.size)
    one_more = let e : x.size + 1 ≡ suc x.size = omega arith in ep ∙ ap (pieces b) e

    pub same_less : q ≤ p
    same_less = omega (arith, pieces_up b x.size pos, one_more)

    pub grown_same : k ≡ l → Grown b k l x (p - q)
    grown_same e = record {
      same = λ g. omega (arith, same_less, one_more);
      under = λ g. absurd (omega arith);
      few = omega (arith, pieces_step b x.size pos, one_more);
    }

  module _ (p q r : ℕ) (ep : p ≡ pieces b x.below) (eq : q ≡ pieces b (x.size - x.below + 1)) (er : r ≡ pieces b x.size) (le : x.below ≤ x.size) where
    both : x.below + (x.size - x.below) ≡ x.size
    both = omega arith

    behind : q ≡ pieces b (suc (x.size - x.below))
    behind = let e : x.size - x.below + 1 ≡ suc (x.size - x.below) = omega arith in eq ∙ ap (pieces b) e

    pub under_less : r ≤ p + q
    under_less = omega (arith, pieces_both b x.below (x.size - x.below) pos, ap (pieces b) both, ep, behind, er)

    pub grown_under : (k ≡ l → ⊥) → Grown b k l x (p + q - r)
    grown_under n = record {
      same = λ g. absurd (n g);
      under = λ g. omega (arith, under_less, ep, behind, er);
      few = omega (arith, pieces_twice b x.below (x.size - x.below) pos, ap (pieces b) both, ep, behind, er);
    }

-- THE MAP OF AN IMAGE, level by level
module _ (s : Sizes) (os : List Order) (b : 0 < s.nodes) (u : Up 1 os) (k : ℕ) (pos : 0 < k) (low : k ≤ beta s) where
  pub level_nodes : (f i : ℕ) → map_of (chunks s os) k f i ≡ take s.nodes (drop (i * s.nodes) (map (masked k) (part s os k f)))
  level_nodes f i = map_is s k f i os b u pos low ∙ rw (map_take, map_drop)

  -- what a partition of an image's level has, as pieces
  pub as_pieces : (F : Map) (f : ℕ) (ns : List Order) → part s os k f ≡ ns → ((i : ℕ) → F k f i ≡ map_of (chunks s os) k f i) → Pieces F s.nodes k f 0 (map (masked k) ns)
  unfolding Pieces
  as_pieces F f ns e h n = rw (zero-add n) (h n ∙ level_nodes f n ∙ ap (λ (z : List Order). take s.nodes (drop (n * s.nodes) (map (masked k) z))) e)

-- THE WAY DOWN to a key
module _ (s : Sizes) (bs : List ℕ) (y : ℕ) (xs zs : List Order) (w : Way s bs y xs zs) where
  pub rising : Up 1 (xs ++ zs)
  rising = good_up s 1 (xs ++ zs) w.orders

  module _ (k : ℕ) (lo : 0 < k) (hi : k ≤ beta s) (f : ℕ) (ef : f ≡ first_key (head_part s k xs)) where
    pub there : Pieces (map_of (chunks s (xs ++ zs))) s.nodes k f 0 (map (masked k) (head_part s k xs) ++ map (masked k) (tail_part s k zs))
    there =
        rw map-append at
        (as_pieces s (xs ++ zs) (some_nodes s w.good) rising k lo hi (map_of (chunks s (xs ++ zs))) f (head_part s k xs ++ tail_part s k zs)
        (ap (part s (xs ++ zs) k) ef ∙ part_at s k xs zs rising) (λ i. refl))

    unfoldable pub kept : Table s (map_of (chunks s (xs ++ zs))) (length (chunks s (xs ++ zs))) (header s (length (xs ++ zs))) bs
    unfolding image_keeps
    kept =
        let t = image_keeps s (xs ++ zs) w.good w.orders w.fit in
        record { good = t.good; head = t.head; sizes = t.sizes; sound = t.sound; blocks = blocks s (xs ++ zs); is = w.is ∙ t.is; keeps = t.keeps }

    pub lower : below y (map (masked k) (head_part s k xs)) ≡ true
    lower = below_masked k y (head_part s k xs) (head_below s k y xs w.pos w.low)

    pub upper : Up y (map (masked k) (tail_part s k zs))
    upper = up_masked k y (tail_part s k zs) (tail_above s k y zs w.high)

    abbrev nodes : List Order → List Order
    nodes ns = map (masked k) ns

    module _ (x : Spot) where
      -- what a scan then says
      module _ (h : Scans s bs k f y x) where
        scanned : x ≡ record { below = length (nodes (head_part s k xs)); last = last_from 0 (nodes (head_part s k xs)); size = length (nodes (head_part s k xs) ++ nodes (tail_part s k zs)) }
        unfolding Scans
        scanned = h _ _ _ (nodes (head_part s k xs)) (nodes (tail_part s k zs)) kept lo there lower upper

        pub seen_below : x.below ≡ length (head_part s k xs)
        seen_below = ap (λ (z : Spot). z.below) scanned ∙ length-map (head_part s k xs) (masked k)

        pub seen_last : x.last ≡ last_from 0 (head_part s k xs)
        seen_last = ap (λ (z : Spot). z.last) scanned ∙ last_masked k 0 (head_part s k xs)

        pub seen_size : x.size ≡ length (head_part s k xs) + length (tail_part s k zs)
        seen_size = ap (λ (z : Spot). z.size) scanned ∙ simp (length-append, length-map)

-- the partition that scans come to, from partition f of level top on: after it, the one that its last node heads
pub record Down (s : Sizes) (bs : List ℕ) (top f y k first : ℕ) : Type 0 where
  pub within : k ≤ top
  pub so_far : (xs zs : List Order) → Way s bs y xs zs → top ≤ beta s → f ≡ first_key (head_part s top xs) → first ≡ first_key (head_part s k xs)

module _ (s : Sizes) (bs : List ℕ) (top f y : ℕ) where
  pub down_start : Down s bs top f y top f
  down_start = record { within = omega arith; so_far = λ xs zs w h e. e }

  module _ (k first : ℕ) (d : Down s bs top f y k first) where
    pub down_more : 0 < k → (x : Spot) → Scans s bs k first y x → Down s bs top f y (k - 1) x.last
    down_more h x sc = record {
      within = omega (arith, d.within);
      so_far = λ xs zs w t e.
          seen_last s bs y xs zs w k h (omega (arith, d.within)) first (d.so_far xs zs w t e) x sc
          ∙ sym (step_down s (k - 1) xs (up_front xs zs 1 (rising s bs y xs zs w)) ∙ ap (λ (j : ℕ). last_from 0 (head_part s j xs)) up);
    }
      where
        up : suc (k - 1) ≡ k
        up = omega arith

-- no level above a key's own has more chunks for it
counts_low : (n k : ℕ) (s : Sizes) (xs : List Order) (o : Order) (zs : List Order) → 0 < o.key → level s o.key < k → counts n k s (xs ++ zs) ≡ counts n k s (xs ++ o ∷ zs)
unfolding counts
counts_low zero k s xs o zs p h = refl
counts_low (suc n) k s xs o zs p h = omega (arith, count_low s k xs o zs p h, counts_low n (suc k) s xs o zs p (omega arith))

-- HOW MUCH the levels above k have more
pub record Growing (s : Sizes) (bs : List ℕ) (f l y k sum first : ℕ) : Type 0 where
  pub down : Down s bs l f y k first
  pub few : sum ≤ 2 * (l - k)
  pub more : (xs : List Order) (o : Order) (zs : List Order) → Way s bs y xs zs → f ≡ first_key (head_part s l xs) → o.key ≡ y → l ≡ level s y →
      sum + counts (beta s - k) (suc k) s (xs ++ zs) ≡ counts (beta s - k) (suc k) s (xs ++ o ∷ zs)

module _ (s : Sizes) (bs : List ℕ) (f l y : ℕ) where
  pub growing_start : Growing s bs f l y l 0 f
  growing_start = record {
    down = down_start s bs l f y;
    few = omega arith;
    more = λ xs o zs w ef eo el. omega (arith, counts_low (beta s - l) (suc l) s xs o zs (omega (arith, w.pos)) (omega (arith, ap (level s) eo)));
  }

  module _ (k sum first : ℕ) (g : Growing s bs f l y k sum first) (x : Spot) (sc : Scans s bs k first y x) (r : ℕ) (gr : Grown s.nodes k l x r) (h : 0 < k) where
    module _ (xs : List Order) (o : Order) (zs : List Order) (w : Way s bs y xs zs) (ef : f ≡ first_key (head_part s l xs)) (eo : o.key ≡ y) (el : l ≡ level s y) where
      top : k ≤ beta s
      top = omega (arith, g.down.within, level_most s y)

      size : x.size ≡ length (head_part s k xs) + length (tail_part s k zs)
      size = seen_size s bs y xs zs w k h top first (g.down.so_far xs zs w (omega (arith, level_most s y)) ef) x sc

      under : x.below ≡ length (head_part s k xs)
      under = seen_below s bs y xs zs w k h top first (g.down.so_far xs zs w (omega (arith, level_most s y)) ef) x sc

      -- one level
      level_more : r + count s k (xs ++ zs) ≡ count s k (xs ++ o ∷ zs)
      level_more = go (eqb k l) refl
        where
          left : suc (x.size - x.below) ≡ suc (length (tail_part s k zs))
          left = omega (arith, size, under)

          pos : 0 < o.key
          pos = omega (arith, w.pos)

          level_is : level s o.key ≡ l
          level_is = ap (level s) eo ∙ sym el

          go : (t : Bool) → eqb k l ≡ t → r + count s k (xs ++ zs) ≡ count s k (xs ++ o ∷ zs)
          go true q =
              let z : k ≡ l = eqb-true k l q in
              omega (arith, gr.same z, count_same s k xs o zs pos (level_is ∙ sym z), ap (pieces s.nodes) size, ap (λ (n : ℕ). pieces s.nodes (suc n)) size)
          go false q =
              let lt : k < l = omega (arith, g.down.within, eqb-false k l q) in
              omega (
                arith,
                gr.under lt,
                count_high s k xs o zs pos (omega (arith, level_is)),
                ap (pieces s.nodes) size,
                ap (pieces s.nodes) under,
                ap (pieces s.nodes) left,
              )

      levels_more : sum + r + counts (beta s - (k - 1)) (suc (k - 1)) s (xs ++ zs) ≡ counts (beta s - (k - 1)) (suc (k - 1)) s (xs ++ o ∷ zs)
      unfolding counts
      levels_more =
          let a : beta s - (k - 1) ≡ suc (beta s - k) = omega (arith, top) in
          let b : suc (k - 1) ≡ k = omega arith in
          rw (a, b) (omega (arith, level_more, g.more xs o zs w ef eo el))

    pub growing_more : Growing s bs f l y (k - 1) (sum + r) x.last
    growing_more = record {
      down = down_more s bs l f y k first g.down h x sc;
      few = omega (arith, g.few, gr.few, g.down.within);
      more = levels_more;
    }

  pub growing_end : (k sum first : ℕ) → Growing s bs f l y k sum first → k ≤ 0 → Grows s bs f l y sum
  unfolding Grows
  growing_end k sum first g h xs o zs w ef eo el =
      let a : beta s - k ≡ beta s = omega arith in
      let b : suc k ≡ 1 = omega arith in
      rw (length_chunks s (xs ++ zs) (some_nodes s w.good), length_chunks s (xs ++ o ∷ zs) (some_nodes s w.good)) (rw (a, b) at (g.more xs o zs w ef eo el))
