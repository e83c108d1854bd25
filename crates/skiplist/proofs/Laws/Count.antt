-- How many chunks: a sum over levels and partitions, and what one more order adds.
use mathlib.Core.Path.{◌≡◌, refl, sym}
use mathlib.Core.Bool.{Bool, true, false}
use mathlib.Core.List.{List, [], ◌∷◌, ◌++◌, map}
use Prim.Native.Nat.{ℕ, zero, suc, ◌+◌, ◌*◌, ◌-◌, ◌/◌, ◌≤◌, ◌<◌}
use native.Mathlib.Nat.{add-suc, suc-add, add-zero, div-eq_of_lt, zero-div, div-eq-sub-div, lt-div-mul-add, div-lt_iff_lt-mul, div-mul-le_self, le-div_iff_mul-le}
use native.Mathlib.Omega.{arith}
use borrow.Author.Tests.{ltb-true, ltb-false}
use lib.Dec.{ltb}
use lib.ListN.{length, drop, length-append, length-drop, length-map}
use Rattle.sizes.specs.Sizes.{beta}
use Rattle.sizes.specs.Hash.{level}
use Rattle.sizes.specs.declared.Sizes.{Sizes}
use Rattle.placement.specs.declared.Order.{Order}
use Rattle.sizes.proofs.Laws.Round.{Which, which, less, same, more}
use Rattle.skiplist.specs.Lists.{front, at_least, list_at, starts_one, run, rest, partitions, first_key, masked, chunks_of, all_chunks, chunks_from, chunks}
unfoldable pub use Rattle.skiplist.specs.Parts.{pieces, pieces_all, count, counts}
use Rattle.skiplist.proofs.Laws.Edits.{head_part, tail_part, parts_before, parts_after, parts_split, head_part_long, tail_low, tail_same, after_not, tail_high, after_high}

pub pieces_less : (b n : ℕ) → 0 < b → pieces b (suc n) ≡ suc (pieces b (suc n - b))
unfolding pieces
pieces_less b n h = go (ltb n b) refl
  where
    go : (t : Bool) → ltb n b ≡ t → suc (n / b) ≡ suc (pieces b (suc n - b))
    go true e =
        let z : suc n - b ≡ 0 = omega (arith, ltb-true n b e) in
        rw (z, div-eq_of_lt (ltb-true n b e))
    go false e =
        let z : suc n - b ≡ suc (n - b) = omega (arith, ltb-false n b e) in
        rw (z, div-eq-sub-div h (ltb-false n b e)) (omega arith)

pub pieces_none : (b : ℕ) → pieces b 0 ≡ 0
unfolding pieces
pieces_none b = refl

-- a full chunk, or some nodes, more
pub pieces_full : (b n : ℕ) → 0 < b → 0 < n → pieces b n ≡ suc (pieces b (n - b))
pieces_full b zero h g = absurd (omega arith)
pieces_full b (suc n) h g = pieces_less b n h

pub pieces_under : (b n i : ℕ) → 0 < b → i < pieces b n → i * b < n
unfolding pieces
pieces_under b zero i h g = absurd (omega arith)
pieces_under b (suc n) i h g = omega (arith, (le-div_iff_mul-le {x = i} {y = n} h).0 (omega arith))

pub pieces_over : (b n i : ℕ) → 0 < b → pieces b n ≤ i → n ≤ i * b
unfolding pieces
pieces_over b zero i h g = omega arith
pieces_over b (suc n) i h g = omega (arith, (div-lt_iff_lt-mul {x = n} {y = i} h).0 (omega arith))

pub pieces_most : (b n i : ℕ) → 0 < b → n ≤ i * b → pieces b n ≤ i
unfolding pieces
pieces_most b zero i h g = omega arith
pieces_most b (suc n) i h g = omega (arith, (div-lt_iff_lt-mul {x = n} {y = i} h).1 (omega arith))

pub pieces_up_to : (b n m : ℕ) → 0 < b → n ≤ m → pieces b n ≤ pieces b m
pieces_up_to b n m h g = pieces_most b n (pieces b m) h (omega (arith, pieces_over b m (pieces b m) h (omega arith)))

pub pieces_up : (b n : ℕ) → 0 < b → pieces b n ≤ pieces b (suc n)
unfolding pieces
pieces_up b zero h = omega arith
pieces_up b (suc n) h = omega (arith, (le-div_iff_mul-le {x = n / b} {y = suc n} h).1 (omega (arith, div-mul-le_self n b)))

pub pieces_cut : (b p q : ℕ) → 0 < b → 0 < p → pieces b (p + q) ≤ pieces b p + pieces b (suc q)
unfolding pieces
pieces_cut b zero q h g = absurd (omega arith)
pieces_cut b (suc p) q h g =
    rw (suc-add p q)
    (omega (arith, (div-lt_iff_lt-mul {x = p + q} {y = p / b + q / b + 2} h).1 (omega (arith, lt-div-mul-add {a = p} h, lt-div-mul-add {a = q} h))))

pub length_of : (k b l f i : ℕ) (p : List Order) → 0 < b → length p ≤ k → length (chunks_of k b l f i p) ≡ pieces b (length p)
unfolding chunks_of pieces
length_of zero b l f i [] h g = refl
length_of zero b l f i (o ∷ os) h g = absurd (omega arith)
length_of (suc k) b l f i [] h g = refl
length_of (suc k) b l f i (o ∷ os) h g =
    rw (length_of k b l f (suc i) (drop b (o ∷ os)) h (simp length-drop (omega arith)), length-drop) (sym (pieces_less b (length os) h))

pub length_all : (s : Sizes) (l : ℕ) (ps : List (List Order)) → 0 < s.nodes → length (all_chunks s l ps) ≡ pieces_all s.nodes ps
unfolding all_chunks pieces_all
length_all s l [] h = refl
length_all s l (p ∷ ps) h =
    simp length-append (rw (length_all s l ps h, length_of (length p) s.nodes l (first_key p) 0 (map (masked l) p) h (simp length-map (omega arith)), length-map))

pub length_from : (k l : ℕ) (s : Sizes) (os : List Order) → 0 < s.nodes → length (chunks_from k l s os) ≡ counts k l s os
unfolding chunks_from counts count
length_from zero l s os h = refl
length_from (suc k) l s os h = simp length-append (rw (length_from k (suc l) s os h, length_all s l (partitions s l (list_at s l os)) h))

-- HOW MANY CHUNKS
pub length_chunks : (s : Sizes) (os : List Order) → 0 < s.nodes → length (chunks s os) ≡ counts (beta s) 1 s os
unfolding chunks
length_chunks s os h = length_from (beta s) 1 s os h

pub pieces_append : (b : ℕ) (ps qs : List (List Order)) → pieces_all b (ps ++ qs) ≡ pieces_all b ps + pieces_all b qs
unfolding pieces_all
pieces_append b [] qs = omega arith
pieces_append b (p ∷ ps) qs = omega (arith, pieces_append b ps qs)

module _ (s : Sizes) (l : ℕ) (xs zs : List Order) where
  pub count_split : count s l (xs ++ zs) ≡ pieces_all s.nodes (parts_before s l xs) + pieces s.nodes (length (head_part s l xs) + length (tail_part s l zs)) + pieces_all s.nodes (parts_after s l zs)
  unfolding count pieces_all
  count_split = rw (parts_split s l xs zs, pieces_append, length-append) (omega arith)

module _ (s : Sizes) (l : ℕ) (xs : List Order) (y : Order) (zs : List Order) (pos : 0 < y.key) where
  pub count_low : level s y.key < l → count s l (xs ++ y ∷ zs) ≡ count s l (xs ++ zs)
  count_low h = rw (count_split s l xs (y ∷ zs), count_split s l xs zs, tail_low s l y zs h, after_not s l y zs pos (omega arith))

  pub count_same : level s y.key ≡ l →
      count s l (xs ++ y ∷ zs) + pieces s.nodes (length (head_part s l xs) + length (tail_part s l zs))
      ≡ count s l (xs ++ zs) + pieces s.nodes (suc (length (head_part s l xs) + length (tail_part s l zs)))
  count_same h = rw (count_split s l xs (y ∷ zs), count_split s l xs zs, tail_same s l y zs pos h, after_not s l y zs pos (omega arith), add-suc) (omega arith)

  pub count_high : l < level s y.key →
      count s l (xs ++ y ∷ zs) + pieces s.nodes (length (head_part s l xs) + length (tail_part s l zs))
      ≡ count s l (xs ++ zs) + pieces s.nodes (length (head_part s l xs)) + pieces s.nodes (suc (length (tail_part s l zs)))
  unfolding pieces_all
  count_high h = rw (count_split s l xs (y ∷ zs), count_split s l xs zs, tail_high s l y zs h, after_high s l y zs h, add-zero) (omega arith)

  -- one more order never makes chunks fewer
  pub count_more : 0 < s.nodes → count s l (xs ++ zs) ≤ count s l (xs ++ y ∷ zs)
  count_more h = go (which l (level s y.key))
    where
      go : Which l (level s y.key) → count s l (xs ++ zs) ≤ count s l (xs ++ y ∷ zs)
      go (less e) = omega (arith, count_high e, pieces_cut s.nodes (length (head_part s l xs)) (length (tail_part s l zs)) h (head_part_long s l xs))
      go (same e) = omega (arith, count_same (sym e), pieces_up s.nodes (length (head_part s l xs) + length (tail_part s l zs)) h)
      go (more e) = omega (arith, count_low e)

pub counts_more : (k l : ℕ) (s : Sizes) (xs : List Order) (y : Order) (zs : List Order) → 0 < y.key → 0 < s.nodes → counts k l s (xs ++ zs) ≤ counts k l s (xs ++ y ∷ zs)
unfolding counts
counts_more zero l s xs y zs p h = omega arith
counts_more (suc k) l s xs y zs p h = omega (arith, count_more s l xs y zs p h, counts_more k (suc l) s xs y zs p h)

pub chunks_more : (s : Sizes) (xs : List Order) (y : Order) (zs : List Order) → 0 < y.key → 0 < s.nodes → length (chunks s (xs ++ zs)) ≤ length (chunks s (xs ++ y ∷ zs))
chunks_more s xs y zs p h = rw (length_chunks s (xs ++ zs) h, length_chunks s (xs ++ y ∷ zs) h) (counts_more (beta s) 1 s xs y zs p h)

-- no orders: a chunk for each level
pub counts_none : (k l : ℕ) (s : Sizes) → counts k l s [] ≡ k
unfolding counts count pieces_all list_at at_least partitions rest run starts_one front pieces
counts_none zero l s = refl
counts_none (suc k) l s = rw (counts_none k (suc l) s) (rw zero-div (omega arith))
