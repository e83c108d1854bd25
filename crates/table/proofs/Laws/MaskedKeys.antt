-- Masked nodes have the keys of the nodes; and how long a partition can be.
use mathlib.Core.Path.{◌≡◌}
use mathlib.Core.Bool.{Bool, true, false, cond}
use mathlib.Core.List.{List, [], ◌∷◌, ◌++◌}
use Prim.Native.Nat.{ℕ, suc, ◌+◌, ◌≤◌, ◌<◌}
use native.Mathlib.Omega.{arith}
use borrow.Author.Tests.{ltb-true}
use lib.Dec.{ltb, leb}
use lib.ListN.{length, length-append}
use Rattle.sizes.specs.Hash.{level}
use Rattle.sizes.specs.declared.Sizes.{Sizes}
use Rattle.placement.specs.declared.Order.{Order}
use Rattle.skiplist.specs.Lists.{front, at_least, starts_one, run, first_key}
pub use Rattle.skiplist.proofs.Laws.Masks.{below_masked, up_masked, last_masked}
use Rattle.skiplist.proofs.Laws.Runs.{opened}
use Rattle.skiplist.proofs.Laws.Parts.{and_left, below}
use Rattle.skiplist.proofs.Laws.Descent.{head_below}
use Rattle.skiplist.proofs.Laws.Edits.{head_part, tail_part, head_part_long}

-- ---- how long

opened_most : (st : Order → Bool) (p xs : List Order) → 0 < length p → length (opened st p xs) ≤ length p + length xs
unfolding opened
opened_most st p [] h = omega arith
opened_most st p (x ∷ xs) h = go (st x) (opened_most st (x ∷ []) xs (omega arith)) (rw length-append at (opened_most st (p ++ x ∷ []) xs (simp length-append (omega arith))))
  where
    go : (t : Bool) → length (opened st (x ∷ []) xs) ≤ 1 + length xs → length (opened st (p ++ x ∷ []) xs) ≤ length p + 1 + length xs →
        length (cond t (opened st (x ∷ []) xs) (opened st (p ++ x ∷ []) xs)) ≤ length p + suc (length xs)
    go true a b = omega arith
    go false a b = omega arith

run_most : (st : Order → Bool) (xs : List Order) → length (run st xs) ≤ length xs
unfolding run
run_most st [] = omega arith
run_most st (x ∷ xs) = go (st x) (run_most st xs)
  where
    go : (t : Bool) → length (run st xs) ≤ length xs → length (cond t [] (x ∷ run st xs)) ≤ suc (length xs)
    go true a = omega arith
    go false a = omega arith

pub least_most : (s : Sizes) (k : ℕ) (xs : List Order) → length (at_least s k xs) ≤ length xs
unfolding at_least
least_most s k [] = omega arith
least_most s k (x ∷ xs) = go (leb k (level s x.key)) (least_most s k xs)
  where
    go : (t : Bool) → length (at_least s k xs) ≤ length xs → length (cond t (x ∷ at_least s k xs) (at_least s k xs)) ≤ suc (length xs)
    go true a = omega arith
    go false a = omega arith

pub head_most : (s : Sizes) (k : ℕ) (xs : List Order) → length (head_part s k xs) ≤ suc (length xs)
unfolding head_part
head_most s k xs = omega (arith, opened_most (starts_one s k) (front ∷ []) (at_least s k xs) (omega arith), least_most s k xs)

pub tail_most : (s : Sizes) (k : ℕ) (zs : List Order) → length (tail_part s k zs) ≤ length zs
unfolding tail_part
tail_most s k zs = omega (arith, run_most (starts_one s k) (at_least s k zs), least_most s k zs)

-- ---- the first key

first_below : (y : ℕ) (p : List Order) → 0 < length p → below y p ≡ true → first_key p < y
unfolding first_key below
first_below y [] h e = absurd (omega arith)
first_below y (x ∷ p) h e = ltb-true x.key y (and_left (ltb x.key y) (below y p) e)

pub head_first_below : (s : Sizes) (k y : ℕ) (xs : List Order) → 0 < y → below y xs ≡ true → first_key (head_part s k xs) < y
head_first_below s k y xs h e = first_below y (head_part s k xs) (head_part_long s k xs) (head_below s k y xs h e)
