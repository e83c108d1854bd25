-- The partitions are the sets of the paper's section 3.2, level by level.
use mathlib.Core.Path.{◌≡◌, refl, sym, ap, ◌∙◌}
use mathlib.Core.Bool.{Bool, true, false, ◌&&◌, cond, and-false, and-true}
use mathlib.Core.List.{List, [], ◌∷◌, ◌++◌, append_assoc, append-nil}
use Prim.Native.Nat.{ℕ, suc, ◌≤◌, ◌<◌}
use native.Mathlib.Omega.{arith}
use borrow.Author.Tests.{le-leb, lt-leb, lt-ltb, le-ltb}
use lib.Dec.{ltb, leb}
use Rattle.placement.specs.declared.Order.{Order}
use Rattle.placement.proofs.Laws.Cells.{cond_out}
use Rattle.skiplist.specs.Lists.{front, at_least, list_at, starts_one, run, rest}
use Rattle.skiplist.specs.Rules.{from_to, from_on, paper_sets, PaperPartitions, PaperTop}
use Rattle.skiplist.proofs.Laws.Runs.{partitions_front}
use Rattle.skiplist.proofs.Laws.Parts.{Up, good_up, at_least_up}
use Rattle.skiplist.proofs.Laws.Walk.{starting, starting_above, parts_top}

-- all keys lie from lo up to below hi
abbrev pub Within : (lo hi : ℕ) → List Order → Type 0
Within lo hi [] = Unit {0}
Within lo hi (x ∷ xs) = (lo ≤ x.key) × (x.key < hi) × Within lo hi xs

within_from : (lo lo' hi hi' : ℕ) (xs : List Order) → lo' ≤ lo → hi ≤ hi' → Within lo hi xs → Within lo' hi' xs
within_from lo lo' hi hi' [] g h w = tt
within_from lo lo' hi hi' (x ∷ xs) g h w = (omega (arith, w.0), omega (arith, w.1), within_from lo lo' hi hi' xs g h w.2)

within_append : (lo mid hi : ℕ) (xs ys : List Order) → lo ≤ mid → mid ≤ hi → Within lo mid xs → Within mid hi ys → Within lo hi (xs ++ ys)
within_append lo mid hi [] ys g h w v = within_from mid lo hi hi ys g (omega arith) v
within_append lo mid hi (x ∷ xs) ys g h w v = (w.0, omega (arith, w.1), within_append lo mid hi xs ys g h w.2 v)

from_to_append : (lo hi : ℕ) (xs ys : List Order) → from_to lo hi (xs ++ ys) ≡ from_to lo hi xs ++ from_to lo hi ys
unfolding from_to
from_to_append lo hi [] ys = refl
from_to_append lo hi (x ∷ xs) ys =
    rw (from_to_append lo hi xs ys) (cond_out (λ (r : List Order). r ++ from_to lo hi ys) (leb lo x.key && ltb x.key hi) (x ∷ from_to lo hi xs) (from_to lo hi xs))

from_to_in : (lo hi : ℕ) (xs : List Order) → Within lo hi xs → from_to lo hi xs ≡ xs
unfolding from_to
from_to_in lo hi [] w = refl
from_to_in lo hi (x ∷ xs) w = rw (le-leb lo x.key w.0, lt-ltb x.key hi w.1, from_to_in lo hi xs w.2)

from_to_under : (a lo hi : ℕ) (xs : List Order) → Within a lo xs → from_to lo hi xs ≡ []
unfolding from_to
from_to_under a lo hi [] w = refl
from_to_under a lo hi (x ∷ xs) w = rw (lt-leb lo x.key w.1) (from_to_under a lo hi xs w.2)

from_to_over : (lo hi a : ℕ) (xs : List Order) → hi ≤ a → Up a xs → from_to lo hi xs ≡ []
unfolding from_to
from_to_over lo hi a [] h u = refl
from_to_over lo hi a (x ∷ xs) h u = rw (le-ltb x.key hi (omega (arith, u.0)), and-false) (from_to_over lo hi (suc x.key) xs (omega (arith, u.0)) u.1)

-- those from lo up to below hi, where others come before and behind; and to the end, where all are below hi
from_to_cut : (lo hi : ℕ) (pre p xs : List Order) → Within 0 lo pre → Within lo hi p → Up hi xs → from_to lo hi (pre ++ p ++ xs) ≡ p
from_to_cut lo hi pre p xs w v u =
    rw (from_to_append, from_to_append, from_to_under 0 lo hi pre w, from_to_in lo hi p v, from_to_over lo hi hi xs (omega arith) u, append-nil)

from_on_all : (a lo hi : ℕ) (xs : List Order) → Within a hi xs → from_on lo xs ≡ from_to lo hi xs
unfolding from_on from_to
from_on_all a lo hi [] w = refl
from_on_all a lo hi (x ∷ xs) w = rw (lt-ltb x.key hi w.1, and-true, from_on_all a lo hi xs w.2)

-- p is open, and starts with o; what stands before it is smaller, what follows is larger
pub sets_runs : (st : Order → Bool) (o : Order) (pre p xs : List Order) (a : ℕ) → Within 0 o.key pre → Within o.key a p → Up a xs → o.key < a →
    paper_sets (o ∷ starting st xs) (pre ++ p ++ xs) ≡ (p ++ run st xs) ∷ rest st xs
unfolding paper_sets starting run rest
sets_runs st o pre p [] a w v u l =
    let all : Within 0 a (pre ++ p ++ []) = rw append-nil (within_append 0 o.key a pre p (omega arith) (omega arith) w v) in
    rw (from_on_all 0 o.key a (pre ++ p ++ []) all, from_to_cut o.key a pre p [] w v u, append-nil)
sets_runs st o pre p (x ∷ xs) a w v u l =
    go (st x)
    (sets_runs st x (pre ++ p) (x ∷ []) xs (suc x.key) lower (omega arith, omega arith, tt) u.1 (omega arith))
    (sets_runs st o pre (p ++ x ∷ []) xs (suc x.key) w upper u.1 (omega (arith, u.0)))
  where
    within : Within o.key x.key p
    within = within_from o.key o.key a x.key p (omega arith) u.0 v

    lower : Within 0 x.key (pre ++ p)
    lower = within_append 0 o.key x.key pre p (omega arith) (omega (arith, u.0)) w within

    upper : Within o.key (suc x.key) (p ++ x ∷ [])
    upper = within_append o.key x.key (suc x.key) p (x ∷ []) (omega (arith, u.0)) (omega arith) within (omega arith, omega arith, tt)

    cut : from_to o.key x.key (pre ++ p ++ x ∷ xs) ≡ p
    cut = from_to_cut o.key x.key pre p (x ∷ xs) w within (omega arith, u.1)

    go : (t : Bool) → paper_sets (x ∷ starting st xs) (pre ++ p ++ x ∷ [] ++ xs) ≡ (x ∷ run st xs) ∷ rest st xs →
        paper_sets (o ∷ starting st xs) (pre ++ (p ++ x ∷ []) ++ xs) ≡ (p ++ x ∷ [] ++ run st xs) ∷ rest st xs →
        paper_sets (o ∷ cond t (x ∷ starting st xs) (starting st xs)) (pre ++ p ++ x ∷ xs) ≡ (p ++ cond t [] (x ∷ run st xs)) ∷ cond t ((x ∷ run st xs) ∷ rest st xs) (rest st xs)
    go true i j = (λ q. cut q ∷ (ap (paper_sets (x ∷ starting st xs)) (sym (append_assoc (pre ++ p) (x ∷ []) xs)) ∙ i) q) ∙ ap (λ (z : List Order). z ∷ (x ∷ run st xs) ∷ rest st xs) (sym (append-nil p))
    go false i j =
        ap (paper_sets (o ∷ starting st xs)) (sym (append_assoc (pre ++ p) (x ∷ []) xs) ∙ ap (λ (z : List Order). z ++ xs) (append_assoc pre p (x ∷ []))) ∙ j
        ∙ ap (λ (z : List Order). z ∷ rest st xs) (append_assoc p (x ∷ []) (run st xs))

-- SECTION 3.2's FORMULA: those that start a partition of L_k are L_(k+1)
pub paper_partitions : PaperPartitions
unfolding PaperPartitions list_at front
paper_partitions s os k g h =
    let u = good_up s 1 os g in
    partitions_front s k (at_least s k os)
    ∙ sym (sets_runs (starts_one s k) front [] (front ∷ []) (at_least s k os) 1 tt (omega arith, omega arith, tt) (at_least_up s k 1 os u) (omega arith))
    ∙ ap (λ (z : List Order). paper_sets (front ∷ z) (front ∷ at_least s k os)) (starting_above s k os u)

pub paper_top : PaperTop
unfolding PaperTop
paper_top s os g = parts_top s os (good_up s 1 os g)
