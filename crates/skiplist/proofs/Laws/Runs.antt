-- Partitions, cut where a test says that a new one starts: a run up to the next start, and the rest.
use mathlib.Core.Path.{◌≡◌, refl}
use mathlib.Core.Bool.{Bool, true, false, cond}
use mathlib.Core.List.{List, [], ◌∷◌, ◌++◌, append_assoc, append-nil}
use Prim.Native.Nat.{ℕ}
use Rattle.sizes.specs.declared.Sizes.{Sizes}
use Rattle.placement.specs.declared.Order.{Order}
use Rattle.skiplist.specs.Lists.{front, starts_one, run, rest, partitions}
unfoldable pub use Rattle.skiplist.specs.Parts.{opened}

module _ (st : Order → Bool) where
  -- the partition p is open: what of it is closed by a list
  unfoldable pub closed : (p xs : List Order) → List (List Order)
  closed p [] = []
  closed p (x ∷ xs) = cond (st x) (p ∷ closed (x ∷ []) xs) (closed (p ++ x ∷ []) xs)

  -- ONE LAW: p is open, xs and then zs follow
  pub runs_split : (p xs zs : List Order) →
      (p ++ run st (xs ++ zs)) ∷ rest st (xs ++ zs) ≡ closed p xs ++ (opened st p xs ++ run st zs) ∷ rest st zs
  unfolding run rest closed opened
  runs_split p [] zs = refl
  runs_split p (x ∷ xs) zs = go (runs_split (x ∷ []) xs zs) (runs_split (p ++ x ∷ []) xs zs) (st x)
    where
      go : (x ∷ run st (xs ++ zs)) ∷ rest st (xs ++ zs) ≡ closed (x ∷ []) xs ++ (opened st (x ∷ []) xs ++ run st zs) ∷ rest st zs →
          (p ++ x ∷ [] ++ run st (xs ++ zs)) ∷ rest st (xs ++ zs) ≡ closed (p ++ x ∷ []) xs ++ (opened st (p ++ x ∷ []) xs ++ run st zs) ∷ rest st zs →
          (t : Bool) →
          (p ++ cond t [] (x ∷ run st (xs ++ zs))) ∷ cond t ((x ∷ run st (xs ++ zs)) ∷ rest st (xs ++ zs)) (rest st (xs ++ zs))
          ≡ cond t (p ∷ closed (x ∷ []) xs) (closed (p ++ x ∷ []) xs)
          ++ (cond t (opened st (x ∷ []) xs) (opened st (p ++ x ∷ []) xs) ++ run st zs) ∷ rest st zs
      go a b true = rw (append-nil, a)
      go a b false = rw (← b, append_assoc)

module _ (s : Sizes) (l : ℕ) where
  -- a list that begins with a start: what is open at once, and the rest
  pub partitions_runs : (o : Order) (xs : List Order) → starts_one s l o ≡ true →
      partitions s l (o ∷ xs) ≡ (o ∷ run (starts_one s l) xs) ∷ rest (starts_one s l) xs
  unfolding partitions rest
  partitions_runs o xs e = rw e

  pub partitions_front : (xs : List Order) → partitions s l (front ∷ xs) ≡ (front ∷ run (starts_one s l) xs) ∷ rest (starts_one s l) xs
  unfolding starts_one front
  partitions_front xs = partitions_runs front xs refl
