-- The way down: the partition that is open at a level after some orders is headed by the last node of the one open a level up.
use mathlib.Core.Path.{◌≡◌, refl, sym, ◌∙◌}
use mathlib.Core.Bool.{Bool, true, false, ◌&&◌, cond}
use mathlib.Core.List.{List, [], ◌∷◌, ◌++◌}
use Prim.Native.Nat.{ℕ, suc, ◌<◌}
use native.Mathlib.Omega.{arith}
use borrow.Author.Tests.{le-ltb, le-leb, lt-leb, lt-ltb}
use lib.Dec.{ltb, leb}
use lib.ListN.{length, length-append}
use Rattle.sizes.specs.Sizes.{beta}
use Rattle.sizes.specs.Hash.{level}
use Rattle.sizes.specs.declared.Sizes.{Sizes}
use Rattle.placement.specs.declared.Order.{Order}
use Rattle.placement.proofs.Laws.Cells.{cond_valid}
use Rattle.sizes.proofs.Laws.Round.{Which, which, less, same, more}
use Rattle.skiplist.specs.Lists.{front, at_least, starts_one, run, first_key}
unfoldable pub use Rattle.skiplist.specs.Parts.{last_from}
use Rattle.skiplist.proofs.Laws.Runs.{opened}
use Rattle.skiplist.proofs.Laws.Parts.{Up, up_from, and_left, and_right, first_more, at_least_up, below}
use Rattle.skiplist.proofs.Laws.Edits.{level_most, level_least, starts, stays, head_part, tail_part}

pub last_more : (k : ℕ) (p : List Order) (x : Order) → last_from k (p ++ x ∷ []) ≡ x.key
unfolding last_from
last_more k [] x = refl
last_more k (q ∷ p) x = last_more q.key p x

pub last_opened : (st : Order → Bool) (k : ℕ) (p xs : List Order) → last_from k (opened st p xs) ≡ last_from (last_from k p) xs
unfolding opened last_from
last_opened st k p [] = refl
last_opened st k p (x ∷ xs) =
    cond_valid (λ (q : List Order). last_from k q ≡ last_from x.key xs) (st x) (last_opened st k (x ∷ []) xs)
    (rw (last_more k p x) at (last_opened st k (p ++ x ∷ []) xs))

module _ (s : Sizes) (l : ℕ) where
  pub first_opened : (p xs : List Order) → 0 < length p → Up 1 xs →
      first_key (opened (starts_one s l) p (at_least s l xs)) ≡ last_from (first_key p) (at_least s (suc l) xs)
  unfolding opened last_from at_least first_key
  first_opened p [] h u = refl
  first_opened p (x ∷ xs) h u =
      go (λ q g. first_opened q xs g (up_from xs (omega arith) u.1)) (which l (level s x.key))
    where
      go : ((q : List Order) → 0 < length q → first_key (opened (starts_one s l) q (at_least s l xs)) ≡ last_from (first_key q) (at_least s (suc l) xs)) →
          Which l (level s x.key) →
          first_key (opened (starts_one s l) p (cond (leb l (level s x.key)) (x ∷ at_least s l xs) (at_least s l xs)))
          ≡ last_from (first_key p) (cond (leb (suc l) (level s x.key)) (x ∷ at_least s (suc l) xs) (at_least s (suc l) xs))
      go ih (less e) = rw (le-leb l (level s x.key) (omega arith), lt-ltb l (level s x.key) e, starts s l x e) (ih (x ∷ []) (omega arith))
      go ih (same e) =
          rw (le-leb l (level s x.key) (omega arith), le-ltb l (level s x.key) (omega arith), stays s l x u.0 (omega arith), ← first_more p (x ∷ []) h)
          (ih (p ++ x ∷ []) (simp length-append (omega arith)))
      go ih (more e) = rw (lt-leb l (level s x.key) e, le-ltb l (level s x.key) (omega arith)) (ih p h)

  -- ONE LEVEL DOWN
  pub step_down : (xs : List Order) → Up 1 xs → first_key (head_part s l xs) ≡ last_from 0 (head_part s (suc l) xs)
  unfolding head_part front first_key last_from
  step_down xs u = first_opened (front ∷ []) xs (omega arith) u ∙ sym (last_opened (starts_one s (suc l)) 0 (front ∷ []) (at_least s (suc l) xs))

-- at the top
pub none_above : (s : Sizes) (l : ℕ) (xs : List Order) → beta s < l → at_least s l xs ≡ []
unfolding at_least
none_above s l [] h = refl
none_above s l (x ∷ xs) h = rw (lt-leb l (level s x.key) (omega (arith, level_most s x.key))) (none_above s l xs h)

pub start_top : (s : Sizes) (xs : List Order) → Up 1 xs → first_key (head_part s (beta s) xs) ≡ 0
unfolding head_part front last_from first_key
start_top s xs u = first_opened s (beta s) (front ∷ []) xs (omega arith) u ∙ rw (none_above s (suc (beta s)) xs (omega arith))

-- at the bottom: the last of all
pub all_there : (s : Sizes) (xs : List Order) → at_least s 1 xs ≡ xs
unfolding at_least
all_there s [] = refl
all_there s (x ∷ xs) = rw (le-leb 1 (level s x.key) (level_least s x.key), all_there s xs)

-- the partition that is open after some orders and one more
opened_one : (st : Order → Bool) (p xs : List Order) (y : Order) → opened st p (xs ++ y ∷ []) ≡ opened st (opened st p xs) (y ∷ [])
unfolding opened
opened_one st p [] y = refl
opened_one st p (x ∷ xs) y = go (st x) (opened_one st (x ∷ []) xs y) (opened_one st (p ++ x ∷ []) xs y)
  where
    go : (t : Bool) → opened st (x ∷ []) (xs ++ y ∷ []) ≡ opened st (opened st (x ∷ []) xs) (y ∷ []) →
        opened st (p ++ x ∷ []) (xs ++ y ∷ []) ≡ opened st (opened st (p ++ x ∷ []) xs) (y ∷ []) →
        cond t (opened st (x ∷ []) (xs ++ y ∷ [])) (opened st (p ++ x ∷ []) (xs ++ y ∷ []))
        ≡ opened st (cond t (opened st (x ∷ []) xs) (opened st (p ++ x ∷ []) xs)) (y ∷ [])
    go true a b = a
    go false a b = b

-- .. at level 1
module _ (s : Sizes) (xs : List Order) (y : Order) where
  pub head_high : 1 < level s y.key → head_part s 1 (xs ++ y ∷ []) ≡ y ∷ []
  unfolding head_part opened
  head_high h = rw (all_there s (xs ++ y ∷ []), opened_one (starts_one s 1) (front ∷ []) xs y, starts s 1 y h)

  pub head_low : 0 < y.key → level s y.key ≡ 1 → head_part s 1 (xs ++ y ∷ []) ≡ head_part s 1 xs ++ y ∷ []
  unfolding head_part opened
  head_low p h = rw (all_there s (xs ++ y ∷ []), all_there s xs, opened_one (starts_one s 1) (front ∷ []) xs y, stays s 1 y p (omega arith))

-- keys of what is open are below, of what goes on above
pub below_both : (k : ℕ) (xs zs : List Order) → below k xs ≡ true → below k zs ≡ true → below k (xs ++ zs) ≡ true
unfolding below
below_both k [] zs e f = f
below_both k (x ∷ xs) zs e f = rw (and_left (ltb x.key k) (below k xs) e) (below_both k xs zs (and_right (ltb x.key k) (below k xs) e) f)

pub below_opened : (st : Order → Bool) (k : ℕ) (p xs : List Order) → below k p ≡ true → below k xs ≡ true → below k (opened st p xs) ≡ true
unfolding below opened
below_opened st k p [] e f = e
below_opened st k p (x ∷ xs) e f =
    let low : (ltb x.key k && true) ≡ true = rw (and_left (ltb x.key k) (below k xs) f) in
    let later = and_right (ltb x.key k) (below k xs) f in
    cond_valid (λ (q : List Order). below k q ≡ true) (st x) (below_opened st k (x ∷ []) xs low later)
    (below_opened st k (p ++ x ∷ []) xs (below_both k p (x ∷ []) e low) later)

pub below_at_least : (s : Sizes) (l k : ℕ) (xs : List Order) → below k xs ≡ true → below k (at_least s l xs) ≡ true
unfolding below at_least
below_at_least s l k [] e = refl
below_at_least s l k (x ∷ xs) e =
    let ih = below_at_least s l k xs (and_right (ltb x.key k) (below k xs) e) in
    cond_valid (λ (q : List Order). below k q ≡ true) (leb l (level s x.key)) (rw (and_left (ltb x.key k) (below k xs) e) ih) ih

pub run_up : (st : Order → Bool) (a : ℕ) (xs : List Order) → Up a xs → Up a (run st xs)
unfolding run
run_up st a [] u = tt
run_up st a (x ∷ xs) u = cond_valid (Up a) (st x) tt (u.0, run_up st (suc x.key) xs u.1)

module _ (s : Sizes) (l : ℕ) where
  pub head_below : (k : ℕ) (xs : List Order) → 0 < k → below k xs ≡ true → below k (head_part s l xs) ≡ true
  unfolding head_part front below
  head_below k xs h e = below_opened (starts_one s l) k (front ∷ []) (at_least s l xs) (rw (lt-ltb 0 k h)) (below_at_least s l k xs e)

  pub tail_above : (a : ℕ) (zs : List Order) → Up a zs → Up a (tail_part s l zs)
  unfolding tail_part
  tail_above a zs u = run_up (starts_one s l) a (at_least s l zs) (at_least_up s l a zs u)
