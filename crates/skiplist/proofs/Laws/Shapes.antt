-- Every edit as a shape: orders xs before a key, orders zs behind it.
use mathlib.Core.Path.{◌≡◌, refl, ap, ◌∙◌, subst}
use mathlib.Core.Bool.{Bool, true, false, ◌&&◌, ◌||◌, cond, or-true, and-false}
use mathlib.Core.List.{List, [], ◌∷◌, ◌++◌, append-nil}
use Prim.Native.Nat.{ℕ, suc, ◌<◌}
use native.Mathlib.Omega.{arith}
use borrow.Author.Tests.{ltb-true, ltb-false, eqb-true, eqb-false, eq-eqb, ne_eqb, lt-ltb, le-ltb}
use lib.Dec.{ltb, leb, eqb}
use Rattle.sizes.specs.Orders.{sort_in}
use Rattle.sizes.specs.Hash.{level}
use Rattle.sizes.specs.declared.Sizes.{Sizes}
use Rattle.placement.specs.declared.Order.{Order}
use Rattle.placement.proofs.Laws.Cells.{cond_valid}
use Rattle.skiplist.specs.Lists.{front, at_least, list_at, starts_one, run, rest, first_key}
use Rattle.skiplist.specs.Image.{into}
use Rattle.skiplist.specs.Questions.{held, without, with_order}
use Rattle.skiplist.proofs.Laws.Runs.{partitions_front}
use Rattle.skiplist.proofs.Laws.Parts.{Up, up_from, and_left, and_right, or_left, or_right, at_least_up, rest_heads, pick, part, pick_past, without_here, below, below_here}

-- where a key comes among rising orders
pub data Place (k : ℕ) (os : List Order) : Type 0 where
  there : (xs : List Order) (y : Order) (zs : List Order) → os ≡ xs ++ y ∷ zs → y.key ≡ k → Place k os
  absent : (xs zs : List Order) → os ≡ xs ++ zs → below k xs ≡ true → Up (suc k) zs → Place k os

pub place : (k a : ℕ) (os : List Order) → Up a os → Place k os
unfolding below
place k a [] u = absent [] [] refl refl tt
place k a (o ∷ os) u = go (place k (suc o.key) os u.1) (ltb k o.key) refl (eqb o.key k) refl
  where
    go : Place k os → (t : Bool) → ltb k o.key ≡ t → (r : Bool) → eqb o.key k ≡ r → Place k (o ∷ os)
    go w true e r f = absent [] (o ∷ os) refl refl (ltb-true k o.key e, u.1)
    go w false e true f = there [] o os refl (eqb-true o.key k f)
    go (there xs y zs q h) false e false f = there (o ∷ xs) y zs (ap (λ (r : List Order). o ∷ r) q) h
    go (absent xs zs q h v) false e false f =
        absent (o ∷ xs) zs (ap (λ (r : List Order). o ∷ r) q) (rw (lt-ltb o.key k (omega (arith, ltb-false k o.key e, eqb-false o.key k f))) h) v

pub held_there : (xs : List Order) (y : Order) (zs : List Order) → held y.key (xs ++ y ∷ zs) ≡ true
unfolding held
held_there [] y zs = rw (eq-eqb y.key y.key refl)
held_there (x ∷ xs) y zs = rw (held_there xs y zs, or-true)

pub held_absent : (k : ℕ) (xs zs : List Order) → below k xs ≡ true → Up (suc k) zs → held k (xs ++ zs) ≡ false
unfolding held below
held_absent k [] [] e u = refl
held_absent k [] (z ∷ zs) e u = rw (ne_eqb z.key k (omega (arith, u.0))) (held_absent k [] zs refl (up_from zs (omega (arith, u.0)) u.1))
held_absent k (x ∷ xs) zs e u =
    rw (ne_eqb x.key k (omega (arith, ltb-true x.key k (and_left (ltb x.key k) (below k xs) e)))) (held_absent k xs zs (and_right (ltb x.key k) (below k xs) e) u)

pub without_absent : (k : ℕ) (os : List Order) → held k os ≡ false → without k os ≡ os
unfolding held without
without_absent k [] e = refl
without_absent k (o ∷ os) e = go (λ e'. without_absent k os e') (eqb o.key k) e
  where
    go : (held k os ≡ false → without k os ≡ os) → (t : Bool) → (t || held k os) ≡ false → cond t os (o ∷ without k os) ≡ o ∷ os
    go ih true e' = cc
    go ih false e' = rw (ih e')

pub into_between : (y : Order) (xs zs : List Order) → below y.key xs ≡ true → Up (suc y.key) zs → into y (xs ++ zs) ≡ xs ++ y ∷ zs
unfolding sort_in below
into_between y [] [] e u = refl
into_between y [] (z ∷ zs) e u = rw (lt-ltb y.key z.key u.0)
into_between y (x ∷ xs) zs e u =
    rw (
      le-ltb y.key x.key (omega (arith, ltb-true x.key y.key (and_left (ltb x.key y.key) (below y.key xs) e))),
      into_between y xs zs (and_right (ltb x.key y.key) (below y.key xs) e) u,
    )

pub up_behind : (xs : List Order) (y : Order) (zs : List Order) (a : ℕ) → Up a (xs ++ y ∷ zs) → Up (suc y.key) zs
up_behind [] y zs a u = u.1
up_behind (x ∷ xs) y zs a u = up_behind xs y zs (suc x.key) u.1

-- AN ORDER whose key is not held comes in; one whose key is held replaces the order there
pub with_new : (y : Order) (xs zs : List Order) → below y.key xs ≡ true → Up (suc y.key) zs → with_order y (xs ++ zs) ≡ xs ++ y ∷ zs
unfolding with_order
with_new y xs zs e u = rw (without_absent y.key (xs ++ zs) (held_absent y.key xs zs e u)) (into_between y xs zs e u)

pub with_old : (y old : Order) (xs zs : List Order) (a : ℕ) → old.key ≡ y.key → Up a (xs ++ old ∷ zs) → with_order y (xs ++ old ∷ zs) ≡ xs ++ y ∷ zs
unfolding with_order
with_old y old xs zs a k u =
    ap (into y) (subst (λ (n : ℕ). without n (xs ++ old ∷ zs) ≡ xs ++ zs) k (without_here xs old zs a u))
    ∙ into_between y xs zs (rw k at (below_here xs old zs a u)) (rw k at (up_behind xs old zs a u))

-- THE PARTITION, read off the list: go to f, if it starts one, and take up to the next start
module _ (st : Order → Bool) where
  unfoldable pub from_key : (f : ℕ) → List Order → List Order
  from_key f [] = []
  from_key f (x ∷ xs) = cond (eqb x.key f && st x) (x ∷ run st xs) (from_key f xs)

  pub from_rest : (f a : ℕ) (xs : List Order) → Up a xs → pick f (rest st xs) ≡ from_key f xs
  unfolding rest from_key pick first_key
  from_rest f a [] u = refl
  from_rest f a (x ∷ xs) u = go (from_rest f (suc x.key) xs u.1) (st x) (eqb x.key f) refl
    where
      go : pick f (rest st xs) ≡ from_key f xs → (t r : Bool) → eqb x.key f ≡ r →
          pick f (cond t ((x ∷ run st xs) ∷ rest st xs) (rest st xs)) ≡ cond (r && t) (x ∷ run st xs) (from_key f xs)
      go ih true true e = rw (e, pick_past f (rest st xs) (suc x.key) (omega (arith, eqb-true x.key f e)) (rest_heads st (suc x.key) xs u.1), append-nil (run st xs))
      go ih true false e = rw e ih
      go ih false r e = rw and-false ih

pub part_direct : (s : Sizes) (os : List Order) (l f : ℕ) → Up 1 os → part s os l f ≡ from_key (starts_one s l) f (list_at s l os)
unfolding part list_at from_key pick first_key front starts_one
part_direct s os l f u =
    rw (partitions_front s l (at_least s l os), ← from_rest (starts_one s l) f 1 (at_least s l os) (at_least_up s l 1 os u)) (go (eqb 0 f) refl)
  where
    go : (t : Bool) → eqb 0 f ≡ t →
        cond t (front ∷ run (starts_one s l) (at_least s l os)) [] ++ pick f (rest (starts_one s l) (at_least s l os))
        ≡ cond (t && true) (front ∷ run (starts_one s l) (at_least s l os)) (pick f (rest (starts_one s l) (at_least s l os)))
    go true e =
        rw (
          pick_past f (rest (starts_one s l) (at_least s l os)) 1 (omega (arith, eqb-true 0 f e)) (rest_heads (starts_one s l) 1 (at_least s l os) (at_least_up s l 1 os u)),
          append-nil (run (starts_one s l) (at_least s l os)),
        )
    go false e = refl

-- a key that is not held heads no partition
from_none : (st : Order → Bool) (f : ℕ) (xs : List Order) → held f xs ≡ false → from_key st f xs ≡ []
unfolding from_key held
from_none st f [] e = refl
from_none st f (x ∷ xs) e = rw (or_left (eqb x.key f) (held f xs) e) (from_none st f xs (or_right (eqb x.key f) (held f xs) e))

held_least : (s : Sizes) (l f : ℕ) (xs : List Order) → held f xs ≡ false → held f (at_least s l xs) ≡ false
unfolding held at_least
held_least s l f [] e = e
held_least s l f (x ∷ xs) e =
    let ih = held_least s l f xs (or_right (eqb x.key f) (held f xs) e) in
    cond_valid (λ (q : List Order). held f q ≡ false) (leb l (level s x.key)) (rw (or_left (eqb x.key f) (held f xs) e) ih) ih

pub part_none : (s : Sizes) (os : List Order) (l f : ℕ) → Up 1 os → 0 < f → held f os ≡ false → part s os l f ≡ []
unfolding list_at held front
part_none s os l f u p e = part_direct s os l f u ∙ from_none (starts_one s l) f (list_at s l os) (rw (ne_eqb 0 f (omega arith)) (held_least s l f os e))
