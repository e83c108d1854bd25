-- Rising lists that tell the same of every key are equal.
use mathlib.Core.Path.{◌≡◌, refl, sym, ap, ◌∙◌, subst}
use mathlib.Core.Bool.{Bool, true, false, false≢true}
use mathlib.Core.List.{List, [], ◌∷◌}
use Prim.Native.Nat.{ℕ, suc, ◌<◌}
use native.Mathlib.Omega.{arith}
use borrow.Author.Tests.{ltb-true, ltb-false, eqb-true, eqb-false, eq-eqb, ne_eqb}
use lib.Dec.{ltb, eqb}
use Rattle.placement.specs.declared.Order.{Order}
use Rattle.skiplist.specs.Questions.{held, lowest}
use Rattle.skiplist.proofs.Laws.Parts.{Up}
use Rattle.skiplist.proofs.Laws.Segment.{between_above, between_own, between_other, held_between}
use Rattle.skiplist.proofs.Laws.Kept.{held_past}
use Rattle.table.specs.Calls.{order_of}
use Rattle.table.specs.Promise.{SameOrders, OrderHasKey}

-- what orders tell of one that they have; and that two lists tell the same of a key
abbrev pub Tells : Order → List Order → Type 0
Tells o os = (held o.key os ≡ true) × (order_of o.key os ≡ o)

abbrev pub SameAt : (key : ℕ) → (one other : List Order) → Type 0
SameAt k os qs = (held k os ≡ held k qs) × (order_of k os ≡ order_of k qs)

-- of the first key, of another key, and of one below all
pub here : (o : Order) (os : List Order) → Tells o (o ∷ os)
unfolding held order_of lowest
here o os = (rw (eq-eqb o.key o.key refl), ap lowest (between_own o.key o os refl))

pub there : (k : ℕ) (o : Order) (os : List Order) → (o.key ≡ k → ⊥) → SameAt k (o ∷ os) os
unfolding held order_of
there k o os h = (rw (ne_eqb o.key k h), ap lowest (between_other k o os h))

past : (k a : ℕ) (os : List Order) → k < a → Up a os → (held k os ≡ false) × (order_of k os ≡ lowest [])
unfolding order_of
past k a os h u = (held_past k a os h u, ap lowest (between_above k k a os h u))

pub none_held : (k : ℕ) → held k [] ≡ false
unfolding held
none_held k = refl

pub order_has_key : OrderHasKey
unfolding OrderHasKey order_of
order_has_key k os h = let w = held_between k os in w.1 (sym w.0 ∙ h)

-- the first of one list is not missing in the other
missing : (a : ℕ) (o : Order) (os qs : List Order) → Up a qs → o.key < a → SameOrders (o ∷ os) qs → ⊥
unfolding SameOrders
missing a o os qs v e h = false≢true (sym (held_past o.key a qs e v) ∙ sym (h o.key).0 ∙ (here o os).0)

turned : (os qs : List Order) → SameOrders os qs → SameOrders qs os
unfolding SameOrders
turned os qs h k = (sym (h k).0, sym (h k).1)

rests : (o q : Order) (os qs : List Order) → o.key ≡ q.key → Up (suc o.key) os → Up (suc q.key) qs → SameOrders (o ∷ os) (q ∷ qs) → SameOrders os qs
unfolding SameOrders
rests o q os qs e u v h k = go (eqb o.key k) refl
  where
    go : (t : Bool) → eqb o.key k ≡ t → SameAt k os qs
    go true g =
        let f = eqb-true o.key k g in
        let i = past k (suc o.key) os (omega arith) u in
        let j = past k (suc q.key) qs (omega arith) v in
        (i.0 ∙ sym j.0, i.1 ∙ sym j.1)
    go false g =
        let f = eqb-false o.key k g in
        let i = there k o os f in
        let j = there k q qs (λ w. f (e ∙ w)) in
        (sym i.0 ∙ (h k).0 ∙ j.0, sym i.1 ∙ (h k).1 ∙ j.1)

pub same_equal : (a : ℕ) (os qs : List Order) → Up a os → Up a qs → SameOrders os qs → os ≡ qs
unfolding SameOrders
same_equal a [] [] u v h = refl
same_equal a [] (q ∷ qs) u v h = absurd (false≢true (sym (none_held q.key) ∙ (h q.key).0 ∙ (here q qs).0))
same_equal a (o ∷ os) [] u v h = absurd (false≢true (sym (none_held o.key) ∙ sym (h o.key).0 ∙ (here o os).0))
same_equal a (o ∷ os) (q ∷ qs) u v h = go (ltb o.key q.key) refl (ltb q.key o.key) refl (λ r. same_equal (suc q.key) os qs r v.1)
  where
    go : (t : Bool) → ltb o.key q.key ≡ t → (t' : Bool) → ltb q.key o.key ≡ t' → (Up (suc q.key) os → SameOrders os qs → os ≡ qs) → ◌≡◌ {A = List Order} (o ∷ os) (q ∷ qs)
    go true e t' f ih = absurd (missing q.key o os (q ∷ qs) (omega arith, v.1) (ltb-true o.key q.key e) h)
    go false e true f ih = absurd (missing o.key q qs (o ∷ os) (omega arith, u.1) (ltb-true q.key o.key f) (turned (o ∷ os) (q ∷ qs) h))
    go false e false f ih =
        let k : o.key ≡ q.key = omega (arith, ltb-false o.key q.key e, ltb-false q.key o.key f) in
        let w : o ≡ q = sym (here o os).1 ∙ (h o.key).1 ∙ rw k (here q qs).1 in
        let r = ih (subst (λ (z : ℕ). Up (suc z) os) k u.1) (rests o q os qs k u.1 v.1 h) in
        λ i. w i ∷ r i

pub equal_same : (os qs : List Order) → os ≡ qs → SameOrders os qs
unfolding SameOrders
equal_same os qs e k = (ap (held k) e, ap (order_of k) e)
