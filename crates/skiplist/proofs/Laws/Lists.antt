-- L_k is the front and the orders of level k or more, and nothing else.
use mathlib.Core.Path.{◌≡◌, refl, sym, subst}
use mathlib.Core.Bool.{Bool, true, false, cond}
use mathlib.Core.List.{List, [], ◌∷◌}
use mathlib.Core.Logic.{◌⊎◌, inl, inr}
use Prim.Native.Nat.{ℕ, ◌≤◌}
use native.Mathlib.Omega.{arith}
use borrow.Author.Tests.{leb-true, leb-false}
use lib.Dec.{leb}
use Rattle.sizes.specs.Hash.{level}
use Rattle.sizes.specs.declared.Sizes.{Sizes}
use Rattle.placement.specs.declared.Order.{Order}
use Rattle.skiplist.specs.Lists.{front, at_least, list_at}
use Rattle.skiplist.specs.Rules.{ListsAre}
use Rattle.placement.specs.Blocks.{Among}

least_among : (s : Sizes) (k : ℕ) (os : List Order) (o : Order) → Among o (at_least s k os) → Among o os × (k ≤ level s o.key)
unfolding at_least
least_among s k [] o h = absurd h
least_among s k (q ∷ os) o h = go (leb k (level s q.key)) refl h (least_among s k os o)
  where
    go : (t : Bool) → leb k (level s q.key) ≡ t → Among o (cond t (q ∷ at_least s k os) (at_least s k os)) → (Among o (at_least s k os) → Among o os × (k ≤ level s o.key)) →
        Among o (q ∷ os) × (k ≤ level s o.key)
    go true e (inl f) ih = (inl f, subst (λ (z : Order). k ≤ level s z.key) (sym f) (leb-true k (level s q.key) e))
    go true e (inr w) ih = let v = ih w in (inr v.0, v.1)
    go false e w ih = let v = ih w in (inr v.0, v.1)

among_least : (s : Sizes) (k : ℕ) (os : List Order) (o : Order) → Among o os → k ≤ level s o.key → Among o (at_least s k os)
unfolding at_least
among_least s k [] o h l = absurd h
among_least s k (q ∷ os) o h l = go (leb k (level s q.key)) refl h (λ w. among_least s k os o w l)
  where
    go : (t : Bool) → leb k (level s q.key) ≡ t → Among o (q ∷ os) → (Among o os → Among o (at_least s k os)) → Among o (cond t (q ∷ at_least s k os) (at_least s k os))
    go true e (inl f) ih = inl f
    go true e (inr w) ih = inr (ih w)
    go false e (inl f) ih = absurd (omega (arith, leb-false k (level s q.key) e, subst (λ (z : Order). k ≤ level s z.key) f l))
    go false e (inr w) ih = ih w

pub lists_are : ListsAre
unfolding ListsAre list_at
lists_are s os k o = (to, back)
  where
    to : Among o (front ∷ at_least s k os) → (o ≡ front) ⊎ (Among o os × (k ≤ level s o.key))
    to (inl e) = inl e
    to (inr h) = inr (least_among s k os o h)

    back : (o ≡ front) ⊎ (Among o os × (k ≤ level s o.key)) → Among o (front ∷ at_least s k os)
    back (inl e) = inl e
    back (inr h) = inr (among_least s k os o h.0 h.1)
