-- Rising orders, good orders taken apart, and the partition that a key heads.
use mathlib.Core.Path.{◌≡◌, refl}
use mathlib.Core.Bool.{Bool, true, false, ◌&&◌, ◌||◌}
use mathlib.Core.List.{List, [], ◌∷◌, ◌++◌, append-nil}
use Prim.Native.Nat.{ℕ, suc, ◌≤◌, ◌<◌}
use native.Mathlib.Omega.{arith}
use borrow.Author.Tests.{leb-true, eq-eqb, ne_eqb, lt-ltb}
use lib.ListN.{length}
use lib.Dec.{ltb, leb}
use Rattle.sizes.specs.Sizes.{prime}
use Rattle.sizes.specs.Hash.{level}
use Rattle.sizes.specs.declared.Sizes.{Sizes}
use Rattle.placement.specs.declared.Order.{Order}
use Rattle.placement.proofs.Laws.Cells.{cond_out, cond_valid}
use Rattle.sizes.proofs.Laws.Sizes.{and_parts}
use Rattle.skiplist.specs.Lists.{at_least, rest, first_key}
use Rattle.skiplist.specs.Image.{quantities_good, orders_good}
use Rattle.skiplist.specs.Questions.{without}
unfoldable pub use Rattle.skiplist.specs.Parts.{Up, below, pick, part}

-- first keys rise, from a on
abbrev pub Heads : (a : ℕ) → List (List Order) → Type 0
Heads a [] = Unit {0}
Heads a (p ∷ ps) = (a ≤ first_key p) × Heads (suc (first_key p)) ps

pub up_from : {a b : ℕ} (xs : List Order) → b ≤ a → Up a xs → Up b xs
up_from [] h u = u
up_from (x ∷ xs) h u = (omega (arith, u.0), u.1)

pub heads_from : {a b : ℕ} (ps : List (List Order)) → b ≤ a → Heads a ps → Heads b ps
heads_from [] h u = u
heads_from (x ∷ xs) h u = (omega (arith, u.0), u.1)

pub and_left : (a b : Bool) → (a && b) ≡ true → a ≡ true
and_left true b e = refl
and_left false b e = e

pub and_right : (a b : Bool) → (a && b) ≡ true → b ≡ true
and_right true b e = e
and_right false b e = cc

pub or_left : (a b : Bool) → (a || b) ≡ false → a ≡ false
or_left true b e = cc
or_left false b e = refl

pub or_right : (a b : Bool) → (a || b) ≡ false → b ≡ false
or_right true b e = cc
or_right false b e = e

pub up_past : (xs : List Order) (y : Order) (zs : List Order) (a : ℕ) → Up a (xs ++ y ∷ zs) → a ≤ y.key
up_past [] y zs a u = u.0
up_past (x ∷ xs) y zs a u = omega (arith, u.0, up_past xs y zs _ u.1)

-- orders-good, taken apart
pub record Good (s : Sizes) (a : ℕ) (o : Order) (os : List Order) : Type 0 where
  pub from : a ≤ o.key
  pub key : ltb o.key prime ≡ true
  pub quantity : quantities_good s o.total o.displayed o.price ≡ true
  pub others : orders_good s (suc o.key) os ≡ true

pub good_parts : (s : Sizes) (a : ℕ) (o : Order) (os : List Order) → orders_good s a (o ∷ os) ≡ true → Good s a o os
unfolding orders_good
good_parts s a o os e =
    let p = and_parts _ _ e in
    let q = and_parts _ _ p.0 in
    let k = and_parts _ _ q.0 in
    record { from = leb-true a o.key k.0; key = k.1; quantity = q.1; others = p.1 }

pub good_up : (s : Sizes) (a : ℕ) (os : List Order) → orders_good s a os ≡ true → Up a os
good_up s a [] e = tt
good_up s a (o ∷ os) e = let w = good_parts s a o os e in (w.from, good_up s (suc o.key) os w.others)

pub first_more : (p qs : List Order) → 0 < length p → first_key (p ++ qs) ≡ first_key p
unfolding first_key
first_more [] qs h = absurd (omega arith)
first_more (o ∷ p) qs h = refl

module _ (s : Sizes) (l : ℕ) where
  pub at_least_append : (xs zs : List Order) → at_least s l (xs ++ zs) ≡ at_least s l xs ++ at_least s l zs
  unfolding at_least
  at_least_append [] zs = refl
  at_least_append (x ∷ xs) zs =
      rw (at_least_append xs zs) (cond_out (λ (r : List Order). r ++ at_least s l zs) (leb l (level s x.key)) (x ∷ at_least s l xs) (at_least s l xs))

  pub at_least_up : (a : ℕ) (xs : List Order) → Up a xs → Up a (at_least s l xs)
  unfolding at_least
  at_least_up a [] u = tt
  at_least_up a (x ∷ xs) u =
      let v = at_least_up _ xs u.1 in
      cond_valid (Up a) (leb l (level s x.key)) (u.0, v) (up_from (at_least s l xs) (omega (arith, u.0)) v)

module _ (st : Order → Bool) where
  pub rest_heads : (a : ℕ) (xs : List Order) → Up a xs → Heads a (rest st xs)
  unfolding rest first_key
  rest_heads a [] u = tt
  rest_heads a (x ∷ xs) u =
      let v = rest_heads _ xs u.1 in
      cond_valid (Heads a) (st x) (u.0, v) (heads_from (rest st xs) (omega (arith, u.0)) v)

pub pick_past : (f : ℕ) (ps : List (List Order)) (a : ℕ) → f < a → Heads a ps → pick f ps ≡ []
unfolding pick
pick_past f [] a h u = refl
pick_past f (p ∷ ps) a h u = rw (ne_eqb (first_key p) f (omega (arith, u.0)), pick_past f ps _ (omega (arith, u.0)) u.1)

-- in its place, where first keys rise
pub pick_at : (ps : List (List Order)) (p : List Order) (qs : List (List Order)) (a : ℕ) → Heads a (ps ++ p ∷ qs) → pick (first_key p) (ps ++ p ∷ qs) ≡ p
unfolding pick
pick_at [] p qs a u = rw (eq-eqb (first_key p) (first_key p) refl, pick_past (first_key p) qs _ (omega arith) u.1, append-nil)
pick_at (r ∷ ps) p qs a u = rw (ne_eqb (first_key r) (first_key p) (omega (arith, heads_past ps p qs _ u.1))) (pick_at ps p qs _ u.1)
  where
    heads_past : (ps : List (List Order)) (p : List Order) (qs : List (List Order)) (a : ℕ) → Heads a (ps ++ p ∷ qs) → a ≤ first_key p
    heads_past [] p qs a u = u.0
    heads_past (r ∷ ps) p qs a u = omega (arith, u.0, heads_past ps p qs _ u.1)

-- and elsewhere what stands there is passed over
pub pick_other : (f : ℕ) (ps : List (List Order)) (p : List Order) (qs : List (List Order)) → (first_key p ≡ f → ⊥) → pick f (ps ++ p ∷ qs) ≡ pick f (ps ++ qs)
unfolding pick
pick_other f [] p qs h = rw (ne_eqb (first_key p) f h)
pick_other f (r ∷ ps) p qs h = rw (pick_other f ps p qs h)

-- an order taken out of rising ones
pub without_here : (xs : List Order) (y : Order) (zs : List Order) (a : ℕ) → Up a (xs ++ y ∷ zs) → without y.key (xs ++ y ∷ zs) ≡ xs ++ zs
unfolding without
without_here [] y zs a u = rw (eq-eqb y.key y.key refl)
without_here (x ∷ xs) y zs a u = rw (ne_eqb x.key y.key (omega (arith, up_past xs y zs _ u.1)), without_here xs y zs _ u.1)

pub up_out : (xs : List Order) (y : Order) (zs : List Order) (a : ℕ) → Up a (xs ++ y ∷ zs) → Up a (xs ++ zs)
up_out [] y zs a u = up_from zs (omega (arith, u.0)) u.1
up_out (x ∷ xs) y zs a u = (u.0, up_out xs y zs _ u.1)

pub up_front : (xs zs : List Order) (a : ℕ) → Up a (xs ++ zs) → Up a xs
up_front [] zs a u = tt
up_front (x ∷ xs) zs a u = (u.0, up_front xs zs (suc x.key) u.1)

pub below_here : (xs : List Order) (z : Order) (zs : List Order) (a : ℕ) → Up a (xs ++ z ∷ zs) → below z.key xs ≡ true
unfolding below
below_here [] z zs a u = refl
below_here (x ∷ xs) z zs a u = rw (lt-ltb x.key z.key (up_past xs z zs (suc x.key) u.1)) (below_here xs z zs (suc x.key) u.1)
