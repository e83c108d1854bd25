-- What the orders of a table leave of a visit: the number of those that it finds, the last of them, and their rows.
use mathlib.Core.Path.{◌≡◌, refl, sym, ap, ◌∙◌, subst}
use mathlib.Core.Bool.{Bool, true, false, ◌&&◌, cond, and-false}
use mathlib.Core.List.{List, [], ◌∷◌}
use Prim.Native.Nat.{ℕ, suc, ◌*◌, ◌-◌, ◌<◌}
use native.Mathlib.Omega.{arith}
use lib.Dec.{leb, eqb}
use lib.ListN.{length, take}
use lib.Seq.{take-nil}
use borrow.Author.Tests.{eqb-true, eqb-false, leb-true, leb-false, lt-ltb, le-ltb}
use Rattle.placement.specs.declared.Order.{Order}
use Rattle.skiplist.specs.Questions.{reserve, between, enough}
use Rattle.skiplist.proofs.Laws.Parts.{Up}
use Rattle.skiplist.proofs.Laws.Segment.{between_above}
use Rattle.readings.specs.declared.Visit.{Visit}
use Rattle.readings.specs.Visit.{Scan, scan, next_found, more_found, ended_visit, wanted_by, row_in, step_by, steps}
use Rattle.readings.proofs.Laws.Visits.{next_none, next_more, wanted_some, told, steps_ended, step_below}
use Rattle.readings.proofs.Laws.Wholes.{written, last_found}

-- THOSE THAT A VISIT FINDS among orders that come by
abbrev pub finds : Visit → List Order → List Order
finds v os = take v.left (enough v.least (between v.lo v.hi os))

-- a visit has found some orders
pub record Tallied (w : ℕ) (v : Visit) (x : List ℕ) (ns : List Order) (y : Scan) : Type 0 where
  pub found : y.visit.found ≡ next_found v.found (length ns)
  pub last : y.visit.last ≡ last_found v.last ns
  pub output : y.output ≡ written w v.writes x v.found ns

-- none of them is taken, or the first and then some
take_none : (n : ℕ) (os : List Order) → n ≡ 0 → take n os ≡ []
take_none n os e = ap (λ (i : ℕ). take i os) e

take_first : (n : ℕ) (o : Order) (os : List Order) → (n ≡ 0 → ⊥) → take n (o ∷ os) ≡ o ∷ take (n - 1) os
take_first n o os h = let e : n ≡ suc (n - 1) = omega (arith, h) in ap (λ (i : ℕ). take i (o ∷ os)) e

module _ (w : ℕ) where
  none : (v u : Visit) (x : List ℕ) → u.found ≡ v.found → u.last ≡ v.last → Tallied w v x [] (scan w u x)
  unfolding last_found written
  none v u x e f = record { found = e ∙ sym (next_none v.found); last = f; output = refl }

  one_more : (o : Order) (ns : List Order) (v : Visit) (x : List ℕ) (y : Scan) → Tallied w (more_found v 1 o) (cond v.writes (row_in w x (w * v.found) o) x) ns y → Tallied w v x (o ∷ ns) y
  unfolding last_found written
  one_more o ns v x y t = record { found = t.found ∙ next_more v.found (length ns); last = t.last; output = t.output }

  pub tally : (os : List Order) (a : ℕ) → Up a os → (v : Visit) (x : List ℕ) → Tallied w v x (finds v os) (steps os (scan w v x))
  unfolding steps between enough
  tally [] a u v x = rw (take-nil v.left) (none v v x refl refl)
  tally (o ∷ os) a u v x =
      go (tally os (suc o.key) u.1) (eqb v.left 0) refl (leb o.key v.hi) refl (leb v.lo o.key) refl (leb v.least (reserve o)) refl
    where
      asked : leb v.lo o.key ≡ true → (t : Bool) → leb v.least (reserve o) ≡ t → wanted_by v o ≡ t
      asked b t d = sym (wanted_some v o (leb-true v.lo o.key b) (reserve o) refl) ∙ d

      go : ((v : Visit) (x : List ℕ) → Tallied w v x (finds v os) (steps os (scan w v x))) → (e : Bool) → eqb v.left 0 ≡ e → (c : Bool) → leb o.key v.hi ≡ c →
          (b : Bool) → leb v.lo o.key ≡ b → (d : Bool) → leb v.least (reserve o) ≡ d →
          Tallied w v x (take v.left (enough v.least (cond (b && c) (o ∷ between v.lo v.hi os) (between v.lo v.hi os)))) (steps os (step_by o (scan w v x)))
      go ih true e c ec b eb d ed =
          let h : v.left ≡ 0 = eqb-true v.left 0 e in
          rw (take_none v.left _ h) (subst (Tallied w v x []) (sym (steps_ended (o ∷ os) (scan w v x) h)) (none v v x refl refl))
      go ih false e false c b eb d ed =
          let h : v.hi < o.key = leb-false o.key v.hi c in
          let one = ap (steps os) (told w o v x false true _ e (lt-ltb _ _ h) refl) ∙ steps_ended os (scan w (ended_visit v) x) refl in
          rw (and-false, between_above v.lo v.hi (suc o.key) os (omega arith) u.1, take-nil v.left)
          (subst (Tallied w v x []) (sym one) (none v (ended_visit v) x refl refl))
      go ih false e true c false b d ed =
          subst (Tallied w v x (finds v os)) (sym (ap (steps os) (step_below o (scan w v x) (leb-false v.lo o.key b) (leb-true o.key v.hi c)))) (ih v x)
      go ih false e true c true b false d =
          rw d (subst (Tallied w v x (finds v os)) (sym (ap (steps os) (told w o v x false false false e (le-ltb _ _ (leb-true o.key v.hi c)) (asked b false d)))) (ih v x))
      go ih false e true c true b true d =
          let more : v.left ≡ 0 → ⊥ = eqb-false v.left 0 e in
          let one = ap (steps os) (told w o v x false false true e (le-ltb _ _ (leb-true o.key v.hi c)) (asked b true d)) in
          rw (d, take_first v.left o (enough v.least (between v.lo v.hi os)) more) (
          subst (Tallied w v x (o ∷ finds (more_found v 1 o) os)) (sym one)
          (one_more o (finds (more_found v 1 o) os) v x _ (ih (more_found v 1 o) (cond v.writes (row_in w x (w * v.found) o) x)))
          )
