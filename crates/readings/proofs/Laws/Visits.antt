-- Laws of what the visit's small functions give, and of orders that come by one after the other.
use mathlib.Core.Path.{◌≡◌, refl, sym, ap, ◌∙◌}
use mathlib.Core.Bool.{Bool, true, false, cond}
use mathlib.Core.List.{List, [], ◌∷◌, ◌++◌}
use Prim.Native.Nat.{ℕ, suc, ◌+◌, ◌*◌, ◌-◌, ◌≤◌, ◌<◌}
use lib.Dec.{ltb, leb, eqb}
use lib.ListN.{length}
use lib.Seq.{sets}
use borrow.Author.Tests.{ltb-true, eq-eqb, ne_eqb, le-leb, lt-leb, le-ltb}
use native.Mathlib.Omega.{arith}
use Rattle.placement.specs.Chunks.{node_bytes}
use Rattle.placement.specs.declared.Order.{Order}
use Rattle.sizes.proofs.Laws.Sizes.{and_parts}
use Rattle.skiplist.specs.Questions.{reserve}
use Rattle.skiplist.proofs.Laws.Parts.{below}
use Rattle.readings.specs.declared.Visit.{Visit}
use Rattle.readings.specs.Visit.{Scan, scan, next_found, more_found, ended_visit, wanted_by, row_in, step_by, steps}

-- A COUNT with none, one and then some, and few more
pub next_none : (c : ℕ) → next_found c 0 ≡ c
unfolding next_found
next_none c = omega arith

pub next_more : (c n : ℕ) → next_found (next_found c 1) n ≡ next_found c (suc n)
unfolding next_found
next_more c n = omega arith

pub next_few : (c n : ℕ) → c + n ≤ 65535 → next_found c n ≡ c + n
unfolding next_found
next_few c n h = omega arith

-- SMALL FUNCTIONS
module _ (o : Order) where
  pub reserve_hidden : o.displayed ≡ 0 → 0 ≡ reserve o
  unfolding reserve
  reserve_hidden e = rw (eq-eqb o.displayed 0 e)

  pub reserve_shown : (o.displayed ≡ 0 → ⊥) → o.total - o.displayed ≡ reserve o
  unfolding reserve
  reserve_shown n = rw (ne_eqb o.displayed 0 n)

module _ (v : Visit) (o : Order) where
  pub wanted_low : o.key < v.lo → false ≡ wanted_by v o
  unfolding wanted_by
  wanted_low h = rw (lt-leb _ _ h)

  pub wanted_some : v.lo ≤ o.key → (r : ℕ) → r ≡ reserve o → leb v.least r ≡ wanted_by v o
  unfolding wanted_by
  wanted_some h r er = rw (le-leb _ _ h, er)

-- a row, where r is what a row has
module _ (w : ℕ) (x : List ℕ) (a : ℕ) (o : Order) (r : ℕ) (er : r ≡ w) where
  pub row_none : length x < a + r → x ≡ row_in w x a o
  unfolding row_in
  row_none h = rw (lt-leb (a + w) (length x) (omega arith))

  pub row_made : a + r ≤ length x → (z : List ℕ) → z ≡ sets x a (node_bytes w o) → z ≡ row_in w x a o
  unfolding row_in
  row_made h z e = rw (le-leb (a + w) (length x) (omega arith), e)

-- AN ORDER COMES BY
abbrev pub as_told : (w : ℕ) → Order → Visit → List ℕ → (ended past wanted : Bool) → Scan
as_told w o v x a b c =
    cond a (scan w v x) (cond b (scan w (ended_visit v) x) (cond c (scan w (more_found v 1 o) (cond v.writes (row_in w x (w * v.found) o) x)) (scan w v x)))

module _ (w : ℕ) (o : Order) (v : Visit) (x : List ℕ) where
  pub told : (a b c : Bool) → eqb v.left 0 ≡ a → ltb v.hi o.key ≡ b → wanted_by v o ≡ c → step_by o (scan w v x) ≡ as_told w o v x a b c
  unfolding step_by
  told a b c ea eb ec = rw (ec, eb, ea)

  -- .. one that is found
  pub step_found : eqb v.left 0 ≡ false → ltb v.hi o.key ≡ false → wanted_by v o ≡ true → (z : List ℕ) → z ≡ cond v.writes (row_in w x (w * v.found) o) x →
      scan w (more_found v 1 o) z ≡ step_by o (scan w v x)
  step_found a b c z e = rw e (sym (told false false true a b c))

  pub step_ended : v.left ≡ 0 → scan w v x ≡ step_by o (scan w v x)
  step_ended e = sym (told true _ _ (eq-eqb _ _ e) refl refl)

-- ORDERS, one after the other
pub steps_append : (xs ys : List Order) (x : Scan) → steps (xs ++ ys) x ≡ steps ys (steps xs x)
unfolding steps
steps_append [] ys x = refl
steps_append (o ∷ xs) ys x = steps_append xs ys (step_by o x)

pub steps_ended : (os : List Order) (x : Scan) → x.visit.left ≡ 0 → steps os x ≡ x
unfolding steps
steps_ended [] x e = refl
steps_ended (o ∷ os) x e = ap (steps os) (sym (step_ended x.row o x.visit x.output e)) ∙ steps_ended os x e

-- a visit keeps its range
pub record Keeps (x y : Scan) : Type 0 where
  pub lo : y.visit.lo ≡ x.visit.lo
  pub hi : y.visit.hi ≡ x.visit.hi

pub keeps_all : (x : Scan) → Keeps x x
keeps_all x = record { lo = refl; hi = refl }

pub keeps_on : (x y z : Scan) → Keeps x y → Keeps y z → Keeps x z
keeps_on x y z p q = record { lo = q.lo ∙ p.lo; hi = q.hi ∙ p.hi }

pub step_keeps : (o : Order) (x : Scan) → Keeps x (step_by o x)
unfolding step_by
step_keeps o x = go (eqb x.visit.left 0) (ltb x.visit.hi o.key) (wanted_by x.visit o)
  where
    go : (a b c : Bool) → Keeps x (as_told x.row o x.visit x.output a b c)
    go true b c = keeps_all x
    go false true c = record { lo = refl; hi = refl }
    go false false true = record { lo = refl; hi = refl }
    go false false false = keeps_all x

pub steps_keep : (os : List Order) (x : Scan) → Keeps x (steps os x)
unfolding steps
steps_keep [] x = keeps_all x
steps_keep (o ∷ os) x = keeps_on x (step_by o x) (steps os (step_by o x)) (step_keeps o x) (steps_keep os (step_by o x))

-- orders below the range do nothing
pub step_below : (o : Order) (x : Scan) → o.key < x.visit.lo → o.key ≤ x.visit.hi → step_by o x ≡ x
unfolding step_by wanted_by
step_below o x l h = rw (le-ltb x.visit.hi o.key h, lt-leb x.visit.lo o.key l) (go (eqb x.visit.left 0))
  where
    go : (t : Bool) → cond t x x ≡ x
    go true = refl
    go false = refl

pub steps_below : (os : List Order) (k : ℕ) (x : Scan) → x.visit.lo ≤ x.visit.hi → k ≤ x.visit.lo → below k os ≡ true → steps os x ≡ x
unfolding steps below
steps_below [] k x h l e = refl
steps_below (o ∷ os) k x h l e =
    let w = and_parts (ltb o.key k) (below k os) e in
    let low = ltb-true o.key k w.0 in
    ap (steps os) (step_below o x (omega arith) (omega arith)) ∙ steps_below os k x h l w.1
