-- For the check and for spans: a partition from what stands behind its head; the keys that a node's walk gives; the order with a key.
use mathlib.Core.Path.{◌≡◌, refl, ◌∙◌}
use mathlib.Core.Bool.{Bool, true, false, ◌&&◌, ◌||◌, cond, and-false, false≢true}
use mathlib.Core.List.{List, [], ◌∷◌, ◌++◌}
use Prim.Native.Nat.{ℕ, suc, ◌≤◌, ◌<◌}
use native.Mathlib.Omega.{arith}
use borrow.Author.Tests.{eqb-true, eqb-false, leb-true, le-leb, lt-leb}
use lib.Dec.{leb, eqb}
use Rattle.sizes.specs.Hash.{level}
use Rattle.sizes.specs.declared.Sizes.{Sizes}
use Rattle.placement.specs.declared.Order.{Order}
use Rattle.skiplist.specs.Lists.{at_least, starts_one, run}
use Rattle.skiplist.specs.Questions.{held, between, any_order, lowest}
use Rattle.skiplist.proofs.Laws.Parts.{Up, up_from, part}
use Rattle.skiplist.proofs.Laws.Edits.{stays, tail_part, tail_high, part_right}

-- every level in a list is at most l
abbrev pub Low : Sizes → (l : ℕ) → List Order → Type 0
Low s l [] = Unit {0}
Low s l (x ∷ xs) = (level s x.key ≤ l) × Low s l xs

-- a list is empty or begins above l
abbrev pub High : Sizes → (l : ℕ) → List Order → Type 0
High s l [] = Unit {0}
High s l (x ∷ xs) = l < level s x.key

module _ (s : Sizes) (l : ℕ) where
  pub tail_segment : (rs cs : List Order) → Up 1 rs → Low s l rs → High s l cs → tail_part s l (rs ++ cs) ≡ at_least s l rs
  unfolding tail_part at_least run
  tail_segment [] [] u h g = refl
  tail_segment [] (c ∷ cs) u h g = tail_high s l c cs g
  tail_segment (r ∷ rs) cs u h g = go (tail_segment rs cs (up_from rs (omega arith) u.1) h.1 g) (leb l (level s r.key))
    where
      go : run (starts_one s l) (at_least s l (rs ++ cs)) ≡ at_least s l rs → (t : Bool) →
          run (starts_one s l) (cond t (r ∷ at_least s l (rs ++ cs)) (at_least s l (rs ++ cs))) ≡ cond t (r ∷ at_least s l rs) (at_least s l rs)
      go ih true = rw (stays s l r u.0 h.0, ih)
      go ih false = ih

  -- THE PARTITION of a node x above l: x, and what of level l stands behind it, up to the next node above l
  pub part_segment : (xs : List Order) (x : Order) (rs cs : List Order) → Up 1 (xs ++ x ∷ (rs ++ cs)) → Up 1 rs → l < level s x.key → Low s l rs → High s l cs →
      part s (xs ++ x ∷ (rs ++ cs)) l x.key ≡ x ∷ at_least s l rs
  part_segment xs x rs cs u v h g k = part_right s l xs x (rs ++ cs) u h ∙ rw (tail_segment rs cs v g k)

-- spans
pub between_above : (lo hi a : ℕ) (xs : List Order) → hi < a → Up a xs → between lo hi xs ≡ []
unfolding between
between_above lo hi a [] h u = refl
between_above lo hi a (x ∷ xs) h u = rw (lt-leb x.key hi (omega (arith, u.0)), and-false) (between_above lo hi (suc x.key) xs (omega (arith, u.0)) u.1)

-- the orders with a key: one that has it comes, another does not
pub between_own : (k : ℕ) (o : Order) (os : List Order) → o.key ≡ k → between k k (o ∷ os) ≡ o ∷ between k k os
unfolding between
between_own k o os e = rw (le-leb k o.key (omega (arith, e)), le-leb o.key k (omega (arith, e)))

pub between_other : (k : ℕ) (o : Order) (os : List Order) → (o.key ≡ k → ⊥) → between k k (o ∷ os) ≡ between k k os
unfolding between
between_other k o os h = go (leb k o.key) refl (leb o.key k) refl
  where
    go : (a : Bool) → leb k o.key ≡ a → (b : Bool) → leb o.key k ≡ b → cond (a && b) (o ∷ between k k os) (between k k os) ≡ between k k os
    go true p true q = absurd (h (omega (arith, leb-true k o.key p, leb-true o.key k q)))
    go true p false q = refl
    go false p b q = refl

pub held_between : (k : ℕ) (os : List Order) → (held k os ≡ any_order (between k k os)) × (any_order (between k k os) ≡ true → (lowest (between k k os)).key ≡ k)
unfolding held between any_order lowest
held_between k [] = (refl, λ h. absurd (false≢true h))
held_between k (o ∷ os) = go (eqb o.key k) refl (held_between k os)
  where
    go : (t : Bool) → eqb o.key k ≡ t → (held k os ≡ any_order (between k k os)) × (any_order (between k k os) ≡ true → (lowest (between k k os)).key ≡ k) →
        ((t || held k os) ≡ any_order (between k k (o ∷ os))) × (any_order (between k k (o ∷ os)) ≡ true → (lowest (between k k (o ∷ os))).key ≡ k)
    go true e ih = let f = eqb-true o.key k e in rw (between_own k o os f) (refl, λ h. f)
    go false e ih = rw (between_other k o os (eqb-false o.key k e)) ih
