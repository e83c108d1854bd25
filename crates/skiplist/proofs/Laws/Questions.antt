-- A list of questions gives 0 where each has a yes, and else the number of the first that has a no. Every order has a reserve of 0.
use mathlib.Core.Path.{◌≡◌, refl, sym, ap, ◌∙◌}
use mathlib.Core.Bool.{Bool, true, false, not, ◌&&◌, cond, false≢true}
use mathlib.Core.List.{List, [], ◌∷◌, ◌++◌}
use mathlib.Core.Logic.{◌⊎◌, inl, inr}
use Prim.Native.Nat.{ℕ, suc}
use native.Mathlib.Omega.{arith}
use borrow.Author.Tests.{eq-eqb, le-leb}
use lib.Dec.{eqb}
use Rattle.sizes.proofs.Laws.Sizes.{and_parts}
use Rattle.skiplist.specs.Questions.{Question, ask, first_no, all_yes, TurnedDown, FirstNoMeans, reserve, enough, ZeroFindsAll}

-- a question that does not turn the call down
pub passes : (n : ℕ) (yes : Bool) (r : ℕ) → cond yes r (suc n) ≡ 0 → (yes ≡ true) × (r ≡ 0)
passes n true r e = (refl, e)
passes n false r e = absurd (omega arith)

pub first_no_means : FirstNoMeans
unfolding FirstNoMeans first_no all_yes
first_no_means [] = inl (refl, refl)
first_no_means (ask n false ∷ qs) = inr (record { asked = []; later = qs; is = refl; passed = refl })
first_no_means (ask n true ∷ qs) = go (first_no_means qs)
  where
    go : ((first_no qs ≡ 0) × (all_yes qs ≡ true)) ⊎ TurnedDown (first_no qs) qs → ((first_no qs ≡ 0) × (all_yes qs ≡ true)) ⊎ TurnedDown (first_no qs) (ask n true ∷ qs)
    go (inl w) = inl w
    go (inr w) = inr (record { asked = ask n true ∷ w.asked; later = w.later; is = ap (λ (z : List Question). ask n true ∷ z) w.is; passed = w.passed })

pub zero_finds_all : ZeroFindsAll
unfolding ZeroFindsAll enough
zero_finds_all [] = refl
zero_finds_all (o ∷ os) = rw (le-leb 0 (reserve o) (omega arith), zero_finds_all os)

-- A NUMBER IS GIVEN FOR ITS OWN QUESTION, where no other question has it
unfoldable pub apart : (n : ℕ) → List Question → Bool
apart n [] = not (eqb n 0)
apart n (ask m t ∷ qs) = not (eqb m n) && apart n qs

pub never : (n : ℕ) (qs : List Question) → apart n qs ≡ true → first_no qs ≡ n → ⊥
unfolding apart first_no
never n [] a e = false≢true (sym (ap not (eq-eqb n 0 (sym e))) ∙ a)
never n (ask m true ∷ qs) a e = never n qs (and_parts (not (eqb m n)) (apart n qs) a).1 e
never n (ask m false ∷ qs) a e = false≢true (sym (ap not (eq-eqb m n e)) ∙ (and_parts (not (eqb m n)) (apart n qs) a).0)

pub own_question : (n : ℕ) (qs rs : List Question) (t : Bool) → apart n (qs ++ rs) ≡ true → first_no (qs ++ ask n t ∷ rs) ≡ n → t ≡ false
unfolding apart first_no
own_question n [] rs true a e = absurd (never n rs a e)
own_question n [] rs false a e = refl
own_question n (ask m true ∷ qs) rs t a e = own_question n qs rs t (and_parts (not (eqb m n)) (apart n (qs ++ rs)) a).1 e
own_question n (ask m false ∷ qs) rs t a e = absurd (false≢true (sym (ap not (eq-eqb m n e)) ∙ (and_parts (not (eqb m n)) (apart n (qs ++ rs)) a).0))

-- A QUESTION BEFORE the one whose number is given had a yes
unfoldable pub others : (n : ℕ) → List Question → Bool
others n [] = true
others n (ask m t ∷ qs) = not (eqb m n) && others n qs

pub asked_before : (n : ℕ) (qs rs : List Question) (m : ℕ) (t : Bool) → others n (qs ++ ask m t ∷ []) ≡ true → first_no (qs ++ ask m t ∷ rs) ≡ n → t ≡ true
unfolding others first_no
asked_before n [] rs m true a e = refl
asked_before n [] rs m false a e = absurd (false≢true (sym (ap not (eq-eqb m n e)) ∙ (and_parts (not (eqb m n)) true a).0))
asked_before n (ask l true ∷ qs) rs m t a e = asked_before n qs rs m t (and_parts (not (eqb l n)) (others n (qs ++ ask m t ∷ [])) a).1 e
asked_before n (ask l false ∷ qs) rs m t a e = absurd (false≢true (sym (ap not (eq-eqb l n e)) ∙ (and_parts (not (eqb l n)) (others n (qs ++ ask m t ∷ [])) a).0))
