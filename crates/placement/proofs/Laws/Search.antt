-- The search for a label from its home ends at the first block that is empty, has that label or has a larger one, or after m blocks.
use Rattle.std.proofs.Common.{◌≡◌, ℕ, zero, suc, ◌+◌, ◌<◌, ◌≤◌, Bool, true, false, cond, ◌⊎◌, List, sym, refl, ap, ◌∙◌, inl, inr, true≢false, add-suc, arith}
use Rattle.placement.specs.Blocks.{Block, empty, holds, around, holds_smaller, SmallerTo, Rule3}
use Rattle.sizes.proofs.Laws.Round.{Which, which, less, same, more}
use Rattle.placement.proofs.Laws.Blocks.{Far, far, Ordered}
use Rattle.placement.proofs.Laws.Insertion.{Other, smaller_on}

-- where the search for the label of c ends: at a block that holds the label, or at one before which the label would stand
pub data Found (A : Type 0) : Type 0 where
  at_place : (i : ℕ) → A → Found A
  absent : Found A

abbrev pub search_step : {A : Type 0} (before : A → A → Bool) (c : A) (i : ℕ) → Block A → Found A → Found A
search_step before c i empty x = absent
search_step before c i (holds d) x = cond (before d c) x (cond (before c d) absent (at_place i d))

unfoldable pub search_from : {A : Type 0} (before : A → A → Bool) (fuel i m : ℕ) (c : A) → List (Block A) → Found A
search_from before zero i m c bs = absent
search_from before (suc f) i m c bs = search_step before c i (around m bs i) (search_from before f (suc i) m c bs)

-- what the answer says of the table
abbrev pub Answer : {A : Type 0} (before : A → A → Bool) (m : ℕ) (c : A) → List (Block A) → Found A → Type 0
Answer before m c bs (at_place i d) = (around m bs i ≡ holds d) × (before d c ≡ false) × (before c d ≡ false)
Answer before m c bs absent = Other before m c bs

module _ {A : Type 0} {home : A → ℕ} {before : A → A → Bool} {m : ℕ} (ord : Ordered home before m) (c : A) (bs : List (Block A)) (r : Rule3 home before m bs) where
  smaller_like : (x : A) (b : Block A) → before x c ≡ false → before c x ≡ false → holds_smaller before x b ≡ true → holds_smaller before c b ≡ true
  smaller_like x empty p q h = h
  smaller_like x (holds e) p q h = ord.like x c e p q h

  -- k blocks hold smaller labels, and the next does not, nor the label itself: the label stands nowhere
  pub stands_nowhere : (k : ℕ) → SmallerTo home before m bs c k → (m ≤ k) ⊎ (holds_smaller before c (around m bs (home c + k)) ≡ false)
      → ((x : A) → around m bs (home c + k) ≡ holds x → k < m → before x c ≡ false → before c x ≡ true) → Other before m c bs
  stands_nowhere k s end none x t p = go (before c x) refl
    where
      by : before c x ≡ false → (y : Far home m bs x t.at) → home c ≡ home x → (m ≤ k) ⊎ (holds_smaller before c (around m bs (home c + k)) ≡ false) → Which y.steps k → before c x ≡ true
      by q y e u (less h) =
          let z = s y.steps h in
          let w : around m bs (home c + y.steps) ≡ holds x = rw e y.is in
          absurd (true≢false (cc (z, w)))
      by q y e u (same h) = none x (rw (← h, e) y.is) (omega (arith, y.few)) p
      by q y e (inl u) (more h) = absurd (omega (arith, y.few))
      by q y e (inr u) (more h) =
          let z = r x y.steps y.few y.is k h in
          let w = smaller_like x (around m bs (home x + k)) p q z in
          absurd (true≢false (sym w ∙ ap (λ (n : ℕ). holds_smaller before c (around m bs (n + k))) (sym e) ∙ u))

      go : (b : Bool) → before c x ≡ b → before c x ≡ true
      go true q = q
      go false q = by q (far ord bs x t.at t.is) (ord.tied c x q p) end (which (far ord bs x t.at t.is).steps k)

  -- THE SEARCH gives the block that has the label, or says that the label stands nowhere
  pub search_right : (f k : ℕ) → SmallerTo home before m bs c k → f + k ≡ m → Answer before m c bs (search_from before f (home c + k) m c bs)
  unfolding search_from
  search_right zero k s e = stands_nowhere k s (inl (omega arith)) (λ x z w p. absurd (omega arith))
  search_right (suc f) k s e = go (around m bs (home c + k)) refl (λ s'. search_right f (suc k) s' (omega arith))
    where
      i : ℕ
      i = home c + k

      rest : Found A
      rest = search_from before f (suc i) m c bs

      go : (b : Block A) → around m bs i ≡ b
          → (SmallerTo home before m bs c (suc k) → Answer before m c bs (search_from before f (home c + suc k) m c bs)) → Answer before m c bs (search_step before c i b rest)
      go empty z on = stands_nowhere k s (inr (rw z)) (λ x w v p. absurd (true≢false (cc (z, w))))
      go (holds d) z on = test (before d c) (before c d) refl refl
        where
          test : (p q : Bool) → before d c ≡ p → before c d ≡ q → Answer before m c bs (cond p rest (cond q absent (at_place i d)))
          test true q h g = rw add-suc at (on (smaller_on ord bs c k s (rw z h)))
          test false true h g = stands_nowhere k s (inr (rw (z, h))) (λ x w v p. (let o : x ≡ d = cc (z, w) in rw o g))
          test false false h g = (z, h, g)
