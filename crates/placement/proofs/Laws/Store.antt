-- One store into a table that keeps rule 3.
use Rattle.std.proofs.Common.{◌≡◌, ℕ, zero, ◌+◌, ◌%◌, ◌<◌, Bool, true, ◌≢◌, ◌⊎◌, List, length, sym, refl, ap, ◌∙◌, inl, inr, arith}
use native.Mathlib.Decide.{ℕ_discrete}
use Rattle.placement.specs.Blocks.{Block, empty, holds, around, stored, holds_smaller, Stands, SmallerTo, Rule3}
use Rattle.sizes.proofs.Laws.Round.{steps_same}
use Rattle.placement.proofs.Laws.Blocks.{around_mod, stored_mod, stored_there, stored_elsewhere, far, Ordered}

module _ {A : Type 0} (m : ℕ) (bs : List (Block A)) (i : ℕ) (long : length bs ≡ m) (some : zero < m) where
  -- what stands after a store stood before, or is what was stored
  pub after_store : (c x : A) → Stands m (stored m bs i (holds c)) x → (x ≡ c) ⊎ Stands m bs x
  after_store c x s = go (ℕ_discrete (s.at % m) (i % m))
    where
      go : Dec (s.at % m ≡ i % m) → (x ≡ c) ⊎ Stands m bs x
      go (yes e) = let f = stored_there m bs i s.at (holds c) some long e in let g = s.is in inl cc
      go (no e) = inr (record { at = s.at; is = sym (stored_elsewhere m bs i s.at (holds c) e) ∙ s.is })

  -- what stood before stands after a store, or is what it went over
  pub before_store : (b : Block A) (x : A) → Stands m bs x → (around m bs i ≡ holds x) ⊎ Stands m (stored m bs i b) x
  before_store b x s = go (ℕ_discrete (s.at % m) (i % m))
    where
      go : Dec (s.at % m ≡ i % m) → (around m bs i ≡ holds x) ⊎ Stands m (stored m bs i b) x
      go (yes e) = inl (around_mod m bs i s.at (sym e) ∙ s.is)
      go (no e) = inr (record { at = s.at; is = stored_elsewhere m bs i s.at b e ∙ s.is })

  pub stored_stands : (c : A) → Stands m (stored m bs i (holds c)) c
  stored_stands c = record { at = i; is = stored_there m bs i i (holds c) some long refl }

-- d has the label of c
pub record Alike {A : Type 0} (home : A → ℕ) (before : A → A → Bool) (d c : A) : Type 0 where
  pub home_same : home d ≡ home c
  pub left : (x : A) → before d x ≡ before c x
  pub right : (x : A) → before x d ≡ before x c

module _ {A : Type 0} {home : A → ℕ} {before : A → A → Bool} {m : ℕ} (ord : Ordered home before m) where
  -- A chunk goes to a block that is empty or holds a larger label, where every block from its home on holds a smaller one: rule 3 stays
  pub store_keeps : (bs : List (Block A)) (c : A) (k : ℕ) → length bs ≡ m → k < m → Rule3 home before m bs → SmallerTo home before m bs c k
      → ((e : A) → holds_smaller before e (around m bs (home c + k)) ≡ true → before c e ≡ true)
      → Rule3 home before m (stored m bs (home c + k) (holds c))
  store_keeps bs c k p g r s over e k' g' f l h =
      go (ℕ_discrete ((home e + k') % m) ((home c + k) % m)) (ℕ_discrete ((home e + l) % m) ((home c + k) % m))
    where
      now : List (Block A)
      now = stored m bs (home c + k) (holds c)

      there : (j : ℕ) → j % m ≡ (home c + k) % m → around m now j ≡ holds c
      there j q = stored_there m bs (home c + k) j (holds c) (omega arith) p q

      elsewhere : (j : ℕ) → j % m ≢ (home c + k) % m → around m now j ≡ around m bs j
      elsewhere j q = stored_elsewhere m bs (home c + k) j (holds c) q

      own : (e : A) → e ≡ c → (home e + k') % m ≡ (home c + k) % m → (home e + l) % m ≢ (home c + k) % m → holds_smaller before e (around m bs (home e + l)) ≡ true
      own e q w n =
          let t : (home c + k') % m ≡ (home c + k) % m = rw q at w in
          rw q (s l (omega (arith, steps_same m (home c) (ord.homes c) k' k g' g t)))

      go : Dec ((home e + k') % m ≡ (home c + k) % m) → Dec ((home e + l) % m ≡ (home c + k) % m) → holds_smaller before e (around m now (home e + l)) ≡ true
      go (yes q) (yes w) = absurd (omega (arith, steps_same m (home e) (ord.homes e) k' l g' (omega arith) (q ∙ sym w)))
      go (yes q) (no w) = rw (elsewhere (home e + l) w) (own e (cc (there (home e + k') q)) q w)
      go (no q) (yes w) = rw (there (home e + l) w) (over e (rw (around_mod m bs (home e + l) (home c + k) w) at (r e k' g' (sym (elsewhere (home e + k') q) ∙ f) l h)))
      go (no q) (no w) = rw (elsewhere (home e + l) w) (r e k' g' (sym (elsewhere (home e + k') q) ∙ f) l h)

  alike_smaller : (d c : A) (b : Block A) → Alike home before d c → holds_smaller before c b ≡ true → holds_smaller before d b ≡ true
  alike_smaller d c empty a h = h
  alike_smaller d c (holds x) a h = a.right x ∙ h

  -- a chunk changed for one with its label: rule 3 stays
  pub change_keeps : (bs : List (Block A)) (c d : A) (i : ℕ) → length bs ≡ m → Rule3 home before m bs → around m bs i ≡ holds c → Alike home before d c → Rule3 home before m (stored m bs i (holds d))
  change_keeps bs c d i p r e a =
      let f = far ord bs c i e in
      let at : (home d + f.steps) % m ≡ i % m = ap (λ (x : ℕ). (x + f.steps) % m) a.home_same ∙ f.there in
      rw (stored_mod m bs i (home d + f.steps) (holds d) (sym at))
      (store_keeps bs d f.steps p f.few r
      (λ l h. rw a.home_same (alike_smaller d c (around m bs (home c + l)) a (r c f.steps f.few f.is l h)))
      (λ x h. a.left x ∙ (let q : holds_smaller before x (holds c) ≡ true = rw (around_mod m bs (home d + f.steps) i at, e) at h in q)))
