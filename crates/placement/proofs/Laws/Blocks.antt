-- First laws of a table of blocks, going round.
use Rattle.std.proofs.Common.{◌≡◌, ℕ, zero, ◌+◌, ◌%◌, ◌<◌, Bool, true, false, ◌≢◌, List, length, get_or, set, sym, ap, ◌∙◌, mod-lt, mod-eq_of_lt, arith, length-set, get_or-set_other, get_or-set_same, ext_get_or}
use Rattle.placement.specs.Blocks.{Block, empty, holds, around, stored}
use Rattle.sizes.proofs.Laws.Round.{steps_to}

module _ {A : Type 0} (m : ℕ) where
  pub around_mod : (bs : List (Block A)) (i j : ℕ) → i % m ≡ j % m → around m bs i ≡ around m bs j
  unfolding around
  around_mod bs i j e = ap (λ (x : ℕ). get_or bs x empty) e

  pub around_inside : (bs : List (Block A)) (i : ℕ) → i < m → around m bs i ≡ get_or bs i empty
  unfolding around
  around_inside bs i h = ap (λ (x : ℕ). get_or bs x empty) (mod-eq_of_lt h)

  pub stored_long : (bs : List (Block A)) (i : ℕ) (b : Block A) → length bs ≡ m → length (stored m bs i b) ≡ m
  unfolding stored
  stored_long bs i b e = length-set bs (i % m) b ∙ e

  pub stored_there : (bs : List (Block A)) (i j : ℕ) (b : Block A) → zero < m → length bs ≡ m → j % m ≡ i % m → around m (stored m bs i b) j ≡ b
  unfolding around stored
  stored_there bs i j b p e q = rw q (get_or-set_same bs (i % m) b empty (omega (arith, mod-lt i p)))

  pub stored_elsewhere : (bs : List (Block A)) (i j : ℕ) (b : Block A) → j % m ≢ i % m → around m (stored m bs i b) j ≡ around m bs j
  unfolding around stored
  stored_elsewhere bs i j b q = get_or-set_other bs (i % m) (j % m) b empty q

  pub stored_mod : (bs : List (Block A)) (i j : ℕ) (b : Block A) → i % m ≡ j % m → stored m bs i b ≡ stored m bs j b
  unfolding stored
  stored_mod bs i j b e = ap (λ (x : ℕ). set bs x b) e

  -- two tables with the same blocks all round
  pub same_table : (bs cs : List (Block A)) → length bs ≡ m → length cs ≡ m → ((i : ℕ) → around m bs i ≡ around m cs i) → bs ≡ cs
  same_table bs cs p q h =
      ext_get_or empty bs cs (p ∙ sym q) (λ i l. sym (around_inside bs i (omega arith)) ∙ h i ∙ around_inside cs i (omega arith))

-- WHAT IS ASKED of homes in m blocks and of the order of labels; labels of which none is before the other are alike
pub record Ordered {A : Type 0} (home : A → ℕ) (before : A → A → Bool) (m : ℕ) : Type 0 where
  pub strict : (c : A) → before c c ≡ false
  pub chain : (c d e : A) → before c d ≡ true → before d e ≡ true → before c e ≡ true
  pub tied : (c d : A) → before c d ≡ false → before d c ≡ false → home c ≡ home d
  pub like : (c d e : A) → before c d ≡ false → before d c ≡ false → before e c ≡ true → before e d ≡ true
  pub homes : (c : A) → home c < m

-- how far from its home a chunk stands
pub record Far {A : Type 0} (home : A → ℕ) (m : ℕ) (bs : List (Block A)) (c : A) (i : ℕ) : Type 0 where
  pub steps : ℕ
  pub few : steps < m
  pub there : (home c + steps) % m ≡ i % m
  pub is : around m bs (home c + steps) ≡ holds c

pub far : {A : Type 0} {home : A → ℕ} {before : A → A → Bool} {m : ℕ} → Ordered home before m
    → (bs : List (Block A)) (c : A) (i : ℕ) → around m bs i ≡ holds c → Far home m bs c i
far {home = home} {m = m} ord bs c i e =
    let s = steps_to m (home c) (ord.homes c) (i % m) (mod-lt i (omega (arith, ord.homes c))) in
    record { steps = s.steps; few = s.few; there = s.there; is = around_mod m bs (home c + s.steps) i s.there ∙ e }
