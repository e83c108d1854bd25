-- Orders by a number, and one after another; and sorted lists.
use mathlib.Core.Path.{◌≡◌}
use mathlib.Core.Logic.{◌⊎◌}
use mathlib.Core.Bool.{Bool, true, false}
use Prim.Native.Nat.{ℕ}
use native.Mathlib.Omega.{arith}
use borrow.Author.Tests.{ltb-true, ltb-false, lt-ltb, le-ltb}
use lib.Dec.{ltb}
use Rattle.std.proofs.lemmas.Bool.Decides.{nat_tests}
use Rattle.sizes.specs.Orders.{by, down, lex}

-- AN ORDER: nothing is before itself, what is before is so from one to the next, and so is what is not before
pub record Ordering {A : Type 0} (p : A → A → Bool) : Type 0 where
  pub strict : (a : A) → p a a ≡ false
  pub chain : (a b c : A) → p a b ≡ true → p b c ≡ true → p a c ≡ true
  pub level : (a b c : A) → p a b ≡ false → p b c ≡ false → p a c ≡ false

module _ {A : Type 0} (f : A → ℕ) where
  pub by_ordering : Ordering (by f)
  by_ordering = record {
    strict = λ a. le-ltb (f a) (f a) (omega arith);
    chain = λ a b c p q. lt-ltb (f a) (f c) (omega (arith, ltb-true (f a) (f b) p, ltb-true (f b) (f c) q));
    level = λ a b c p q. le-ltb (f a) (f c) (omega (arith, ltb-false (f a) (f b) p, ltb-false (f b) (f c) q));
  }

  pub down_ordering : Ordering (down f)
  down_ordering = record {
    strict = λ a. le-ltb (f a) (f a) (omega arith);
    chain = λ a b c p q. lt-ltb (f c) (f a) (omega (arith, ltb-true (f b) (f a) p, ltb-true (f c) (f b) q));
    level = λ a b c p q. le-ltb (f c) (f a) (omega (arith, ltb-false (f b) (f a) p, ltb-false (f c) (f b) q));
  }

-- none of two is before the other
abbrev pub Tied : {A : Type 0} → (A → A → Bool) → A → A → Type 0
Tied p a b = (p a b ≡ false) × (p b a ≡ false)

-- numbers tie where they are the same, and nowhere else
pub tied_one : (x y : ℕ) → ltb x y ≡ false → ltb y x ≡ false → x ≡ y
tied_one x y p q = omega (arith, ltb-false x y p, ltb-false y x q)

pub same_tied : (x y : ℕ) → x ≡ y → (ltb x y ≡ false) × (ltb y x ≡ false)
same_tied x y e = (le-ltb x y (omega arith), le-ltb y x (omega arith))

module _ {A : Type 0} (p q : A → A → Bool) where
  pub lex_first : (a b : A) → p a b ≡ true → lex p q a b ≡ true
  lex_first a b h = rw h

  pub lex_second : (a b : A) → Tied p a b → q a b ≡ lex p q a b
  lex_second a b t = rw (t.0, t.1)

  -- where p does not tie two it decides
  pub lex_decided : (a b : A) → (p a b ≡ false → p b a ≡ true) → p a b ≡ lex p q a b
  lex_decided a b d = grind (arith, nat_tests)

  -- what makes one before another
  lex_parts : (a b : A) → lex p q a b ≡ true → (p a b ≡ true) ⊎ (Tied p a b × (q a b ≡ true))
  lex_parts a b h = grind (arith, nat_tests)

  -- .. and what not
  lex_none : (a b : A) → lex p q a b ≡ false → (p a b ≡ false) × ((p b a ≡ true) ⊎ (q a b ≡ false))
  lex_none a b h = grind (arith, nat_tests)

  pub lex_tied : (a b : A) → Tied (lex p q) a b → Tied p a b × Tied q a b
  lex_tied a b t = grind (arith, nat_tests)

  module _ (o : Ordering p) where
    -- what is before stays so past what is tied
    tied_right : (a b c : A) → p a b ≡ true → Tied p b c → p a c ≡ true
    tied_right a b c h t = let k = o.level a c b in grind (arith, nat_tests)

    tied_left : (a b c : A) → Tied p a b → p b c ≡ true → p a c ≡ true
    tied_left a b c t h = let k = o.level b a c in grind (arith, nat_tests)

    pub lex_ordering : Ordering q → Ordering (lex p q)
    lex_ordering r = record { strict = λ a. rw (o.strict a) (r.strict a); chain = chain; level = level }
      where
        chain : (a b c : A) → lex p q a b ≡ true → lex p q b c ≡ true → lex p q a c ≡ true
        chain a b c x y =
            let one = lex_parts a b x in
            let two = lex_parts b c y in
            let e1 = o.chain a b c in
            let e2 = tied_right a b c in
            let e3 = tied_left a b c in
            let e4 = o.level a b c in
            let e5 = o.level c b a in
            let e6 = r.chain a b c in
            grind (arith, nat_tests)

        level : (a b c : A) → lex p q a b ≡ false → lex p q b c ≡ false → lex p q a c ≡ false
        level a b c x y =
            let one = lex_none a b x in
            let two = lex_none b c y in
            let e1 = o.level a b c in
            let e2 = o.level b c a in
            let e3 = o.level c a b in
            let e4 = r.level a b c in
            grind (arith, nat_tests)
