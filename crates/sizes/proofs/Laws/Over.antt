-- Laws of 2^32 over d, rounded up, which stands in for a division by d.
use mathlib.Core.Path.{◌≡◌, refl, sym, ap, ◌∙◌}
use mathlib.Core.Logic.{◌⊎◌, inl, inr}
use mathlib.Core.Bool.{Bool, true, false}
use Prim.Native.Nat.{ℕ, suc, ◌+◌, ◌*◌, ◌-◌, ◌/◌, ◌%◌, ◌≤◌, ◌<◌}
use native.Mathlib.Omega.{arith}
use native.Mathlib.Nat.{div-add-mod', mod-lt, div-lt_iff_lt-mul, mul-le-mul, mul-add, add-mul, mul_assoc, mul_comm, suc-mul, mul-mod_left, le_refl}
use lib.Dec.{eqb}
use borrow.Author.Tests.{eq-eqb, ne_eqb, eqb-true, eqb-false}
use Rattle.sizes.specs.Numbers.{over}
use Rattle.sizes.proofs.Laws.Round.{Which, which, less, same, more}

module _ (d : ℕ) (pos : 0 < d) where
  over_least : 4294967296 ≤ over d * d
  unfolding over
  over_least = omega (arith, div-add-mod' (4294967296 + (d - 1)) d, mod-lt (4294967296 + (d - 1)) pos)

  over_most : over d * d ≤ 4294967296 + d
  unfolding over
  over_most = omega (arith, div-add-mod' (4294967296 + (d - 1)) d)

  over_small : over d ≤ 4294967296
  unfolding over
  over_small = omega (arith, (div-lt_iff_lt-mul {k = d} {x = 4294967296 + (d - 1)} {y = 4294967297} pos).1 (omega arith))

-- m is x over d: the product is at least m and at most m + 1 times 2^32, and below that where d divides x
module _ (x d u : ℕ) (pos : 0 < d) (eu : u ≡ over d) where
  abbrev m : ℕ
  m = x / d

  whole : m * d + x % d ≡ x
  whole = div-add-mod' x d

  steps : m * d * u ≡ m * (u * d)
  steps = mul_assoc m d u ∙ ap (λ (z : ℕ). m * z) (mul_comm d u)

  steps_least : m * 4294967296 ≤ m * (u * d)
  steps_least = mul-le-mul (le_refl m) (rw eu (over_least d pos))

  steps_most : m * (u * d) ≤ m * 4294967296 + m * d
  steps_most = rw (← mul-add) (mul-le-mul (le_refl m) (rw eu (over_most d pos)))

  split : x * u ≡ m * d * u + x % d * u
  split = ap (λ (z : ℕ). z * u) (sym whole) ∙ add-mul (m * d) (x % d) u

  rest_most : x % d * u ≤ u * d
  rest_most = rw (mul_comm (x % d) u) (mul-le-mul (le_refl u) (omega (arith, mod-lt x pos)))

  product_least : m * 4294967296 ≤ x * u
  product_least = omega (arith, split, steps, steps_least)

  product_most : x * u ≤ m * 4294967296 + x + (4294967296 + d)
  product_most = omega (arith, split, steps, steps_most, rest_most, whole, over_most d pos, ap (λ (z : ℕ). z * d) eu)

  exact_most : x % d ≡ 0 → x * u ≤ m * 4294967296 + x
  exact_most e = omega (arith, split, steps, steps_most, whole, ap (λ (z : ℕ). z * u) e)

  exact : (q : ℕ) → q ≡ x * u / 4294967296 → x ≤ 4294967295 → x % d ≡ 0 → q ≡ m
  exact q eq h e = omega (arith, product_least, exact_most e)

  nearly : (q : ℕ) → q ≡ x * u / 4294967296 → x < 2147483648 → d ≤ 65535 → (m ≤ q) × (q ≤ m + 1)
  nearly q eq h k = (omega (arith, product_least), omega (arith, product_most))

-- WHAT THE CODE ASKS
pub over_fits : (x d u : ℕ) → x ≤ 4294967295 → 0 < d → u ≡ over d → x * u ≤ 4294967295 * 4294967296
over_fits x d u h pos eu = mul-le-mul {m₂ = 4294967296} h (rw eu (over_small d pos))

module _ (x d u q : ℕ) (pos : 0 < d) (eu : u ≡ over d) (eq : q ≡ x * u / 4294967296) where
  pub divides_says : x ≤ 4294967295 → eqb (q * d) x ≡ eqb (x % d) 0
  divides_says h = go (eqb (x % d) 0) refl
    where
      go : (t : Bool) → eqb (x % d) 0 ≡ t → eqb (q * d) x ≡ t
      go true e =
          let z : x % d ≡ 0 = eqb-true _ _ e in
          eq-eqb (q * d) x (omega (arith, ap (λ (i : ℕ). i * d) (exact x d u pos eu q eq h z), whole x d u pos eu, z))
      go false e = ne_eqb _ _ (λ f. eqb-false _ _ e (ap (λ (i : ℕ). i % d) (sym f) ∙ mul-mod_left q d))

  module _ (h : x < 2147483648) (k : d ≤ 65535) where
    -- the product is the largest multiple of d up to x, or d more
    product_is : (q * d ≡ x / d * d) ⊎ (q * d ≡ x / d * d + d)
    product_is = go (which q (x / d))
      where
        go : Which q (x / d) → (q * d ≡ x / d * d) ⊎ (q * d ≡ x / d * d + d)
        go (less f) = absurd (omega (arith, (nearly x d u pos eu q eq h k).0))
        go (same f) = inl (rw f)
        go (more f) =
            let e : q ≡ suc (x / d) = omega (arith, (nearly x d u pos eu q eq h k).1) in
            inr (rw (e, suc-mul))

    pub remainder_room : x < q * d → q * d ≤ x + d
    remainder_room l = omega (arith, product_is, div-add-mod' x d)

    pub remainder_less : x < q * d → x + d - q * d ≡ x % d
    remainder_less l = omega (arith, product_is, div-add-mod' x d)

    pub remainder_more : q * d ≤ x → x - q * d ≡ x % d
    remainder_more l = omega (arith, product_is, div-add-mod' x d, mod-lt x pos)

-- what `remainder` asks
pub ruleset remainders = (remainder_room, remainder_less, remainder_more)
