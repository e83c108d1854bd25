-- Running powers. Document 02, A.3: "That after i steps it is the key's i-th power mod p, or γ^i, is to be shown." It is `now_is` of the state that the loop of
-- `powers` keeps, by `power_first` and `power_next`, and `is` of the state that the loop of `higher` keeps.
use mathlib.Core.Path.{◌≡◌, sym, ap, ◌∙◌}
use mathlib.Core.List.{List}
use Prim.Native.Nat.{ℕ, zero, suc, ◌+◌, ◌*◌, ◌-◌, ◌%◌, ◌^◌, ◌≤◌, ◌<◌}
use native.Mathlib.Omega.{arith}
use native.Mathlib.Numerals.{add-one, unary_clauses}
use native.Mathlib.Nat.{add-zero, zero-add, mul-one, mul_comm, mul-le-mul, add-mod, mod-mod, mod-eq_of_lt, zero-mod, pow-zero, pow-succ', one-le-pow}
use native.Mathlib.Decide.{dec_lt}
use lib.ListN.{length, get_or, set, length-set}
use lib.Seq.{get_or-set_same, get_or-set_other}
use borrow.Author.Tests.{eq-eqb, ne_eqb}
use mir.Val.{Fits}
use mir.Syntax.{w64}
use Rattle.std.proofs.lemmas.Nat.{mul-mod}
use Rattle.sizes.specs.Sizes.{prime}
use Rattle.sizes.specs.Hash.{divides_from}
use Rattle.sizes.specs.Powers.{Power, Powers}

-- NUMBERS MOD m: in a product, and in a sum, a number may be replaced by one that is equal mod m
pub mod_product : (a b c d m : ℕ) → a % m ≡ c % m → b % m ≡ d % m → a * b % m ≡ c * d % m
mod_product a b c d m e f = mul-mod a b m ∙ rw (e, f) (sym (mul-mod c d m))

pub mod_sum : (a b c d m : ℕ) → a % m ≡ c % m → b % m ≡ d % m → (a + b) % m ≡ (c + d) % m
mod_sum a b c d m e f = add-mod a b m ∙ rw (e, f) (sym (add-mod c d m))

pub pow_one : (c : ℕ) → c ^ 1 ≡ c
pow_one c = pow-succ' c 0 ∙ rw pow-zero (mul-one c)

-- THE KEY'S POWERS: the 0th is 1, and from one to the next it takes a product with the key, folded
pub power_first : (x : ℕ) → Power x 0 1
power_first x = record { is = simp unary_clauses; small = omega arith }

pub power_next : (x i q y r : ℕ) → Power x i q → y ≡ x % 2147483647 → r % 2147483647 ≡ q * y % 2147483647 → r ≤ q + 2147483647 → Power x (i + 1) r
power_next x i q y r h ey er hr =
    let e : y % prime ≡ x % prime = rw ey (mod-mod x prime) in
    record {
      is = er ∙ mod_product q y (x ^ i) x prime h.is e ∙ rw (add-one, pow-succ', mul_comm x (x ^ i));
      small = omega (arith, h.small);
    }

-- what the loop of `powers` keeps AFTER i STEPS: the power is the key's i-th, and those before it are in their places
pub record Powering (x : ℕ) (all : List ℕ) (power i : ℕ) : Type 0 where
  pub within : i ≤ 5
  pub five : length all ≡ 5
  pub now_is : Power x i power
  pub done : (k : ℕ) → k < i → Power x k (get_or all k 0)

module _ (x : ℕ) (all : List ℕ) where
  pub powering_start : length all ≡ 5 → Powering x all 1 0
  powering_start e = record { within = omega arith; five = e; now_is = power_first x; done = λ k h. absurd (omega arith) }

  module _ (power i : ℕ) (s : Powering x all power i) where
    pub powering_small : i < 5 → power ≤ 8589934589
    powering_small h = omega (arith, s.now_is.small)

    pub powering_more : (y r : ℕ) → i < 5 → y ≡ x % 2147483647 → r % 2147483647 ≡ power * y % 2147483647 → r ≤ power + 2147483647
        → Powering x (set all i power) r (i + 1)
    powering_more y r h ey er hr =
        record {
          within = omega arith;
          five = length-set all i power ∙ s.five;
          now_is = power_next x i power y r s.now_is ey er hr;
          done = λ k l. kept k l (dec_lt k i);
        }
      where
        kept : (k : ℕ) → k < i + 1 → Dec (k < i) → Power x k (get_or (set all i power) k 0)
        kept k l (yes b) = rw (get_or-set_other all i k power 0 (λ e. omega arith)) (s.done k b)
        kept k l (no n) =
            let e : k ≡ i = omega arith in
            rw (e, get_or-set_same all i power 0 (omega (arith, s.five))) s.now_is

    pub powering_end : 5 ≤ i → Powers x all
    powering_end h = record { each = λ k l. s.done k (omega arith) }

-- THE POWERS OF GAMMA. What the loop of `higher` keeps AFTER j STEPS: the power is c^j, which divides h and so is not above it, and the search goes on from j
pub record Dividing (h c most j power : ℕ) : Type 0 where
  pub within : j ≤ most
  pub is : power ≡ c ^ j
  pub divides : h % c ^ j ≡ 0
  pub small : power ≤ h
  pub rest : divides_from most 0 c h ≡ divides_from (most - j) j c h

divisor_small : (d h : ℕ) → 0 < h → h % d ≡ 0 → d ≤ h
divisor_small d h pos e = grind (arith, mod-eq_of_lt {n = h} {m = d})

-- one power more is tried
tried : (c h m j : ℕ) → h % c ^ suc j ≡ 0 → divides_from (suc m) j c h ≡ divides_from m (suc j) c h
unfolding divides_from
tried c h m j e = rw (eq-eqb _ _ e)

divides_zero : (c m j : ℕ) → divides_from m j c 0 ≡ j + m
unfolding divides_from
divides_zero c zero j = rw add-zero
divides_zero c (suc m) j = tried c 0 m j (zero-mod (c ^ suc j)) ∙ divides_zero c m (suc j) ∙ omega arith

pub dividing_zero : (h c most : ℕ) → h ≡ 0 → most ≡ divides_from most 0 c h
dividing_zero h c most e = rw e (sym (divides_zero c most 0 ∙ zero-add most))

module _ (h c most : ℕ) (pos : 0 < c) where
  pub dividing_start : (h ≡ 0 → ⊥) → h % c ≡ 0 → 1 ≤ most → Dividing h c most 1 c
  dividing_start ne e l =
      let f : most ≡ suc (most - 1) = omega arith in
      let d : h % c ^ 1 ≡ 0 = rw pow_one e in
      record {
        within = l;
        is = sym (pow_one c);
        divides = d;
        small = divisor_small c h (omega (arith, ne)) e;
        rest = ap (λ (z : ℕ). divides_from z 0 c h) f ∙ tried c h (most - 1) 0 d;
      }

  module _ (j power : ℕ) (i : Dividing h c most j power) where
    next_is : power * c ≡ c ^ suc j
    next_is = rw (pow-succ', i.is) (mul_comm _ c)

    some : 0 < power
    some = rw i.is (one-le-pow j c pos)

    pub dividing_some : 0 < power * c
    dividing_some = rw next_is (one-le-pow (suc j) c pos)

    pub dividing_fits : h ≤ 4294967295 → c ≤ 4294967295 → Fits w64 (power * c)
    dividing_fits hh hc =
        let p : power ≤ 4294967295 = omega (arith, i.small) in
        record { fits = omega (arith, mul-le-mul p hc) }

    pub dividing_stop : j < most → (h % (power * c) ≡ 0 → ⊥) → j ≡ divides_from most 0 c h
    unfolding divides_from
    dividing_stop l ne =
        let e : h % c ^ suc j ≡ 0 → ⊥ = λ z. ne (rw next_is z) in
        let f : most - j ≡ suc (most - suc j) = omega arith in
        rw (i.rest, f, ne_eqb _ _ e)

    pub dividing_more : j < most → h % (power * c) ≡ 0 → Dividing h c most (j + 1) (power * c)
    dividing_more l z =
        let e : h % c ^ suc j ≡ 0 = rw (← next_is) z in
        let f : most - j ≡ suc (most - suc j) = omega arith in
        record {
          within = omega arith;
          is = rw add-one next_is;
          divides = rw add-one e;
          small = divisor_small (power * c) h (omega (arith, some, i.small)) z;
          rest = i.rest ∙ ap (λ (z : ℕ). divides_from z j c h) f ∙ tried c h (most - suc j) j e ∙ rw add-one;
        }

    pub dividing_end : most ≤ j → j ≡ divides_from most 0 c h
    unfolding divides_from
    dividing_end l =
        let f : most - j ≡ 0 = omega (arith, i.within) in
        rw (i.rest, f)

-- what `powers` and `higher` ask
pub ruleset powering = (powering_start, powering_small, powering_end)

pub ruleset dividing = (dividing_zero, dividing_some, dividing_fits, dividing_stop, dividing_end)
