-- Laws of hashes and levels.
use mathlib.Core.Path.{◌≡◌, refl, sym, ap, ◌∙◌}
use mathlib.Core.List.{List}
use mathlib.Core.Bool.{Bool, true, false}
use Prim.Native.Nat.{ℕ, zero, suc, ◌+◌, ◌*◌, ◌-◌, ◌%◌, ◌^◌, ◌≤◌, ◌<◌}
use native.Mathlib.Omega.{arith}
use native.Mathlib.Numerals.{add-one, one-add, unary_clauses}
use native.Mathlib.Nat.{zero-add, add-zero, add_assoc, one-mul, mul-zero, mul-add, mul_assoc, mul_comm, mul-le-mul, mod-lt, mod-mod, pow-succ'}
use lib.Dec.{leb, eqb}
use lib.ListN.{get_or}
use borrow.Author.Tests.{eq-eqb, ne_eqb, le-leb, lt-leb, eqb-true, eqb-false}
use mir.Val.{Fits}
use mir.Syntax.{w32, w64}
use Rattle.std.proofs.lemmas.Bool.Decides.{nat_tests}
use Rattle.sizes.specs.declared.Sizes.{Sizes}
use Rattle.sizes.specs.Sizes.{prime, least_power, beta, seed_good}
use Rattle.sizes.specs.Hash.{hash_from, divides_from, level}
use Rattle.sizes.specs.Hash as hashes
use Rattle.sizes.specs.Powers.{Powers, Ready}
use Rattle.sizes.proofs.Laws.Powers.{mod_product, mod_sum, pow_one}
use Rattle.sizes.proofs.Laws.Sizes.{seed_below}

hash_mod : (k i : ℕ) (ss : List ℕ) (x : ℕ) → hash_from k i ss x % 2147483647 ≡ hash_from k i ss x
unfolding hash_from
hash_mod zero i ss x = refl
hash_mod (suc k) i ss x = mod-mod _ prime

pub hash_below : (s : Sizes) (i x v : ℕ) → v ≡ hash_from 5 i s.seed x → v < 2147483647
unfolding hash_from
hash_below s i x v e = rw e (mod-lt _ (omega arith))

-- what the loop of `weigh` keeps: the sum, and the i-th power of the key times what is left of the polynomial, are the hash. Three products fit into the sum;
-- after them it is folded, and one product more fits
pub record Weighing (s : Sizes) (at x sum i : ℕ) : Type 0 where
  pub within : i ≤ 5
  pub room : sum ≤ 18446744067267100671
  pub early : i ≤ 2 → sum ≤ 2147483647 * i + 4611686014132420609 * (i - 1)
  pub is : (sum + x ^ i * hash_from (5 - i) (at + i) s.seed x) % 2147483647 ≡ hash_from 5 at s.seed x

-- a product of a seed number and a power
product : (a q i : ℕ) → a < 2147483647 → q ≤ 1 + 2147483647 * i → a * q ≤ 2147483646 * (1 + 2147483647 * i)
product a q i ha hq = mul-le-mul {n₂ = 2147483646} (omega arith) hq

-- one term more: what is left is a number of the seed and the key times what is left behind it
term : (sum t a q P x l r m : ℕ) → t % m ≡ sum % m → q % m ≡ P % m → l % m ≡ (a + x * r) % m → (t + a * q + x * P * r) % m ≡ (sum + P * l) % m
term sum t a q P x l r m et eq el =
    let u : (t + a * q) % m ≡ (sum + a * P) % m = mod_sum t (a * q) sum (a * P) m et (mod_product a q a P m refl eq) in
    let w : sum + a * P + x * P * r ≡ sum + P * (a + x * r) = rw (mul-add, mul_comm a P, ← mul_assoc, mul_comm P x) (add_assoc _ _ _) in
    mod_sum (t + a * q) (x * P * r) (sum + a * P) (x * P * r) m u refl
    ∙ ap (λ (z : ℕ). z % m) w
    ∙ mod_sum sum (P * (a + x * r)) sum (P * l) m refl (mod_product P (a + x * r) P l m refl (sym el))

module _ (s : Sizes) (at x : ℕ) where
  pub weighing_start : Weighing s at x 0 0
  weighing_start =
      record { within = omega arith; room = omega arith; early = λ h. omega arith; is = simp (unary_clauses, one-mul, zero-add, add-zero) (hash_mod 5 at s.seed x) }

  module _ (sum i : ℕ) (w : Weighing s at x sum i) where
    pub weighing_folded : (t : ℕ) → 2147483648 * t ≤ 2147483648 * 2147483647 + sum → t ≤ 10737418235
    weighing_folded t h = omega (arith, w.room)

    module _ (all : List ℕ) (ps : Powers x all) (good : seed_good s.seed ≡ true) (l : i < 5) where
      abbrev a : ℕ
      a = get_or s.seed (at + i) 0

      abbrev q : ℕ
      q = get_or all i 0

      weighed : a * q ≤ 2147483646 * (1 + 2147483647 * i)
      weighed = product a q i (seed_below s.seed (at + i) good) (ps.each i l).small

      pub weighing_fits : Fits w64 (a * q)
      weighing_fits = record { fits = omega (arith, weighed) }

      module _ (t : ℕ) (r : Ready sum i t) where
        most : t + a * q ≤ 18446744067267100671
        most = grind (arith, weighed)

        pub weighing_sum : Fits w64 (t + a * q)
        weighing_sum = record { fits = omega (arith, most) }

        pub weighing_more : Weighing s at x (t + a * q) (i + 1)
        unfolding hash_from
        weighing_more =
            let f : 5 - i ≡ suc (5 - (i + 1)) = omega arith in
            let g : at + (i + 1) ≡ suc (at + i) = omega arith in
            let p : x ^ (i + 1) ≡ x * x ^ i = rw (add-one, pow-succ') in
            let left : hash_from (5 - i) (at + i) s.seed x % prime ≡ (a + x * hash_from (5 - (i + 1)) (at + (i + 1)) s.seed x) % prime =
            rw (f, g) (mod-mod _ prime) in
            record {
              within = omega arith;
              room = most;
              early = λ h. omega (arith, weighed, r.early (omega arith), w.early (omega arith));
              is = rw p (term sum t a q (x ^ i) x _ _ prime r.same (ps.each i l).is left) ∙ w.is;
            }

    pub weighing_end : (t v : ℕ) → 5 ≤ i → t % 2147483647 ≡ sum % 2147483647 → v ≡ t % 2147483647 → v ≡ hash_from 5 at s.seed x
    unfolding hash_from
    weighing_end t v h e ev =
        let f : i ≡ 5 = omega (arith, w.within) in
        let z : hash_from (5 - i) (at + i) s.seed x ≡ 0 = rw f in
        ev ∙ e ∙ rw (z, mul-zero (x ^ i), add-zero) at w.is

pub least_fits : (p n c : ℕ) → p < n → n ≤ 65535 → c ≤ 64 → Fits w32 (p * c)
least_fits p n c h hn hc = record { fits = omega (arith, mul-le-mul {n₂ = 65535} {m₂ = 64} (small p n h hn) hc) }
  where
    small : (p n : ℕ) → p < n → n ≤ 65535 → p ≤ 65535
    small p n h hn = omega arith

-- what the loop of `least` keeps: p is c^e, and the search goes on from e
pub record Growing (c n e p : ℕ) : Type 0 where
  pub within : e ≤ 17
  pub power : p ≡ c ^ e
  pub rest : least_power 17 0 c n ≡ least_power (17 - e) e c n

module _ (c n : ℕ) where
  pub growing_start : Growing c n 0 1
  growing_start = record { within = omega arith; power = simp unary_clauses; rest = refl }

  module _ (e p : ℕ) (i : Growing c n e p) where
    pub growing_stop : e < 17 → n ≤ p → e ≡ least_power 17 0 c n
    unfolding least_power
    growing_stop l h =
        let f : 17 - e ≡ suc (17 - (e + 1)) = omega arith in
        rw (i.rest, f, ← i.power, le-leb n p h)

    pub growing_more : e < 17 → p < n → Growing c n (e + 1) (p * c)
    unfolding least_power
    growing_more l h =
        let f : 17 - e ≡ suc (17 - (e + 1)) = omega arith in
        let t : leb n (c ^ e) ≡ false = rw (← i.power) (lt-leb n p h) in
        record { within = omega arith; power = rw (add-one, pow-succ', mul_comm p c, i.power); rest = i.rest ∙ rw (f, t, add-one) }

    pub growing_end : 17 ≤ e → e ≡ least_power 17 0 c n
    unfolding least_power
    growing_end l =
        let f : 17 - e ≡ 0 = omega arith in
        rw (i.rest, f)

-- LEVELS
pub level_front : (s : Sizes) (x b : ℕ) → x ≡ 0 → b ≡ beta s → b ≡ level s x
unfolding level
level_front s x b e eb = eb ∙ rw (eq-eqb _ _ e)

level_is : (s : Sizes) (x b v : ℕ) → (x ≡ 0 → ⊥) → b ≡ beta s → v ≡ hash_from 5 0 s.seed x → level s x ≡ suc (divides_from (b - 1) 0 s.gamma v)
unfolding level hashes.h
level_is s x b v ne eb ev = rw (ne_eqb _ _ ne, ev, eb)

pub level_key : (s : Sizes) (x b v d : ℕ) → (x ≡ 0 → ⊥) → b ≡ beta s → v ≡ hash_from 5 0 s.seed x → d ≡ divides_from (b - 1) 0 s.gamma v → 1 + d ≡ level s x
level_key s x b v d ne eb ev ed = rw (level_is s x b v ne eb ev, one-add, ed)

pub beta_some : (s : Sizes) (b : ℕ) → b ≡ beta s → 1 ≤ b
unfolding beta
beta_some s b e = omega arith

pub beta_more : (s : Sizes) (b : ℕ) → b ≡ beta s → 1 ≤ b - 1
unfolding beta
beta_more s b e = omega arith

pub level_small : (s : Sizes) (b d : ℕ) → b ≡ beta s → d ≤ b - 1 → 1 + d ≤ b
level_small s b d e h = omega (arith, beta_some s b e)

-- A LEVEL BY THE FIRST POWER: a key has level 1 where gamma does not divide its hash, and only there
divides_none : (m c v : ℕ) → (v % c ≡ 0 → ⊥) → divides_from m 0 c v ≡ 0
unfolding divides_from
divides_none zero c v ne = refl
divides_none (suc m) c v ne = rw (pow_one, ne_eqb _ _ ne)

pub level_first : (s : Sizes) (x b v : ℕ) → (x ≡ 0 → ⊥) → b ≡ beta s → v ≡ hash_from 5 0 s.seed x → (v % s.gamma ≡ 0 → ⊥) → (1 ≡ level s x) × (1 ≤ b)
level_first s x b v ne eb ev nd = (rw (level_is s x b v ne eb ev, divides_none (b - 1) s.gamma v nd), omega (arith, beta_some s b eb))

pub divides_first : (v c : ℕ) (t : Bool) → t ≡ eqb (v % c) 0 → t ≡ true → v % c ≡ 0
divides_first v c t et e = eqb-true _ _ (sym et ∙ e)

-- A LEVEL BY NO MORE POWERS THAN IT TAKES: a longer search ends at j + k exactly when one of k + 1 powers does
divides_least : (m j c v : ℕ) → j ≤ divides_from m j c v
unfolding divides_from
divides_least zero j c v = omega arith
divides_least (suc m) j c v =
    let h = divides_least m (suc j) c v in
    grind (arith, nat_tests)

divides_capped : (k m j c v : ℕ) → k ≤ m → eqb (divides_from (suc m) j c v) (j + k) ≡ eqb (divides_from (suc k) j c v) (j + k)
unfolding divides_from
divides_capped zero m j c v l =
    let h = divides_least m (suc j) c v in
    grind (arith, nat_tests)
divides_capped (suc k) zero j c v l = absurd (omega arith)
divides_capped (suc k) (suc m) j c v l =
    let h : eqb (divides_from (suc m) (suc j) c v) (j + suc k) ≡ eqb (divides_from (suc k) (suc j) c v) (j + suc k) =
    let e : j + suc k ≡ suc j + k = omega arith in
    rw e (divides_capped k m (suc j) c v (omega arith)) in
    grind (arith, nat_tests)

eqb_swap : (a b : ℕ) → eqb a b ≡ eqb b a
eqb_swap a b = grind (arith, nat_tests)

one_less : (a l : ℕ) → 1 ≤ l → eqb (suc a) l ≡ eqb a (l - 1)
one_less a l h = grind (arith, nat_tests)

module _ (s : Sizes) (b l v x d : ℕ) (nz : 0 < x) (eb : b ≡ beta s) (ev : v ≡ hash_from 5 0 s.seed x) where
  is : level s x ≡ suc (divides_from (b - 1) 0 s.gamma v)
  is = level_is s x b v (omega arith) eb ev

  pub level_not : (t : Bool) → t ≡ eqb (v % s.gamma) 0 → t ≡ false → eqb l 1 ≡ eqb (level s x) l
  level_not t et e =
      let f = (level_first s x b v (omega arith) eb ev (eqb-false _ _ (sym et ∙ e))).0 in
      rw (← f) (eqb_swap l 1)

  pub level_more : l ≡ 1 → v % s.gamma ≡ 0 → false ≡ eqb (level s x) l
  unfolding divides_from
  level_more el e =
      let f : b - 1 ≡ suc (b - 2) = omega (arith, beta_more s b eb) in
      let g : level s x ≡ suc (divides_from (b - 2) 1 s.gamma v) = is ∙ rw (f, pow_one, eq-eqb _ _ e) in
      sym (ne_eqb _ _ (λ (z : level s x ≡ l). omega (arith, g, divides_least (b - 2) 1 s.gamma v)))

  pub level_top : l ≡ b → d ≡ divides_from (b - 1) 0 s.gamma v → eqb (1 + d) l ≡ eqb (level s x) l
  level_top e f = rw (is, one-add, f)

  pub level_below : 1 ≤ l → l ≤ b → (l ≡ b → ⊥) → d ≡ divides_from l 0 s.gamma v → eqb (1 + d) l ≡ eqb (level s x) l
  level_below lo hi ne f =
      let e : b - 1 ≡ suc (b - 2) = omega (arith, ne) in
      let k : l ≡ suc (l - 1) = omega arith in
      let r : eqb (divides_from (suc (b - 2)) 0 s.gamma v) (l - 1) ≡ eqb (divides_from (suc (l - 1)) 0 s.gamma v) (l - 1) =
      rw zero-add at (divides_capped (l - 1) (b - 2) 0 s.gamma v (omega (arith, ne))) in
      let q : d ≡ divides_from (suc (l - 1)) 0 s.gamma v = f ∙ ap (λ (z : ℕ). divides_from z 0 s.gamma v) k in
      rw (one-add, is, e) (one_less d l lo ∙ rw q (sym r) ∙ sym (one_less _ l lo))

-- what `weigh`, `least`, `level_of` and `has_level` ask
pub ruleset weighing = (weighing_start, weighing_folded, weighing_fits, weighing_sum, weighing_end)

pub ruleset growing = (growing_start, growing_end, least_fits)

pub ruleset levels = (level_front, level_first, level_key, level_small, beta_some, beta_more)

pub ruleset exact_levels = (level_not, level_more, level_top, beta_more, divides_first)
