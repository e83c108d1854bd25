-- β, levels and hashes are what document 01 says in words.
use mathlib.Core.Path.{◌≡◌, refl, sym, ap, ◌∙◌, subst}
use mathlib.Core.Bool.{Bool, true, false, cond}
use mathlib.Core.List.{List}
use Prim.Native.Nat.{ℕ, zero, suc, ◌+◌, ◌*◌, ◌-◌, ◌/◌, ◌%◌, ◌^◌, ◌≤◌, ◌<◌, ◌∣◌}
use native.Mathlib.Nat.{add-zero, add-suc, suc-add, pow-suc, pow-zero, pow-le-pow_left, dvd_refl, dvd_trans, dvd-mul_right_of_dvd, mod-eq-zero_of_dvd, dvd_of_mod-eq-zero, mod-one, mod-add-div, add-mul-mod_self_left, one-mul}
use native.Mathlib.Omega.{arith}
use borrow.Author.Tests.{leb-true, leb-false, eqb-true, eqb-false, ne_eqb}
use lib.Dec.{leb, eqb}
use lib.ListN.{get_or}
use Rattle.sizes.specs.Sizes.{prime, least_power, beta}
use Rattle.sizes.specs.Hash.{hash_from, h, g, divides_from, level}
use Rattle.skiplist.specs.Rules.{BetaIs, LevelIs, poly, HashIs}
use Rattle.sizes.proofs.Laws.Sizes.{limits}

least_min : (k e c n : ℕ) → ((i : ℕ) → i < e → n ≤ c ^ i → ⊥) → (f : ℕ) → n ≤ c ^ f → least_power k e c n ≤ f
unfolding least_power
least_min zero e c n h f l = go (leb e f) refl
  where
    go : (t : Bool) → leb e f ≡ t → e ≤ f
    go true q = leb-true e f q
    go false q = absurd (h f (omega (arith, leb-false e f q)) l)
least_min (suc k) e c n h f l = go (leb n (c ^ e)) refl (leb e f) refl (least_min k (suc e) c n)
  where
    more : (n ≤ c ^ e → ⊥) → (i : ℕ) → i < suc e → n ≤ c ^ i → ⊥
    more z i b w = step (eqb i e) refl
      where
        step : (t : Bool) → eqb i e ≡ t → ⊥
        step true q = z (subst (λ (y : ℕ). n ≤ c ^ y) (eqb-true i e q) w)
        step false q = h i (omega (arith, eqb-false i e q)) w

    go : (t : Bool) → leb n (c ^ e) ≡ t → (v : Bool) → leb e f ≡ v → (((i : ℕ) → i < suc e → n ≤ c ^ i → ⊥) → (f : ℕ) → n ≤ c ^ f → least_power k (suc e) c n ≤ f) →
        cond t e (least_power k (suc e) c n) ≤ f
    go true p true q ih = leb-true e f q
    go true p false q ih = absurd (h f (omega (arith, leb-false e f q)) l)
    go false p v q ih = ih (more (λ w. omega (arith, leb-false n (c ^ e) p))) f l

least_enough : (k e c n : ℕ) → n ≤ c ^ (e + k) → n ≤ c ^ least_power k e c n
unfolding least_power
least_enough zero e c n l = subst (λ (z : ℕ). n ≤ c ^ z) (add-zero e) l
least_enough (suc k) e c n l = go (leb n (c ^ e)) refl (least_enough k (suc e) c n (subst (λ (z : ℕ). n ≤ c ^ z) (add-suc e k ∙ sym (suc-add e k)) l))
  where
    go : (t : Bool) → leb n (c ^ e) ≡ t → n ≤ c ^ least_power k (suc e) c n → n ≤ c ^ cond t e (least_power k (suc e) c n)
    go true p ih = leb-true n (c ^ e) p
    go false p ih = ih

pub beta_is : BetaIs
unfolding BetaIs beta
beta_is s m =
    let w = limits s m in
    let p : 2 ^ 17 ≤ s.gamma ^ 17 = pow-le-pow_left w.gamma_least 17 in
    let e = least_power 17 0 s.gamma s.orders in
    let q : 2 + e - 2 ≡ e = omega arith in
    let z : s.orders ≤ s.gamma ^ (0 + 17) = omega (arith, w.orders_most, p) in
    (omega arith, subst (λ (z : ℕ). s.orders ≤ s.gamma ^ z) (sym q) (least_enough 17 0 s.gamma s.orders z), λ f l. rw q (least_min 17 0 s.gamma s.orders (λ i b v. omega arith) f l))

-- POWERS DIVIDE
pow_dvd : (c i d : ℕ) → c ^ i ∣ c ^ (i + d)
pow_dvd c i zero = subst (λ (z : ℕ). c ^ i ∣ c ^ z) (sym (add-zero i)) (dvd_refl (c ^ i))
pow_dvd c i (suc d) = subst (λ (z : ℕ). c ^ i ∣ z) (sym (ap (λ (y : ℕ). c ^ y) (add-suc i d) ∙ pow-suc c (i + d))) (dvd-mul_right_of_dvd (c ^ i) (pow_dvd c i d) c)

pow_down : (c i j v : ℕ) → i ≤ j → v % c ^ j ≡ 0 → v % c ^ i ≡ 0
pow_down c i j v l e =
    let q : i + (j - i) ≡ j = omega arith in
    mod-eq-zero_of_dvd (c ^ i) (dvd_trans (c ^ i) (subst (λ (z : ℕ). c ^ i ∣ c ^ z) q (pow_dvd c i (j - i))) (dvd_of_mod-eq-zero (c ^ j) e))

record Largest (k j c v r : ℕ) : Type 0 where
  pub from : j ≤ r
  pub most : r ≤ j + k
  pub divides : v % c ^ r ≡ 0
  pub largest : (i : ℕ) → i ≤ j + k → v % c ^ i ≡ 0 → i ≤ r

largest : (k j c v : ℕ) → v % c ^ j ≡ 0 → Largest k j c v (divides_from k j c v)
unfolding divides_from
largest zero j c v e = record { from = omega arith; most = omega arith; divides = e; largest = λ i l f. omega arith }
largest (suc k) j c v e = go (eqb (v % c ^ suc j) 0) refl (largest k (suc j) c v)
  where
    go : (t : Bool) → eqb (v % c ^ suc j) 0 ≡ t → (v % c ^ suc j ≡ 0 → Largest k (suc j) c v (divides_from k (suc j) c v)) → Largest (suc k) j c v (cond t (divides_from k (suc j) c v) j)
    go true q ih =
        let w = ih (eqb-true (v % c ^ suc j) 0 q) in
        record { from = omega (arith, w.from); most = omega (arith, w.most); divides = w.divides; largest = λ i l f. w.largest i (omega arith) f }
    go false q ih = record { from = omega arith; most = omega arith; divides = e; largest = λ i l f. step i f (leb i j) refl }
      where
        step : (i : ℕ) → v % c ^ i ≡ 0 → (t : Bool) → leb i j ≡ t → i ≤ j
        step i f true p = leb-true i j p
        step i f false p = absurd (eqb-false (v % c ^ suc j) 0 q (pow_down c (suc j) i v (omega (arith, leb-false i j p)) f))

pub level_is : LevelIs
unfolding LevelIs level
level_is s x m l =
    let w = largest (beta s - 1) 0 s.gamma (h s x) (rw (pow-zero s.gamma) (mod-one (h s x))) in
    (divides_from (beta s - 1) 0 s.gamma (h s x), rw (ne_eqb x 0 (omega arith)), omega (arith, w.most), w.divides, λ i b f. w.largest i (omega (arith, b)) f)

-- HASHES
keep : (a x v p : ℕ) → (a + x * (v % p)) % p ≡ (a + x * v) % p
keep a x v p =
    let e : x * v ≡ x * (v % p + p * (v / p)) = ap (λ (z : ℕ). x * z) (sym (mod-add-div v p)) in
    let f : a + x * v ≡ a + x * (v % p) + p * (x * (v / p)) = omega arith in
    sym (ap (λ (z : ℕ). z % p) f ∙ add-mul-mod_self_left (a + x * (v % p)) p (x * (v / p)))

horner : (a0 a1 a2 a3 a4 x : ℕ) → a0 + x * (a1 + x * (a2 + x * (a3 + x * (a4 + x * 0)))) ≡ a0 + a1 * x + a2 * x ^ 2 + a3 * x ^ 3 + a4 * x ^ 4
horner a0 a1 a2 a3 a4 x =
    let p1 : x ^ 1 ≡ x = pow-suc x 0 ∙ rw pow-zero (one-mul x) in
    let p2 : x ^ 2 ≡ x * x = pow-suc x 1 ∙ rw p1 in
    let p3 : x ^ 3 ≡ x * x * x = pow-suc x 2 ∙ rw p2 in
    let p4 : x ^ 4 ≡ x * x * x * x = pow-suc x 3 ∙ rw p3 in
    rw (p2, p3, p4) (omega arith)

-- the sums of Horner's rule, taken mod p at the end alone
abbrev sum : (k i : ℕ) → (ss : List ℕ) → (x : ℕ) → ℕ
sum zero i ss x = 0
sum (suc k) i ss x = get_or ss i 0 + x * sum k (suc i) ss x

sums : (k i : ℕ) (ss : List ℕ) (x : ℕ) → hash_from k i ss x ≡ sum k i ss x % prime
unfolding hash_from
sums zero i ss x = refl
sums (suc k) i ss x = rw (sums k (suc i) ss x) (keep (get_or ss i 0) x (sum k (suc i) ss x) prime)

pub hash_is : HashIs
unfolding HashIs h g poly
hash_is s x = (
  sums 5 0 s.seed x ∙ ap (λ (z : ℕ). z % prime) (horner (get_or s.seed 0 0) (get_or s.seed 1 0) (get_or s.seed 2 0) (get_or s.seed 3 0) (get_or s.seed 4 0) x),
  sums 5 5 s.seed x ∙ ap (λ (z : ℕ). z % prime) (horner (get_or s.seed 5 0) (get_or s.seed 6 0) (get_or s.seed 7 0) (get_or s.seed 8 0) (get_or s.seed 9 0) x),
)
