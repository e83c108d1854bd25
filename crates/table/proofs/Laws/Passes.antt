-- Laws of the pass over the blocks, and of its end.
use Rattle.std.proofs.Common.{Ok, Err}
use mathlib.Core.Path.{◌≡◌, refl, ap, sym, ◌∙◌}
use mathlib.Core.Bool.{Bool, true, false, ◌&&◌, cond, and-true, and_assoc}
use mathlib.Core.List.{List, ◌++◌}
use Prim.Native.Nat.{ℕ, suc, ◌+◌, ◌*◌, ◌-◌, ◌/◌, ◌%◌, ◌≤◌, ◌<◌}
use lib.Dec.{eqb}
use lib.Bits.{bit_and, bit_or, or_add_and, and_le_l, and_le_r, and_zero_r, and_mask}
use borrow.Author.Tests.{eq-eqb, ne_eqb, eqb-true, eqb-false}
use native.Mathlib.Decide.{dec_lt}
use native.Mathlib.Omega.{arith}
use native.Mathlib.Nat.{sub-zero, mod-eq_of_lt, mul_assoc}
use native.Mathlib.Numerals.{add-one}
use lib.ListN.{length, get_or, drop, replicate, length-append, length-drop, length-replicate, get_or-append, get_or-replicate}
use lib.Seq.{get_or-append_right}
use Rattle.std.proofs.lemmas.List.{get_or-drop}
use Rattle.sizes.specs.Sizes.{row}
use Rattle.sizes.specs.Header.{block_long}
use Rattle.sizes.specs.declared.Sizes.{Sizes}
use Rattle.placement.specs.Place.{Shaped}
use Rattle.table.specs.Check.{longest, Words, Mask, zeros_from, used_of, more_of, unused, block_clean, sweep_from, swept}

-- a number made of two by `or` is 0 when both are
or_zero : (a b : ℕ) → eqb (bit_or a b) 0 ≡ (eqb a 0 && eqb b 0)
or_zero a b = go (eqb a 0) (eqb b 0) refl refl
  where
    go : (t u : Bool) → eqb a 0 ≡ t → eqb b 0 ≡ u → eqb (bit_or a b) 0 ≡ (t && u)
    go true true p q = eq-eqb (bit_or a b) 0 (omega (arith, or_add_and a b, eqb-true a 0 p, eqb-true b 0 q))
    go true false p q = ne_eqb (bit_or a b) 0 (λ e. eqb-false b 0 q (omega (arith, or_add_and a b, and_le_l a b, eqb-true a 0 p)))
    go false u p q = ne_eqb (bit_or a b) 0 (λ e. eqb-false a 0 p (omega (arith, or_add_and a b, and_le_r a b)))

-- the mask: zeros in front of what is left of words with all bits set
pub mask_made : (xs ys : List ℕ) → xs ≡ replicate 130 0 → ys ≡ replicate 260 4294967295 → Mask (xs ++ drop 130 ys)
mask_made xs ys ex ey =
    let n : length xs ≡ 130 = ap length ex ∙ length-replicate {A = ℕ} 130 0 in
    let m : length ys ≡ 260 = ap length ey ∙ length-replicate {A = ℕ} 260 4294967295 in
    record {
      long = omega (arith, length-append xs (drop 130 ys), length-drop 130 ys);
      leaves = λ k h. get_or-append xs (drop 130 ys) 0 k (omega arith) ∙ ap (λ (z : List ℕ). get_or z k 0) ex ∙ get_or-replicate {A = ℕ} 130 k 0 0 h;
      has = λ k l h.
          get_or-append_right xs (drop 130 ys) k 0 (omega arith) ∙ get_or-drop 130 ys (k - length xs) 0 ∙ ap (λ (z : List ℕ). get_or z (130 + (k - length xs)) 0) ey
          ∙ get_or-replicate {A = ℕ} 260 (130 + (k - length xs)) 4294967295 0 (omega arith);
    }

-- four bytes as one number
pub word_zero : (bs : List ℕ) (at v : ℕ) → v ≡ get_or bs at 0 + get_or bs (at + 1) 0 * 256 + get_or bs (at + 2) 0 * 65536 + get_or bs (at + 3) 0 * 16777216
    → eqb v 0 ≡ zeros_from bs 4 at
unfolding zeros_from
word_zero bs at v e =
    let second : at + 1 ≡ suc at = omega arith in
    let third : at + 2 ≡ suc (suc at) = omega arith in
    let fourth : at + 3 ≡ suc (suc (suc at)) = omega arith in
    rw (← fourth, ← third, ← second)
    (go (eqb (get_or bs at 0) 0) (eqb (get_or bs (at + 1) 0) 0) (eqb (get_or bs (at + 2) 0) 0) (eqb (get_or bs (at + 3) 0) 0) refl refl refl refl)
  where
    go : (p q r t : Bool) → eqb (get_or bs at 0) 0 ≡ p → eqb (get_or bs (at + 1) 0) 0 ≡ q → eqb (get_or bs (at + 2) 0) 0 ≡ r → eqb (get_or bs (at + 3) 0) 0 ≡ t
        → eqb v 0 ≡ (p && (q && (r && (t && true))))
    go false q r t x y z u = ne_eqb v 0 (λ h. eqb-false _ 0 x (omega (arith, e)))
    go true false r t x y z u = ne_eqb v 0 (λ h. eqb-false _ 0 y (omega (arith, e)))
    go true true false t x y z u = ne_eqb v 0 (λ h. eqb-false _ 0 z (omega (arith, e)))
    go true true true false x y z u = ne_eqb v 0 (λ h. eqb-false _ 0 u (omega (arith, e)))
    go true true true true x y z u = eq-eqb v 0 (omega (arith, e, eqb-true _ 0 x, eqb-true _ 0 y, eqb-true _ 0 z, eqb-true _ 0 u))

zeros_four : (bs : List ℕ) (k a : ℕ) → zeros_from bs (4 + k) a ≡ (zeros_from bs 4 a && zeros_from bs k (a + 4))
unfolding zeros_from
zeros_four bs k a =
    let e : a + 4 ≡ suc (suc (suc (suc a))) = omega arith in
    let f : 4 + k ≡ suc (suc (suc (suc k))) = omega arith in
    rw (e, f) (go (eqb (get_or bs a 0) 0) (eqb (get_or bs (suc a) 0) 0) (eqb (get_or bs (suc (suc a)) 0) 0) (eqb (get_or bs (suc (suc (suc a))) 0) 0) _)
  where
    go : (p q r t z : Bool) → (p && (q && (r && (t && z)))) ≡ ((p && (q && (r && (t && true)))) && z)
    go false q r t z = refl
    go true false r t z = refl
    go true true false t z = refl
    go true true true false z = refl
    go true true true true z = refl

-- the unused words of a block of w, from its word j on: those behind the first u
abbrev past : (bs : List ℕ) (at w u j : ℕ) → Bool
past bs at w u j = zeros_from bs (4 * (w - (j + (u - j)))) (at + 4 * (j + (u - j)))

-- one of them, under the mask
past_word : (bs : List ℕ) (at w u : ℕ) (ms : List ℕ) → Mask ms → u < w → (j : ℕ) → j < w → w ≤ 130 → (x y : ℕ) → eqb x 0 ≡ zeros_from bs 4 (at + 4 * j) → x < 4294967296 → y ≡ get_or ms (130 - u + j) 0
    → past bs at w u j ≡ (eqb (bit_and x y) 0 && past bs at w u (j + 1))
past_word bs at w u ms k few j h most x y ex b ey = go (dec_lt j u)
  where
    go : Dec (j < u) → past bs at w u j ≡ (eqb (bit_and x y) 0 && past bs at w u (j + 1))
    go (yes f) =
        let e : j + (u - j) ≡ j + 1 + (u - (j + 1)) = omega arith in
        rw (e, ey, k.leaves (130 - u + j) (omega arith), and_zero_r x)
    go (no f) =
        let e : j + (u - j) ≡ j = omega arith in
        let d : j + 1 + (u - (j + 1)) ≡ j + 1 = omega arith in
        let c : 4 * (w - j) ≡ 4 + 4 * (w - (j + 1)) = omega arith in
        let a : at + 4 * (j + 1) ≡ at + 4 * j + 4 = omega arith in
        rw (e, d, c, a, zeros_four bs (4 * (w - (j + 1))) (at + 4 * j), ← ex, ey, k.has (130 - u + j) (omega arith) (omega arith), and_mask x 32, mod-eq_of_lt b)

pub none_unused : (bs : List ℕ) (at w u : ℕ) → w ≤ u → true ≡ zeros_from bs (w - u) (at + u)
unfolding zeros_from
none_unused bs at w u h =
    let e : w - u ≡ 0 = omega arith in
    rw e

-- what the loop of `zeros` keeps: the unused words so far are 0 when their `or` is
pub record Masking (bs : List ℕ) (at w u j any : ℕ) : Type 0 where
  pub rest : zeros_from bs (4 * (w - u)) (at + 4 * u) ≡ (eqb any 0 && past bs at w u j)

module _ (bs : List ℕ) (at w u : ℕ) where
  module _ (j any : ℕ) (z : Masking bs at w u j any) where
    pub masking_more : (n m : ℕ) → n ≤ longest → 4 * w ≡ n → 4 * u ≡ m → m < n → (ms : List ℕ) → Mask ms → j < w → (x y : ℕ) → eqb x 0 ≡ zeros_from bs 4 (at + 4 * j) → x < 4294967296
        → y ≡ get_or ms (130 - u + j) 0 → Masking bs at w u (j + 1) (bit_or any (bit_and x y))
    masking_more n m most en em few ms k h x y ex bx ey = record { rest = z.rest ∙ rw (past_word bs at w u ms k (omega arith) j h (omega arith) x y ex bx ey, or_zero any (bit_and x y), and_assoc) }

    pub masking_end : w ≤ j → (n m : ℕ) → 4 * w ≡ n → 4 * u ≡ m → eqb any 0 ≡ zeros_from bs (n - m) (at + m)
    unfolding zeros_from
    masking_end h n m en em =
        let e : 4 * (w - (j + (u - j))) ≡ 0 = omega arith in
        let f : 4 * (w - u) ≡ n - m = omega arith in
        sym (z.rest ∙ rw (e, and-true)) ∙ rw (f, em)

-- the bytes of a block, and the used ones, are whole words
words_rows : (k n : ℕ) → k % 4 ≡ 0 → Words (8 + k * n)
words_rows k n four =
    let e : k ≡ 4 * (k / 4) = omega arith in
    let f : k * n ≡ 4 * (k / 4 * n) = ap (λ (z : ℕ). z * n) e ∙ mul_assoc 4 (k / 4) n in
    omega (arith, f)

pub words_long : (s : Sizes) (bs : List ℕ) (k n : ℕ) → Shaped s bs → k ≡ row s → k % 4 ≡ 0 → n ≡ block_long s → Words n
words_long s bs k n h ek four e =
    let f : n ≡ 8 + k * s.nodes = e ∙ h.width ∙ ap (λ (z : ℕ). 8 + z * s.nodes) (sym ek) in
    rw f (words_rows k s.nodes four)

pub words_used : (k l n u : ℕ) → k % 4 ≡ 0 → u ≡ used_of k l n → Words u
unfolding used_of
words_used k l n u four eu = rw eu (go (eqb l 0))
  where
    go : (t : Bool) → Words (cond t 0 (8 + k * n))
    go true = refl
    go false = words_rows k n four

-- THE PASS: a block of w bytes, with k for a node, as it is read
pub record Blocked (k w : ℕ) (bs : List ℕ) (i at level u : ℕ) : Type 0 where
  pub level_is : level ≡ get_or bs (53 + i * w) 0
  pub clean_is : block_clean k w bs i ≡ zeros_from bs (w - u) (at + u)

pub blocked_made : (s : Sizes) (k w : ℕ) (bs : List ℕ) (i at l n u : ℕ) → w ≡ block_long s → at ≡ 53 + i * block_long s → l ≡ get_or bs at 0 → n ≡ get_or bs (at + 1) 0 → u ≡ used_of k l n
    → Blocked k w bs i at l u
unfolding block_clean unused
blocked_made s k w bs i at l n u ew ea el en eu =
    let h : at ≡ 53 + i * w = ea ∙ rw ew in
    record { level_is = el ∙ rw h; clean_is = rw (← h, ← el, ← en, ← eu) }

-- .. and the loop over the blocks
pub record Sweeping (s : Sizes) (k w m : ℕ) (bs : List ℕ) (i full : ℕ) : Type 0 where
  pub within : i ≤ m
  pub few : full ≤ i
  pub rest : swept s bs ≡ sweep_from k w bs (m - i) i full

module _ (s : Sizes) (k w m : ℕ) (bs : List ℕ) where
  pub sweeping_start : k ≡ row s → w ≡ block_long s → m ≡ s.blocks → Sweeping s k w m bs 0 0
  unfolding swept
  sweeping_start ek e f = record { within = omega arith; few = omega arith; rest = rw (sub-zero, ek, e, f) }

  module _ (i full : ℕ) (h : Sweeping s k w m bs i full) where
    pub sweeping_end : m ≤ i → Ok full ≡ swept s bs
    unfolding sweep_from
    sweeping_end le =
        let e : m - i ≡ 0 = omega arith in
        sym (h.rest ∙ rw e)

    module _ (lt : i < m) (at l u : ℕ) (b : Blocked k w bs i at l u) (t : Bool) (et : t ≡ zeros_from bs (w - u) (at + u)) where
      sweeping_turn : swept s bs ≡ cond t (sweep_from k w bs (m - (i + 1)) (i + 1) (more_of full l)) (Err full)
      unfolding sweep_from
      sweeping_turn =
          let e : m - i ≡ suc (m - (i + 1)) = omega arith in
          h.rest ∙ rw (e, b.clean_is, ← et, add-one, b.level_is)

      pub sweeping_stop : t ≡ false → Err full ≡ swept s bs
      sweeping_stop q = sym (sweeping_turn ∙ rw q)

      pub sweeping_more : t ≡ true → (n : ℕ) → n ≡ more_of full l → n ≤ full + 1 → Sweeping s k w m bs (i + 1) n
      sweeping_more q n e f = record { within = omega arith; few = omega (arith, h.few); rest = sweeping_turn ∙ rw (q, e) }
