-- Laws of fields in bytes.
use mathlib.Core.Path.{◌≡◌}
use mathlib.Core.List.{List, ◌∷◌}
use Prim.Native.Nat.{ℕ, suc, ◌+◌, ◌*◌, ◌≤◌, ◌<◌}
use native.Mathlib.Numerals.{add-one, towards_suc}
use native.Mathlib.Omega.{arith}
use native.Mathlib.Nat.{mul-le-mul, mul-le-mul_right, suc-mul}
use lib.ListN.{length, get_or, take, drop}
use lib.Seq.{drop-cons}
use mir.Val.{Fits}
use mir.Syntax.{w64}
use Rattle.sizes.specs.Numbers.{field, value_from}

-- one more byte of a field
pub take_drop_cons : (bs : List ℕ) (a n : ℕ) → a < length bs → take (suc n) (drop a bs) ≡ get_or bs a 0 ∷ take n (drop (suc a) bs)
take_drop_cons bs a n h = rw (drop-cons bs a 0)

pub field_two : (bs : List ℕ) (a : ℕ) → a + 2 ≤ length bs → field a 2 bs ≡ 256 * get_or bs a 0 + get_or bs (a + 1) 0
unfolding field value_from
field_two bs a h =
    let h0 : a < length bs = omega arith in
    let h1 : suc a < length bs = omega arith in
    rw (take_drop_cons bs a 1, take_drop_cons bs (suc a) 0, add-one) (omega arith)

pub field_four : (bs : List ℕ) (a : ℕ) → a + 4 ≤ length bs → field a 4 bs ≡ 256 * (256 * (256 * get_or bs a 0 + get_or bs (a + 1) 0) + get_or bs (a + 2) 0) + get_or bs (a + 3) 0
unfolding field value_from
field_four bs a h =
    let h0 : a < length bs = omega arith in
    let h1 : suc a < length bs = omega arith in
    let h2 : suc (suc a) < length bs = omega arith in
    let h3 : suc (suc (suc a)) < length bs = omega arith in
    simp (take_drop_cons bs a 3, take_drop_cons bs (suc a) 2, take_drop_cons bs (suc (suc a)) 1, take_drop_cons bs (suc (suc (suc a))) 0, towards_suc) (omega arith)

-- blocks of w bytes: the end of block i, and a bound
pub block_end : (i m w : ℕ) → i < m → i * w + w ≤ m * w
block_end i m w h = omega (arith, mul-le-mul_right w h, suc-mul i w)

pub block_small : (i w : ℕ) → i < 65535 → w ≤ 520 → i * w ≤ 65535 * 520
block_small i w hi hw = mul-le-mul {n₂ = 65535} {m₂ = 520} (omega arith) hw

-- as `offset` asks
pub offset_fits : (i m w : ℕ) → i < m → m ≤ 65535 → w ≤ 520 → Fits w64 (i * w)
offset_fits i m w h hm hw = record { fits = omega (arith, block_small i w (omega arith) hw) }

pub offset_sum : (i m w : ℕ) → i < m → m ≤ 65535 → w ≤ 520 → Fits w64 (53 + i * w)
offset_sum i m w h hm hw = record { fits = omega (arith, block_small i w (omega arith) hw) }

pub offset_is : (i w n : ℕ) → n ≡ w → 53 + i * n ≡ 53 + i * w
offset_is i w n e = rw e

pub offset_end : (i m w n : ℕ) → n ≡ w → i < m → 53 + i * n + w ≤ 53 + m * w
offset_end i m w n e h = rw e (omega (arith, block_end i m w h))

-- as `be2` and `be4` ask
pub two_bytes : (bs : List ℕ) (a v r : ℕ) → a + 2 ≤ length bs → v ≡ get_or bs a 0 → r ≡ 256 * v + get_or bs (a + 1) 0 → r ≡ field a 2 bs
two_bytes bs a v r h e e' = omega (arith, field_two bs a h)
