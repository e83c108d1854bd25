-- Numbers in bytes: what is written is read back, and what is read is written again.
use mathlib.Core.Path.{◌≡◌, refl, sym, ap, ◌∙◌, subst}
use mathlib.Core.List.{List, [], ◌∷◌, ◌++◌}
use Prim.Native.Nat.{ℕ, zero, suc, ◌+◌, ◌*◌, ◌-◌, ◌/◌, ◌%◌, ◌^◌, ◌≤◌, ◌<◌}
use native.Mathlib.Nat.{zero-mul, zero-add, add_assoc, pow-succ', one-le-pow, add-mul, mul_comm, mul_assoc, mod-eq_of_lt, div-one}
use native.Mathlib.Omega.{arith}
use lib.Arith.{mod-mul, digits_lt, digits_div}
use lib.Dec.{lit<}
use lib.ListN.{length, take, drop, length-drop}
use lib.Seq.{sets, take_at, drop-drop, take-take, take-append-le, drop-append-le, take-add}
pub use Rattle.std.proofs.lemmas.List.{drop-take as drop_take}
use borrow.Rule.Slice.PartMut.{put_mid}
use Rattle.std.specs.Int.{w32, to_be_bytes}
use Rattle.sizes.specs.Numbers.{big, value_from, field}
use Rattle.sizes.proofs.Laws.Parts.{part_written, length_part}

-- one law for every width: what n bytes of v say is v, up to 256^n
pub value_big : (n a v : ℕ) → value_from a (big n v) ≡ a * 256 ^ n + v % 256 ^ n
unfolding value_from big
value_big zero a v = omega arith
value_big (suc k) a v =
    value_big k (256 * a + v / 256 ^ k % 256) v
    ∙ rw (pow-succ', mod-mul v {m = 256} {c = 256 ^ k} (lit< tt) (one-le-pow k 256 (lit< tt)), add-mul, mul_comm 256 a, mul_assoc) (add_assoc _ _ _)

pub length_big : (n v : ℕ) → length (big n v) ≡ n
unfolding big
length_big zero v = refl
length_big (suc k) v = ap suc (length_big k v)

-- the last n bytes of four, written over a list
last_bytes : (n v : ℕ) → n ≤ 4 → take (4 - (4 - n)) (drop (4 - n) (to_be_bytes w32 v)) ≡ big n v
unfolding big
last_bytes zero v h = refl
last_bytes (suc zero) v h = simp div-one
last_bytes (suc (suc zero)) v h = simp div-one
last_bytes (suc (suc (suc zero))) v h = simp div-one
last_bytes (suc (suc (suc (suc zero)))) v h = simp div-one
last_bytes (suc (suc (suc (suc (suc n))))) v h = absurd (omega arith)

pub put_last : (l ys : List ℕ) (a n v : ℕ) → a + n ≤ length l → n ≤ 4 → ys ≡ take (4 - (4 - n)) (drop (4 - n) (to_be_bytes w32 v)) → put_mid a (a + n - a) l ys ≡ sets l a (big n v)
put_last l ys a n v h k e = part_written l a n (big n v) h (length_big n v) ys (e ∙ last_bytes n v k)

pub field_big : (n v : ℕ) (r : List ℕ) → v < 256 ^ n → field 0 n (big n v ++ r) ≡ v
unfolding field
field_big n v r l = rw (take_at (big n v) r n (length_big n v), value_big n 0 v, zero-mul, zero-add) (mod-eq_of_lt l)

-- fields past some bytes, of a part, and of a head
pub field_drop : (a n b : ℕ) (bs : List ℕ) → field a n (drop b bs) ≡ field (b + a) n bs
unfolding field
field_drop a n b bs = rw drop-drop

pub field_part : (a n w b : ℕ) (bs : List ℕ) → a + n ≤ w → field a n (take w (drop b bs)) ≡ field (b + a) n bs
unfolding field
field_part a n w b bs h =
    let e : w ≡ a + (w - a) = omega arith in
    let l : n ≤ w - a = omega arith in
    rw (e, drop_take, take-take n (w - a), drop-drop)

pub field_head : (a n : ℕ) (hd x : List ℕ) → a + n ≤ length hd → field a n (hd ++ x) ≡ field a n hd
unfolding field
field_head a n hd x h =
    let h' : a ≤ length hd = omega arith in
    let h'' : n ≤ length (drop a hd) = simp length-drop (omega arith) in
    rw (drop-append-le a hd x, take-append-le n (drop a hd) x)

-- numbers below 256
abbrev pub Bytes : List ℕ → Type 0
Bytes [] = Unit {0}
Bytes (x ∷ xs) = (x < 256) × Bytes xs

-- a value over the bytes of a list is above the bytes of that list
record Above (v : ℕ) (ys : List ℕ) : Type 0 where
  rest : ℕ
  less : rest < 256 ^ length ys
  is : value_from v ys ≡ v * 256 ^ length ys + rest

above : (v : ℕ) (ys : List ℕ) → Bytes ys → Above v ys
unfolding value_from
above v [] b = record { rest = 0; less = omega arith; is = omega arith }
above v (y ∷ ys) b =
    let r = above (256 * v + y) ys b.1 in
    record { rest = y * 256 ^ length ys + r.rest; less = rw pow-succ' (digits_lt b.0 r.less); is = r.is ∙ rw (pow-succ', add-mul, mul_comm 256 v, mul_assoc) (add_assoc _ _ _) }

digit : (v y p r : ℕ) → r < p → y < 256 → ((256 * v + y) * p + r) / p % 256 ≡ y
digit v y p r h k = rw (digits_div (256 * v + y) h) (omega arith)

-- BYTES ARE THE DIGITS of their value
pub big_value : (v : ℕ) (ys : List ℕ) → Bytes ys → big (length ys) (value_from v ys) ≡ ys
unfolding big value_from
big_value v [] b = refl
big_value v (y ∷ ys) b =
    let r = above (256 * v + y) ys b.1 in
    let d : value_from (256 * v + y) ys / 256 ^ length ys % 256 ≡ y = rw r.is (digit v y (256 ^ length ys) r.rest r.less b.0) in
    let t = big_value (256 * v + y) ys b.1 in
    λ i. d i ∷ t i

pub bytes_take : (n : ℕ) (xs : List ℕ) → Bytes xs → Bytes (take n xs)
bytes_take zero xs b = tt
bytes_take (suc n) [] b = tt
bytes_take (suc n) (x ∷ xs) b = (b.0, bytes_take n xs b.1)

pub bytes_drop : (n : ℕ) (xs : List ℕ) → Bytes xs → Bytes (drop n xs)
bytes_drop zero xs b = b
bytes_drop (suc n) [] b = tt
bytes_drop (suc n) (x ∷ xs) b = bytes_drop n xs b.1

pub take_more : (a b : ℕ) (xs : List ℕ) → take a xs ++ take b (drop a xs) ≡ take (a + b) xs
take_more a b xs = sym (take-add a b xs)

-- a field read and written again
pub field_again : (a n : ℕ) (xs : List ℕ) → a + n ≤ length xs → Bytes xs → big n (field a n xs) ≡ take n (drop a xs)
unfolding field
field_again a n xs h b =
    let e : length (take n (drop a xs)) ≡ n = length_part n a xs h in
    ap (λ (k : ℕ). big k (value_from 0 (take n (drop a xs)))) (sym e) ∙ big_value 0 (take n (drop a xs)) (bytes_take n (drop a xs) (bytes_drop a xs b))

-- a field of n bytes is below 256^n
value_less : (ys : List ℕ) → Bytes ys → value_from 0 ys < 256 ^ length ys
value_less ys b = let r = above 0 ys b in rw (r.is, zero-mul, zero-add) r.less

pub field_less : (a n : ℕ) (xs : List ℕ) → a + n ≤ length xs → Bytes xs → field a n xs < 256 ^ n
unfolding field
field_less a n xs h b =
    let e : length (take n (drop a xs)) ≡ n = length_part n a xs h in
    subst (λ (k : ℕ). value_from 0 (take n (drop a xs)) < 256 ^ k) e (value_less (take n (drop a xs)) (bytes_take n (drop a xs) (bytes_drop a xs b)))
