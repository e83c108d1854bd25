-- Numbers as text: a numeral digit by digit, and bytes put behind bytes.
use Rattle.std.proofs.Common.{◌≡◌, refl, sym, ◌∙◌, ℕ, zero, suc, ◌+◌, ◌*◌, ◌/◌, ◌%◌, ◌^◌, ◌≤◌, ◌<◌, Bool, true, false, cond, ltb, List, [], ◌∷◌, ◌++◌, append_assoc, append-nil, length, length-append, get_or, take, take-suc, set, add-one, add-zero, arith}
use borrow.Author.Tests.{lt-ltb, le-ltb}
use Rattle.std.proofs.lemmas.List.Edits.{sets}
use Rattle.lines.specs.Text.{numeral, numeral_in, parted, row, dash, Put}

-- A NUMERAL
in_short : (k n : ℕ) → length (numeral_in k n) ≤ k
unfolding numeral_in
in_short zero n = omega arith
in_short (suc k) n = go (in_short k (n / 10)) (ltb n 10)
  where
    go : length (numeral_in k (n / 10)) ≤ k → (t : Bool) → length (cond t ((48 + n) ∷ []) (numeral_in k (n / 10) ++ ((48 + n % 10) ∷ []))) ≤ suc k
    go h true = omega arith
    go h false = simp length-append (omega arith)

pub numeral_short : (n : ℕ) → length (numeral n) ≤ 10
unfolding numeral
numeral_short n = in_short 10 n

-- a digit less is enough for a number with a digit less
in_enough : (k n : ℕ) → n < 10 ^ suc k → numeral_in (suc (suc k)) n ≡ numeral_in (suc k) n
unfolding numeral_in
in_enough zero n h = rw (lt-ltb n 10 (omega arith))
in_enough (suc k) n h = go (in_enough k (n / 10) (omega arith)) (ltb n 10)
  where
    go : numeral_in (suc (suc k)) (n / 10) ≡ numeral_in (suc k) (n / 10) → (t : Bool)
        → cond t ((48 + n) ∷ []) (numeral_in (suc (suc k)) (n / 10) ++ ((48 + n % 10) ∷ [])) ≡ cond t ((48 + n) ∷ []) (numeral_in (suc k) (n / 10) ++ ((48 + n % 10) ∷ []))
    go e true = refl
    go e false = rw e

-- a digit alone, and the tenth of a longer number before its last digit
pub numeral_digit : (n : ℕ) → n < 10 → numeral n ≡ (48 + n % 10) ∷ []
unfolding numeral numeral_in
numeral_digit n h =
    let m : n % 10 ≡ n = omega arith in
    rw (lt-ltb n 10 h, m)

pub numeral_more : (n : ℕ) → 10 ≤ n → n < 4294967296 → numeral n ≡ numeral (n / 10) ++ ((48 + n % 10) ∷ [])
unfolding numeral numeral_in
numeral_more n h l = rw (le-ltb n 10 h, in_enough 8 (n / 10) (omega arith))

pub numeral_longer : (n : ℕ) → 10 ≤ n → n < 4294967296 → length (numeral n) ≡ length (numeral (n / 10)) + 1
numeral_longer n h l = rw (numeral_more n h l, length-append)

-- BYTES BEHIND BYTES
sets_sets : (l a b : List ℕ) (i : ℕ) → sets (sets l i a) (i + length a) b ≡ sets l i (a ++ b)
sets_sets l [] b i = rw (add-zero i)
sets_sets l (x ∷ a) b i =
    let e : i + suc (length a) ≡ suc i + length a = omega arith in
    rw e (sets_sets (set l i x) a b (suc i))

pub put_on : {old new last : List ℕ} {at : ℕ} {a b : List ℕ} {p r : ℕ} → Put old new at a p → Put new last p b r → Put old last at (a ++ b) r
put_on {old} {at} {a} {b} h k =
    record {
      is = k.is ∙ rw (h.is, h.next) (sets_sets old a b at);
      next = k.next ∙ rw (h.next, length-append) (omega arith);
    }

-- A ROW
parted_more : (ns : List ℕ) (n : ℕ) → parted (ns ++ (n ∷ [])) ≡ parted ns ++ (32 ∷ numeral n)
unfolding parted
parted_more [] n = append-nil (32 ∷ numeral n)
parted_more (m ∷ ns) n = rw (parted_more ns n) (sym (append_assoc (32 ∷ numeral m) (parted ns) (32 ∷ numeral n)))

pub parted_take : (ns : List ℕ) (i : ℕ) → i < length ns → parted (take (i + 1) ns) ≡ parted (take i ns) ++ (32 ∷ numeral (get_or ns i 0))
parted_take ns i h = rw (add-one, take-suc ns i 0 h, parted_more (take i ns) (get_or ns i 0))

pub parted_short : (ns : List ℕ) → length (parted ns) ≤ 11 * length ns
unfolding parted
parted_short [] = omega arith
parted_short (n ∷ ns) = simp length-append (omega (arith, parted_short ns, numeral_short n))

pub row_short : (first : ℕ) (others : List ℕ) → length (row first others) ≤ 11 * (1 + length others)
unfolding row
row_short first others = simp length-append (omega (arith, numeral_short first, parted_short others))

pub dash_short : (n : ℕ) → length (dash n) ≤ 13
unfolding dash
dash_short n = simp length-append (omega (arith, numeral_short n))
