-- Numbers as text. Document 01, "The program and one full run": decimal fields, "output fields are parted the same way".
use Rattle.std.specs.Prelude.{◌≡◌, true, cond, List, [], ◌∷◌, ◌++◌, ℕ, zero, suc, ◌+◌, ◌/◌, ◌%◌, ◌≤◌, ltb, length}
use Rattle.std.proofs.lemmas.List.Edits.{sets}
use Rattle.lines.specs.Grammar.{number, value}

-- a number of 32 bits in decimal, without zeros in front; ten digits are enough
unfoldable pub numeral_in : (fuel n : ℕ) → List ℕ
numeral_in zero n = []
numeral_in (suc k) n = cond (ltb n 10) ((48 + n) ∷ []) (numeral_in k (n / 10) ++ ((48 + n % 10) ∷ []))

unfoldable pub numeral : ℕ → List ℕ
numeral n = numeral_in 10 n

-- numbers, a blank before each; and a line of them
unfoldable pub parted : List ℕ → List ℕ
parted [] = []
parted (n ∷ ns) = (32 ∷ numeral n) ++ parted ns

unfoldable pub row : ℕ → List ℕ → List ℕ
row n ns = (numeral n ++ parted ns) ++ (10 ∷ [])

-- "for each block its number and either `-` or ..": the line of an empty block
unfoldable pub dash : ℕ → List ℕ
dash n = (numeral n ++ (32 ∷ [])) ++ (45 ∷ 10 ∷ [])

-- bytes stand at a place of a buffer that was `old`, and r is the place behind them
pub record Put (old new : List ℕ) (at : ℕ) (bytes : List ℕ) (r : ℕ) : Type 0 where
  pub is : new ≡ sets old at bytes
  pub next : r ≡ at + length bytes

-- STATEMENT: a numeral is a field that a line may have, and its value is the number
unfoldable pub NumeralReadsBack : Type 0
NumeralReadsBack = (n : ℕ) → n ≤ 4294967295 → (number (numeral n) ≡ true) × (value (numeral n) ≡ n)
