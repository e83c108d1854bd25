-- Numbers in bytes. Document 01, "Bytes of the table": big-endian throughout.
use Rattle.std.specs.Prelude.{List, [], ◌∷◌, ◌++◌, ℕ, zero, suc, ◌+◌, ◌*◌, ◌-◌, ◌/◌, ◌%◌, ◌^◌, take, drop}

-- the number v in n bytes, and the number that some bytes say
unfoldable pub big : (n v : ℕ) → List ℕ
big zero v = []
big (suc k) v = (v / 256 ^ k % 256) ∷ big k v

unfoldable pub value_from : ℕ → List ℕ → ℕ
value_from v [] = v
value_from v (b ∷ bs) = value_from (256 * v + b) bs

-- the field of n bytes at a place
unfoldable pub field : (at n : ℕ) → List ℕ → ℕ
field a n bs = value_from 0 (take n (drop a bs))

-- ROWS: pieces of bytes one after the other, and n pieces of w bytes read back. Seeds, nodes and blocks are such rows
unfoldable pub rows : {A : Type 0} → (A → List ℕ) → List A → List ℕ
rows f [] = []
rows f (x ∷ xs) = f x ++ rows f xs

unfoldable pub rows_in : {A : Type 0} → (w : ℕ) → (List ℕ → A) → (n : ℕ) → List ℕ → List A
rows_in w f zero bs = []
rows_in w f (suc k) bs = f bs ∷ rows_in w f k (drop w bs)

-- 2^32 over d, rounded up: x * over d / 2^32 is x / d, or one more
unfoldable pub over : (d : ℕ) → ℕ
over d = (4294967296 + (d - 1)) / d

-- each of a list
abbrev pub Each : {A : Type 0} → (A → Type 0) → List A → Type 0
Each P [] = Unit {0}
Each P (x ∷ xs) = P x × Each P xs
