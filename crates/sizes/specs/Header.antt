-- The header. Document 01, "Bytes of the table" and rule 1 of "When bytes are an image".
use Rattle.std.specs.Prelude.{Bool, ◌&&◌, List, [], ◌∷◌, ◌++◌, ℕ, ◌+◌, ◌*◌, leb, eqb, length, get_or, drop}
use Rattle.sizes.specs.Numbers.{big, field, rows, rows_in}
use Rattle.sizes.specs.Sizes.{row, sizes_good, seed_good}
use Rattle.sizes.specs.declared.Sizes.{Sizes}

-- a block: its head of 8 bytes, and B nodes
unfoldable pub block_long : Sizes → ℕ
block_long s = 8 + row s * s.nodes

-- the length of the table: the header's 53 bytes, and M blocks
unfoldable pub table_long : Sizes → ℕ
table_long s = 53 + s.blocks * block_long s

-- THE SEVENTEEN FIELDS: where each stands, and how wide it is
abbrev pub header_at : ℕ → ℕ
header_at k = get_or (0 ∷ 1 ∷ 5 ∷ 6 ∷ 7 ∷ 9 ∷ 11 ∷ 13 ∷ 17 ∷ 21 ∷ 25 ∷ 29 ∷ 33 ∷ 37 ∷ 41 ∷ 45 ∷ 49 ∷ []) k 0

abbrev pub header_wide : ℕ → ℕ
header_wide k = get_or (1 ∷ 4 ∷ 1 ∷ 1 ∷ 2 ∷ 2 ∷ 2 ∷ 4 ∷ 4 ∷ 4 ∷ 4 ∷ 4 ∷ 4 ∷ 4 ∷ 4 ∷ 4 ∷ 4 ∷ []) k 0

-- the ten seed numbers, four bytes each
abbrev pub seed_bytes : List ℕ → List ℕ
seed_bytes ss = rows (big 4) ss

-- version, length, γ, B, N, M, n, seed
unfoldable pub header : Sizes → (n : ℕ) → List ℕ
header s n =
    (s.version ∷ []) ++ big 4 (table_long s) ++ (s.gamma ∷ s.nodes ∷ []) ++ big 2 s.orders ++ big 2 s.blocks ++ big 2 n ++ seed_bytes s.seed

-- the value of each of the seventeen fields
unfoldable pub header_value : Sizes → (n k : ℕ) → ℕ
header_value s n k = get_or (s.version ∷ table_long s ∷ s.gamma ∷ s.nodes ∷ s.orders ∷ s.blocks ∷ n ∷ s.seed) k 0

-- READ BACK
abbrev pub seed_in : (left : ℕ) → List ℕ → List ℕ
seed_in n bs = rows_in 4 (field 0 4) n bs

unfoldable pub sizes_in : List ℕ → Sizes
sizes_in bs =
    record { version = get_or bs 0 0; gamma = get_or bs 5 0; nodes = get_or bs 6 0; orders = field 7 2 bs; blocks = field 9 2 bs; seed = seed_in 10 (drop 13 bs) }

unfoldable pub held_in : List ℕ → ℕ
held_in bs = field 11 2 bs

-- RULE 1: at least 53 bytes, version, sizes and seed that make allows, the length field right and the lent length, n at most N
unfoldable pub rule_1 : List ℕ → Bool
rule_1 bs =
    leb 53 (length bs)
    && (sizes_good (sizes_in bs)
    && (seed_good (sizes_in bs).seed
    && (eqb (field 1 4 bs) (table_long (sizes_in bs)) && (eqb (length bs) (table_long (sizes_in bs)) && leb (held_in bs) (sizes_in bs).orders))))
