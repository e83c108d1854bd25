-- What a make's line asks for. Document 01, "The program and one full run": "`make γ B N M` with ten seed numbers", and "a table over 65,536 bytes whose
-- sizes are allowed prints `?`".
use Rattle.std.specs.Prelude.{cond, List, ℕ, get_or, take, drop, replicate}
use Rattle.sizes.specs.Sizes.{sizes_good}
use Rattle.sizes.specs.Header.{seed_bytes, table_long}
use Rattle.sizes.specs.declared.Sizes.{Sizes}
use Rattle.skiplist.specs.Questions.{Parameters, parameters, sizes}
use Rattle.table.specs.Calls.{MakeSays}

-- a line's pieces are its word and, from 1 on, its numbers
abbrev pub piece : (pieces : List ℕ) → ℕ → ℕ
piece p i = get_or p i 0

-- the ten seed numbers, four bytes each
unfoldable pub seed_asked : (pieces : List ℕ) → List ℕ
seed_asked p = seed_bytes (take 10 (drop 5 p))

-- the program keeps to version 1
abbrev pub asked : (pieces : List ℕ) → Parameters
asked p = parameters 1 (piece p 1) (piece p 2) (piece p 3) (piece p 4) (seed_asked p)

unfoldable pub sizes_asked : (pieces : List ℕ) → Sizes
sizes_asked p = sizes (asked p)

-- the sizes alone, with no seed: the table's length does not depend on it
abbrev pub plain_asked : (pieces : List ℕ) → Sizes
plain_asked p = record { version = 1; gamma = piece p 1; nodes = piece p 2; orders = piece p 3; blocks = piece p 4; seed = replicate 10 0 }

-- the bytes of a table of these sizes; 0 where they are not allowed, and the call is made all the same
unfoldable pub long_asked : (pieces : List ℕ) → ℕ
long_asked p = cond (sizes_good (sizes_asked p)) (table_long (sizes_asked p)) 0

-- MAKE with the numbers of a line
abbrev pub MakeAsked : (pieces : List ℕ) → (r : ℕ) → (table table_now : List ℕ) → Type 0
MakeAsked p r x z = MakeSays (asked p) r x z
