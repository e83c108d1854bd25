-- The check as it is computed: rule 1, one pass over the blocks, and the walk.
use Rattle.std.specs.Prelude.{◌≡◌, Bool, true, false, ◌&&◌, cond, List, ℕ, zero, suc, ◌+◌, ◌*◌, ◌-◌, ◌/◌, ◌≤◌, ◌<◌, eqb, length, get_or, Option, Some, None, option_and_then, MatchOption, Result, Ok, Err}
use Rattle.std.specs.Result.{result_ok}
use Rattle.sizes.specs.Sizes.{beta, row}
use Rattle.sizes.specs.Header.{block_long, sizes_in, held_in, rule_1}
use Rattle.sizes.specs.declared.Sizes.{Sizes}
use Rattle.skiplist.specs.Image.{is_image}
use Rattle.table.specs.declared.Refusal.{Refusal}
use Rattle.table.specs.declared.Refusal.TheVariants.{NoImage}
use Rattle.table.specs.declared.Seen.{Seen}
use Rattle.table.specs.Walk.{opens_of}

-- THE PASS over the blocks: unused bytes are zero
unfoldable pub zeros_from : List ℕ → (left at : ℕ) → Bool
zeros_from bs zero a = true
zeros_from bs (suc k) a = eqb (get_or bs a 0) 0 && zeros_from bs k (suc a)

-- the bytes of the longest block: a head and 32 nodes
abbrev pub longest : ℕ
longest = 520

-- so many bytes are whole words, of four bytes each
abbrev pub Words : (bytes : ℕ) → Type 0
Words n = 4 * (n / 4) ≡ n

-- which words of a block are looked at: with u of the zeros in front it leaves out u words and has the others
pub record Mask (ms : List ℕ) : Type 0 where
  pub long : length ms ≡ 260
  pub leaves : (k : ℕ) → k < 130 → get_or ms k 0 ≡ 0
  pub has : (k : ℕ) → 130 ≤ k → k < 260 → get_or ms k 0 ≡ 4294967295

-- where the unused bytes of a block start: at once in an empty one
unfoldable pub used_of : (row level n : ℕ) → ℕ
used_of k l n = cond (eqb l 0) 0 (8 + k * n)

-- one more block that is not empty
unfoldable pub more_of : (full level : ℕ) → ℕ
more_of m l = cond (eqb l 0) m (m + 1)

unfoldable pub unused : (row w : ℕ) → List ℕ → (i : ℕ) → ℕ
unused k w bs i = used_of k (get_or bs (53 + i * w) 0) (get_or bs (53 + i * w + 1) 0)

unfoldable pub block_clean : (row w : ℕ) → List ℕ → (i : ℕ) → Bool
block_clean k w bs i = zeros_from bs (w - unused k w bs i) (53 + i * w + unused k w bs i)

-- how many blocks are full, where all unused bytes are zero; else, as Err, how many before the first block with one that is not
unfoldable pub sweep_from : (row w : ℕ) → List ℕ → (left i full : ℕ) → Result ℕ ℕ
sweep_from k w bs zero i m = Ok m
sweep_from k w bs (suc j) i m = cond (block_clean k w bs i) (sweep_from k w bs j (suc i) (more_of m (get_or bs (53 + i * w) 0))) (Err m)

unfoldable pub swept : Sizes → List ℕ → Result ℕ ℕ
swept s bs = sweep_from (row s) (block_long s) bs s.blocks 0 0

-- THE WALK from (β, front): n orders and the front are to come, and so many chunks
unfoldable pub walked : Sizes → List ℕ → (held chunks : ℕ) → Option Seen
walked s bs n m = opens_of s bs (beta s) 0 (record { low = 0; orders = n + 1; chunks = m })

-- .. and it has come to its end, with all of them seen
unfoldable pub ended : Option Seen → Bool
ended (Some x) = eqb x.orders 0 && eqb x.chunks 0
ended None = false

-- THE CHECK
unfoldable pub check_passes : List ℕ → Bool
check_passes bs = rule_1 bs && ended (option_and_then (walked (sizes_in bs) bs (held_in bs)) (result_ok (swept (sizes_in bs) bs)))

-- what it gives: whether the bytes pass, and where they do the number of full blocks that the pass counted
abbrev pub Passed : List ℕ → Option ℕ → Type 0
Passed bs r = MatchOption r (check_passes bs ≡ false) (λ n. (check_passes bs ≡ true) × (swept (sizes_in bs) bs ≡ Ok n))

-- .. and bytes that pass are an image, of so many chunks; others are turned down by 4
abbrev pub Examined : List ℕ → Result ℕ Refusal → Type 0
Examined bs (Ok n) = (is_image bs ≡ true) × (swept (sizes_in bs) bs ≡ Ok n)
Examined bs (Err e) = (is_image bs ≡ false) × (e ≡ NoImage)
