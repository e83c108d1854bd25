-- P1 to P9 of document 01, "Checked examples", what they leave open, and version 2, as three lists of claims, each with a test that is computed. The second has paths too.
use Rattle.std.specs.Prelude.{◌≡◌, Bool, true, false, not, ◌&&◌, List, [], ◌∷◌, ◌++◌, ℕ, zero, suc, ◌+◌, ◌*◌, ◌-◌, ◌/◌, ◌%◌, eqb, length, get_or, set, take, drop, replicate}
use Rattle.sizes.specs.Sizes.{prime, beta}
use Rattle.sizes.specs.Hash.{h, g, level}
use Rattle.sizes.specs.Header.{seed_bytes, table_long, header}
use Rattle.placement.specs.Labels.{label, home}
use Rattle.sizes.specs.declared.Sizes.{Sizes}
use Rattle.skiplist.specs.Image.{image, is_image, orders_in, same}
use Rattle.skiplist.specs.Questions.{Parameters, parameters, sizes, between, enough, lowest}
use Rattle.skiplist.specs.Paths.{descent_path}
use Rattle.skiplist.specs.Book.{Call, enter, amend, cancel, lookup, descent, span, seek, check, make_refusal, refusal, after}

-- the sizes and seed of document 01's run: γ, B, N, M are 2, 2, 2, 4, and both hashes are the key itself
unfoldable pub run_seed : List ℕ
run_seed = 0 ∷ 1 ∷ 0 ∷ 0 ∷ 0 ∷ 0 ∷ 1 ∷ 0 ∷ 0 ∷ 0 ∷ []

unfoldable pub run_sizes : Sizes
run_sizes = record { version = 1; gamma = 2; nodes = 2; orders = 2; blocks = 4; seed = run_seed }

-- the same of version 2
unfoldable pub priced_sizes : Sizes
priced_sizes = record { version = 2; gamma = 2; nodes = 2; orders = 2; blocks = 4; seed = run_seed }

unfoldable pub empty_table : List ℕ
empty_table = image run_sizes []

-- what a block shows: level, chunk number, first key, and its keys; or nothing
pub data Shows : Type 0 where
  bare : Shows
  shows : (level number first : ℕ) → (keys : List ℕ) → Shows

-- what is claimed
pub data Example : Type 0 where
  has_level : (key is : ℕ) → Example
  hashes : (key is : ℕ) → Example
  has_beta : (gamma orders is : ℕ) → Example
  makes : (asked : Parameters) → (long is : ℕ) → Example
  has_header : (asked : Parameters) → (held : ℕ) → List ℕ → Example
  leaves : (calls : List Call) → List Shows → Example
  leaves_bytes : (calls : List Call) → (at : ℕ) → List ℕ → Example
  answers : (calls : List Call) → (last : Call) → (is : ℕ) → Example
  alike : (one other : List Call) → Example
  unlike : (one other : List Call) → Example
  has_home : (level first number is : ℕ) → Example
  goes : (calls : List Call) → (key : ℕ) → (path : List ℕ) → Example
  finds : (calls : List Call) → (lo hi reserve : ℕ) → (key : ℕ) → Example

-- a block's bytes, against what is shown
unfoldable pub keys_at : (left : ℕ) → List ℕ → List ℕ → Bool
keys_at zero bs ks = same ks []
keys_at (suc n) bs [] = false
keys_at (suc n) bs (k ∷ ks) = eqb (((get_or bs 0 0 * 256 + get_or bs 1 0) * 256 + get_or bs 2 0) * 256 + get_or bs 3 0) k && keys_at n (drop 12 bs) ks

unfoldable pub block_is : List ℕ → Shows → Bool
block_is bs bare = same (take 32 bs) (replicate 32 0)
block_is bs (shows l n f ks) =
    same (take 8 bs) (l ∷ length ks ∷ n / 256 ∷ n % 256 ∷ f / 16777216 ∷ f / 65536 % 256 ∷ f / 256 % 256 ∷ f % 256 ∷ []) && keys_at (length ks) (drop 8 bs) ks

unfoldable pub blocks_are : List ℕ → List Shows → Bool
blocks_are bs [] = same bs []
blocks_are bs (x ∷ xs) = block_is bs x && blocks_are (drop 32 bs) xs

-- .. of a table of these sizes, made just before
unfoldable pub true_of : Sizes → Example → Bool
true_of s (has_level k l) = eqb (level s k) l
true_of s (hashes k v) = eqb (h s k) v && eqb (g s k) v
true_of s (has_beta c n l) = eqb (beta (record { version = 1; gamma = c; nodes = 2; orders = n; blocks = 4; seed = run_seed })) l
true_of s (makes q l n) = eqb (make_refusal q l) n
true_of s (has_header q n bs) = same (header (sizes q) n) bs
true_of s (leaves cs xs) = is_image (after cs (image s [])) && blocks_are (drop 53 (after cs (image s []))) xs
true_of s (leaves_bytes cs i bs) = same (take (length bs) (drop i (after cs (image s [])))) bs
true_of s (answers cs c l) = eqb (refusal c (after cs (image s []))) l
true_of s (alike cs ds) = same (after cs (image s [])) (after ds (image s []))
true_of s (unlike cs ds) = not (same (after cs (image s [])) (after ds (image s [])))
true_of s (has_home l f n i) = eqb (home s (label l f n)) i
true_of s (goes cs k path) = same (descent_path s (orders_in (after cs (image s []))) k) path
true_of s (finds cs lo hi r k) = eqb (lowest (enough r (between lo hi (orders_in (after cs (image s [])))))).key k

unfoldable pub every : Sizes → List Example → Bool
every s [] = true
every s (x ∷ xs) = true_of s x && every s xs

unfoldable pub p4 : List Shows
p4 = shows 1 0 0 (0 ∷ 3 ∷ []) ∷ shows 2 0 0 (0 ∷ 6 ∷ []) ∷ shows 1 0 6 (6 ∷ []) ∷ shows 3 0 0 (0 ∷ []) ∷ []

unfoldable pub enter_3 : Call
enter_3 = enter 3 100 20 0

unfoldable pub enter_6 : Call
enter_6 = enter 6 50 50 0

-- make with these sizes and the run's seed; and with the run's sizes, and v for seed number i
unfoldable pub sized : (gamma nodes orders blocks : ℕ) → Parameters
sized c b n m = parameters 1 c b n m (seed_bytes run_seed)

unfoldable pub with_number : (i v : ℕ) → Parameters
with_number i v = parameters 1 2 2 2 4 (seed_bytes (set run_seed i v))

unfoldable pub one_to_nine : List Example
one_to_nine =
    -- P1
    has_level 3 1 ∷ has_level 6 2 ∷ has_level 4 3 ∷ has_level 8 3 ∷ hashes 3 3 ∷ hashes 2147483646 2147483646
    -- P2
    ∷ has_beta 2 1 2 ∷ has_beta 2 65535 18 ∷ has_beta 64 65535 5 ∷ has_beta 2 2 3
    -- P3
    ∷ leaves [] (shows 1 0 0 (0 ∷ []) ∷ shows 2 0 0 (0 ∷ []) ∷ shows 3 0 0 (0 ∷ []) ∷ bare ∷ [])
    -- P4
    ∷ leaves (enter_3 ∷ enter_6 ∷ []) p4 ∷ leaves (enter_6 ∷ enter_3 ∷ []) p4 ∷ alike (enter_3 ∷ enter_6 ∷ []) (enter_6 ∷ enter_3 ∷ [])
    ∷ leaves_bytes (enter_3 ∷ enter_6 ∷ []) 73 (0 ∷ 0 ∷ 0 ∷ 3 ∷ 0 ∷ 0 ∷ 0 ∷ 100 ∷ 0 ∷ 0 ∷ 0 ∷ 20 ∷ [])
    -- P5
    ∷ leaves_bytes (enter_3 ∷ enter_6 ∷ cancel 3 ∷ []) 53 (1 ∷ 1 ∷ replicate 30 0) ∷ alike (enter_3 ∷ enter_6 ∷ cancel 3 ∷ []) (enter_6 ∷ [])
    -- P6
    ∷ answers (enter_3 ∷ []) (enter 4 10 0 0) 8 ∷ alike (enter_3 ∷ enter 4 10 0 0 ∷ []) (enter_3 ∷ [])
    -- P7
    ∷ answers [] (enter 0 1 1 0) 5 ∷ answers [] (enter 2147483647 1 1 0) 5 ∷ answers [] (enter 2147483646 1 1 0) 0
    ∷ has_level 2147483646 2 ∷ has_home 1 2147483646 0 3
    -- P8
    ∷ answers [] (enter 3 100 101 0) 6 ∷ answers [] (enter 3 100 100 0) 0
    -- P9
    ∷ makes (with_number 0 prime) 181 1 ∷ makes (with_number 0 (prime - 1)) 181 0
    ∷ makes (sized 2 2 2 2) 117 2 ∷ makes (sized 2 2 2 3) 149 0
    ∷ []

-- P1 TO P9 hold of the definitions together
unfoldable pub OneToNine : Type 0
OneToNine = every run_sizes one_to_nine ≡ true

-- ---- WHAT P1 TO P9 LEAVE OPEN: the header's bytes, the last value that is accepted and the first that is not, the other numbers

-- make with sizes that differ from each other, and ten seed numbers that do
unfoldable pub all_different : Parameters
all_different = parameters 1 3 5 700 1290 (seed_bytes (16909060 ∷ 5 ∷ 6 ∷ 7 ∷ 8 ∷ 9 ∷ 10 ∷ 11 ∷ 12 ∷ 13 ∷ []))

-- sizes, with the length of their table
unfoldable pub allows : (gamma nodes orders blocks is : ℕ) → Example
allows c b n m l = makes (sized c b n m) (table_long (sizes (sized c b n m))) l

-- each seed number is 0..p-1
unfoldable pub seed_limits : (left : ℕ) → List Example
seed_limits zero = []
seed_limits (suc i) = makes (with_number i (prime - 1)) 181 0 ∷ makes (with_number i prime) 181 1 ∷ seed_limits i

unfoldable pub left_open : List Example
left_open =
    -- all 53 bytes of the header: of the full run's table, and of the other make's, with 600 orders
    leaves_bytes (enter_6 ∷ enter_3 ∷ enter 4 10 0 0 ∷ []) 0
    (1 ∷ 0 ∷ 0 ∷ 0 ∷ 181 ∷ 2 ∷ 2 ∷ 0 ∷ 2 ∷ 0 ∷ 4 ∷ 0 ∷ 2
    ∷ 0 ∷ 0 ∷ 0 ∷ 0 ∷ 0 ∷ 0 ∷ 0 ∷ 1 ∷ 0 ∷ 0 ∷ 0 ∷ 0 ∷ 0 ∷ 0 ∷ 0 ∷ 0 ∷ 0 ∷ 0 ∷ 0 ∷ 0
    ∷ 0 ∷ 0 ∷ 0 ∷ 0 ∷ 0 ∷ 0 ∷ 0 ∷ 1 ∷ 0 ∷ 0 ∷ 0 ∷ 0 ∷ 0 ∷ 0 ∷ 0 ∷ 0 ∷ 0 ∷ 0 ∷ 0 ∷ 0 ∷ [])
    ∷ has_header all_different 600
    (1 ∷ 0 ∷ 1 ∷ 86 ∷ 221 ∷ 3 ∷ 5 ∷ 2 ∷ 188 ∷ 5 ∷ 10 ∷ 2 ∷ 88
    ∷ 1 ∷ 2 ∷ 3 ∷ 4 ∷ 0 ∷ 0 ∷ 0 ∷ 5 ∷ 0 ∷ 0 ∷ 0 ∷ 6 ∷ 0 ∷ 0 ∷ 0 ∷ 7 ∷ 0 ∷ 0 ∷ 0 ∷ 8
    ∷ 0 ∷ 0 ∷ 0 ∷ 9 ∷ 0 ∷ 0 ∷ 0 ∷ 10 ∷ 0 ∷ 0 ∷ 0 ∷ 11 ∷ 0 ∷ 0 ∷ 0 ∷ 12 ∷ 0 ∷ 0 ∷ 0 ∷ 13 ∷ [])
    -- make's 3: the length is 53 + M·(8 + 12·B)
    ∷ makes all_different 87772 3 ∷ makes all_different 87773 0 ∷ makes all_different 87774 3
    -- make's 2: γ 2..64, B 2..32, N 1..65,535, M β..65,535, where β is 18 for γ = 2 and N = 65,535
    ∷ allows 1 2 1 4 2 ∷ allows 2 2 1 4 0 ∷ allows 64 2 1 4 0 ∷ allows 65 2 1 4 2
    ∷ allows 2 1 1 4 2 ∷ allows 2 2 1 4 0 ∷ allows 2 32 1 4 0 ∷ allows 2 33 1 4 2
    ∷ allows 64 2 0 5 2 ∷ allows 64 2 1 5 0 ∷ allows 64 2 65535 5 0 ∷ allows 64 2 65536 5 2
    ∷ allows 2 2 65535 17 2 ∷ allows 2 2 65535 18 0 ∷ allows 2 2 2 65535 0 ∷ allows 2 2 2 65536 2
    -- make's 1: 40 bytes
    ∷ makes (parameters 1 2 2 2 4 (replicate 39 0)) 181 1 ∷ makes (parameters 1 2 2 2 4 (replicate 40 0)) 181 0 ∷ makes (parameters 1 2 2 2 4 (replicate 41 0)) 181 1
    -- 5 and 6: key 1..p-1, total 1..4,294,967,295, displayed 0..total
    ∷ answers [] (enter 0 1 1 0) 5 ∷ answers [] (enter 1 1 1 0) 0 ∷ answers [] (enter (prime - 1) 1 1 0) 0 ∷ answers [] (enter prime 1 1 0) 5
    ∷ answers [] (enter 3 0 0 0) 6 ∷ answers [] (enter 3 1 0 0) 0 ∷ answers [] (enter 3 4294967295 0 0) 0 ∷ answers [] (enter 3 4294967296 0 0) 6
    ∷ answers [] (enter 3 4294967295 4294967295 0) 0 ∷ answers [] (enter 3 7 8 0) 6
    -- 7, 9, 10, 11, 12; no question after 4
    ∷ answers (enter_6 ∷ enter_3 ∷ []) (enter 4 10 0 0) 7
    ∷ answers (enter_3 ∷ []) (cancel 6) 9 ∷ answers (enter_3 ∷ []) (lookup 6) 9 ∷ answers (enter_3 ∷ []) (lookup 3) 0
    ∷ answers [] (span 1 9 []) 0 ∷ answers [] (span 2 1 []) 10 ∷ answers [] (span 1 prime []) 5
    ∷ answers (enter_3 ∷ []) (span 1 9 (replicate 11 0)) 11 ∷ answers (enter_3 ∷ []) (span 3 3 (replicate 12 0)) 0
    ∷ answers (enter_3 ∷ []) (seek 1 9 80) 0 ∷ answers (enter_3 ∷ []) (seek 1 9 81) 12 ∷ answers (enter_3 ∷ []) check 0
    -- A.2 of document 02: a wholly hidden order has reserve 0, at any total; with r = 0 it is found; the others have what they do not display
    ∷ answers (enter 3 100 0 0 ∷ []) (seek 1 9 0) 0 ∷ answers (enter 3 100 0 0 ∷ []) (seek 1 9 1) 12 ∷ answers (enter 3 100 0 0 ∷ []) (seek 1 9 100) 12
    ∷ answers (enter 3 100 1 0 ∷ []) (seek 1 9 99) 0 ∷ answers (enter 3 100 1 0 ∷ []) (seek 1 9 100) 12
    ∷ answers (enter_6 ∷ []) (seek 1 9 0) 0 ∷ answers (enter_6 ∷ []) (seek 1 9 1) 12 ∷ answers [] (seek 1 9 0) 12
    -- A.4: a held key is 13, also where there are N orders, after 5 and 6; amend has 9 after 6, no 7 and no 8, and replaces both quantities
    ∷ answers (enter_6 ∷ enter_3 ∷ []) (enter 3 10 0 0) 13 ∷ answers (enter_3 ∷ []) (enter 3 7 8 0) 6 ∷ alike (enter_3 ∷ enter 3 10 0 0 ∷ []) (enter_3 ∷ [])
    ∷ answers (enter_6 ∷ enter_3 ∷ []) (amend 3 10 0 0) 0 ∷ answers (enter_3 ∷ []) (amend 6 10 0 0) 9 ∷ answers (enter_3 ∷ []) (amend 6 7 8 0) 6 ∷ answers [] (amend 0 1 1 0) 5
    ∷ alike (enter_3 ∷ amend 3 50 10 0 ∷ []) (enter 3 50 10 0 ∷ []) ∷ alike (enter_3 ∷ amend 6 50 50 0 ∷ []) (enter_3 ∷ [])
    -- A.5: the smaller key of two; of those that have the reserve; of those in lo..hi
    ∷ finds (enter_6 ∷ enter_3 ∷ []) 1 9 0 3 ∷ finds (enter 6 50 10 0 ∷ enter_3 ∷ []) 1 9 40 3
    ∷ finds (enter 6 50 10 0 ∷ enter 3 100 0 0 ∷ []) 1 9 1 6 ∷ finds (enter 6 50 10 0 ∷ enter 3 100 61 0 ∷ []) 1 9 40 6
    ∷ finds (enter_6 ∷ enter_3 ∷ []) 3 6 0 3 ∷ finds (enter_6 ∷ enter_3 ∷ []) 4 9 0 6 ∷ answers (enter_6 ∷ enter_3 ∷ []) (seek 4 5 0) 12
    -- the chunk number counts in a home, and quantities above level 1 are zero
    ∷ has_home 1 0 1 1 ∷ has_home 2 6 3 1
    ∷ leaves_bytes (enter_3 ∷ enter_6 ∷ []) 85 (2 ∷ 2 ∷ replicate 18 0 ++ (0 ∷ 0 ∷ 0 ∷ 6 ∷ replicate 8 0))
    -- A.1 of document 02: a key held above level 1 heads its own partition; a key that is not held; a chunk whose first key is larger is not on the path
    ∷ goes (enter_3 ∷ enter_6 ∷ []) 6 (3 ∷ 1 ∷ 2 ∷ []) ∷ goes (enter_3 ∷ enter_6 ∷ []) 5 (3 ∷ 1 ∷ 0 ∷ []) ∷ goes [] 9 (2 ∷ 1 ∷ 0 ∷ [])
    ∷ goes (enter_3 ∷ enter 1 1 1 0 ∷ []) 2 (3 ∷ 2 ∷ 0 ∷ []) ∷ goes (enter_3 ∷ enter 1 1 1 0 ∷ []) 3 (3 ∷ 2 ∷ 0 ∷ 1 ∷ [])
    -- .. and 5, 11, 9, in this order
    ∷ answers (enter_3 ∷ []) (descent 0 []) 5 ∷ answers (enter_3 ∷ []) (descent 6 (replicate 5 0)) 11 ∷ answers (enter_3 ∷ []) (descent 6 (replicate 6 0)) 9
    ∷ answers (enter_3 ∷ []) (descent 3 (replicate 6 0)) 0
    -- A.6: in version 1 a price is 14, before 5 and 6; another version than 1 or 2 is 2, after 1 and before 3
    ∷ answers [] (enter 3 100 20 7) 14 ∷ answers [] (enter 0 1 1 7) 14 ∷ answers [] (enter 3 7 8 7) 14 ∷ answers [] (amend 3 100 20 7) 14 ∷ answers [] (amend 0 7 8 1) 14
    ∷ makes (parameters 0 2 2 2 4 (seed_bytes run_seed)) 181 2 ∷ makes (parameters 3 2 2 2 4 (seed_bytes run_seed)) 213 2 ∷ makes (parameters 3 2 2 2 4 []) 213 1
    ∷ seed_limits 10

unfoldable pub ExamplesHold : Type 0
ExamplesHold = every run_sizes left_open ≡ true

-- ---- VERSION 2: document 02, A.6 and A.7

unfoldable pub priced_3 : Call
priced_3 = enter 3 100 20 7

unfoldable pub priced_6 : Call
priced_6 = enter 6 50 50 4294967295

unfoldable pub with_prices : List Example
with_prices =
    -- "with a length of 53 + M·(8 + 16·B)"
    makes (parameters 2 2 2 2 4 (seed_bytes run_seed)) 213 0 ∷ makes (parameters 2 2 2 2 4 (seed_bytes run_seed)) 181 3 ∷ leaves_bytes [] 0 (2 ∷ 0 ∷ 0 ∷ 0 ∷ 213 ∷ [])
    -- a block of level 1, whole: the front, and key, total, displayed, price; and one of level 2, with price 0
    ∷ leaves_bytes (priced_3 ∷ priced_6 ∷ []) 133 (1 ∷ 2 ∷ replicate 22 0 ++ (0 ∷ 0 ∷ 0 ∷ 3 ∷ 0 ∷ 0 ∷ 0 ∷ 100 ∷ 0 ∷ 0 ∷ 0 ∷ 20 ∷ 0 ∷ 0 ∷ 0 ∷ 7 ∷ []))
    ∷ leaves_bytes (priced_3 ∷ priced_6 ∷ []) 93 (2 ∷ 2 ∷ replicate 22 0 ++ (0 ∷ 0 ∷ 0 ∷ 6 ∷ replicate 12 0))
    ∷ alike (priced_3 ∷ priced_6 ∷ []) (priced_6 ∷ priced_3 ∷ []) ∷ alike (priced_3 ∷ priced_6 ∷ cancel 3 ∷ []) (priced_6 ∷ [])
    -- "Price 0 in version 2 answers 6", after 5; a price is 1..4,294,967,295
    ∷ answers [] (enter 3 100 20 0) 6 ∷ answers [] (enter 0 1 1 0) 5 ∷ answers [] (enter 3 100 20 1) 0 ∷ answers [] (enter 3 100 20 4294967295) 0 ∷ answers [] (enter 3 100 20 4294967296) 6
    ∷ answers (priced_3 ∷ []) (amend 3 100 20 0) 6 ∷ answers (priced_3 ∷ []) (amend 6 100 20 7) 9
    -- "amend replaces it along with the quantities"; two books that differ in a price alone
    ∷ alike (priced_3 ∷ amend 3 50 10 9 ∷ []) (enter 3 50 10 9 ∷ []) ∷ unlike (priced_3 ∷ amend 3 100 20 9 ∷ []) (priced_3 ∷ [])
    -- "Span rows in version 2 have 16 bytes, and 11 counts those"
    ∷ answers (priced_3 ∷ []) (span 1 9 (replicate 15 0)) 11 ∷ answers (priced_3 ∷ []) (span 1 9 (replicate 16 0)) 0
    -- A.7, "by higher level first": in blocks of 40 bytes the chunks of P3 and P4 stand as 3, 2, 1 and as 3, 2, 1 of the front, 1 of key 6, each from its old home on
    ∷ leaves_bytes [] 53 (3 ∷ 1 ∷ []) ∷ leaves_bytes [] 93 (2 ∷ 1 ∷ []) ∷ leaves_bytes [] 133 (1 ∷ 1 ∷ []) ∷ leaves_bytes [] 173 (replicate 40 0)
    ∷ leaves_bytes (priced_3 ∷ priced_6 ∷ []) 53 (3 ∷ 1 ∷ replicate 38 0) ∷ leaves_bytes (priced_3 ∷ priced_6 ∷ []) 173 (1 ∷ 1 ∷ 0 ∷ 0 ∷ 0 ∷ 0 ∷ 0 ∷ 6 ∷ [])
    ∷ goes (priced_3 ∷ priced_6 ∷ []) 6 (0 ∷ 1 ∷ 3 ∷ []) ∷ goes (priced_3 ∷ priced_6 ∷ []) 5 (0 ∷ 1 ∷ 2 ∷ []) ∷ has_home 1 6 0 2 ∷ has_home 2 0 0 0 ∷ has_home 3 0 0 0
    -- all else is as in version 1
    ∷ has_level 6 2 ∷ has_home 1 2147483646 0 3 ∷ finds (priced_6 ∷ priced_3 ∷ []) 1 9 0 3
    ∷ answers (priced_3 ∷ []) (enter 3 1 1 1) 13 ∷ answers (priced_6 ∷ priced_3 ∷ []) (enter 4 10 0 1) 7 ∷ answers (priced_3 ∷ []) (enter 4 10 0 1) 8 ∷ answers (priced_3 ∷ []) check 0
    ∷ []

unfoldable pub WithPrices : Type 0
WithPrices = every priced_sizes with_prices ≡ true
