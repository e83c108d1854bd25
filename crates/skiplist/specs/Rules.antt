-- Rules 1, 2 and 3 of "When bytes are an image" in document 01, as properties of bytes; and the rules of levels, lists and partitions
-- that source document 000 publishes. Each statement is a type; its proof stands in proofs/.
use Rattle.std.specs.Prelude.{◌≡◌, true, ◌&&◌, cond, List, [], ◌∷◌, ◌++◌, map, ◌⊎◌, ℕ, suc, ◌+◌, ◌*◌, ◌-◌, ◌%◌, ◌^◌, ◌≤◌, ◌<◌, ltb, leb, length, get_or, take, drop}
use Rattle.sizes.specs.Sizes.{prime, beta, made}
use Rattle.sizes.specs.Hash.{h, g, level}
use Rattle.sizes.specs.Header.{header, sizes_in}
use Rattle.placement.specs.Blocks.{Block, empty, holds, holds_smaller, Among}
use Rattle.placement.specs.Chunks.{Chunk, chunk_home, chunk_before, all_bytes}
use Rattle.sizes.specs.declared.Sizes.{Sizes}
use Rattle.placement.specs.declared.Order.{Order}
use Rattle.skiplist.specs.Lists.{front, list_at, partitions, first_key, masked, chunks}
use Rattle.skiplist.specs.Image.{image, is_image, orders_in, orders_good}

-- RULES 1, 2, 3, read off bytes: no placement and no reading back stands in this record
pub record Rules (s : Sizes) (os : List Order) (x : List ℕ) : Type 0 where
  -- rule 1: allowed sizes and seed, n at most N, and the header and blocks in their byte form
  pub allowed : made s ≡ true
  pub good : orders_good s 1 os ≡ true
  pub few : length os ≤ s.orders
  pub table : List (Block Chunk)
  pub bytes : x ≡ header s (length os) ++ all_bytes s table
  pub number : length table ≡ s.blocks
  -- rule 2: each chunk stands in a block, nothing else does, and none stands in two
  pub there : (c : Chunk) → Among c (chunks s os) → (j : ℕ) × (j < length table) × (get_or table j empty ≡ holds c)
  pub only : (j : ℕ) (c : Chunk) → get_or table j empty ≡ holds c → Among c (chunks s os)
  pub once : (i j : ℕ) (c : Chunk) → get_or table i empty ≡ holds c → get_or table j empty ≡ holds c → i ≡ j
  -- rule 3: going round from home, up to just before the chunk's own block, every block holds a smaller label, as the version compares them
  pub smaller : (j : ℕ) (c : Chunk) → get_or table j empty ≡ holds c → (t : ℕ) → ((u : ℕ) → u ≤ t → (chunk_home s c + u) % s.blocks ≡ j → ⊥) →
      holds_smaller (chunk_before s) c (get_or table ((chunk_home s c + t) % s.blocks) empty) ≡ true

-- question 4 is document 01's definition of an image, and its sizes and orders are the only ones
unfoldable pub ImageExactly : Type 0
ImageExactly =
    ((x : List ℕ) → is_image x ≡ true → Rules (sizes_in x) (orders_in x) x)
    × ((s : Sizes) (os : List Order) (x : List ℕ) → Rules s os x → (is_image x ≡ true) × (sizes_in x ≡ s) × (orders_in x ≡ os) × (x ≡ image s os))

-- THE PAPER'S SETS, section 3.2: {x in L_k : x_i ≤ x < x_(i+1)} for x_i in L_(k+1), and {x in L_k : x_t ≤ x} for its last
unfoldable pub from_to : (lo hi : ℕ) → List Order → List Order
from_to lo hi [] = []
from_to lo hi (o ∷ os) = cond (leb lo o.key && ltb o.key hi) (o ∷ from_to lo hi os) (from_to lo hi os)

unfoldable pub from_on : (lo : ℕ) → List Order → List Order
from_on lo [] = []
from_on lo (o ∷ os) = cond (leb lo o.key) (o ∷ from_on lo os) (from_on lo os)

unfoldable pub paper_sets : (upper lower : List Order) → List (List Order)
paper_sets [] ys = []
paper_sets (x ∷ []) ys = from_on x.key ys ∷ []
paper_sets (x ∷ y ∷ xs) ys = from_to x.key y.key ys ∷ paper_sets (y ∷ xs) ys

unfoldable pub PaperPartitions : Type 0
PaperPartitions =
    (s : Sizes) (os : List Order) (k : ℕ) → orders_good s 1 os ≡ true → k < beta s → partitions s k (list_at s k os) ≡ paper_sets (list_at s (suc k) os) (list_at s k os)

unfoldable pub PaperTop : Type 0
PaperTop = (s : Sizes) (os : List Order) → orders_good s 1 os ≡ true → partitions s (beta s) (list_at s (beta s) os) ≡ list_at s (beta s) os ∷ []

-- β is ⌈log_γ N⌉ + 2
unfoldable pub BetaIs : Type 0
BetaIs = (s : Sizes) → made s ≡ true → (2 ≤ beta s) × (s.orders ≤ s.gamma ^ (beta s - 2)) × ((e : ℕ) → s.orders ≤ s.gamma ^ e → beta s - 2 ≤ e)

-- the level is 1 and the largest j up to β - 1 such that γ^j divides h(x)
unfoldable pub LevelIs : Type 0
LevelIs =
    (s : Sizes) (x : ℕ) → made s ≡ true → 1 ≤ x →
    (j : ℕ) × (level s x ≡ suc j) × (j ≤ beta s - 1) × (h s x % s.gamma ^ j ≡ 0) × ((i : ℕ) → i ≤ beta s - 1 → h s x % s.gamma ^ i ≡ 0 → i ≤ j)

-- both hashes are polynomials of degree 4, as document 01 writes them
unfoldable pub poly : (a0 a1 a2 a3 a4 x : ℕ) → ℕ
poly a0 a1 a2 a3 a4 x = (a0 + a1 * x + a2 * x ^ 2 + a3 * x ^ 3 + a4 * x ^ 4) % prime

unfoldable pub HashIs : Type 0
HashIs =
    (s : Sizes) (x : ℕ) →
    (h s x ≡ poly (get_or s.seed 0 0) (get_or s.seed 1 0) (get_or s.seed 2 0) (get_or s.seed 3 0) (get_or s.seed 4 0) x)
    × (g s x ≡ poly (get_or s.seed 5 0) (get_or s.seed 6 0) (get_or s.seed 7 0) (get_or s.seed 8 0) (get_or s.seed 9 0) x)

-- L_k: the front and the orders of level k or more, and nothing else
unfoldable pub ListsAre : Type 0
ListsAre =
    (s : Sizes) (os : List Order) (k : ℕ) (o : Order) →
    (Among o (list_at s k os) → (o ≡ front) ⊎ (Among o os × (k ≤ level s o.key))) × ((o ≡ front) ⊎ (Among o os × (k ≤ level s o.key)) → Among o (list_at s k os))

-- a chunk of level k: piece number i of a partition of L_k, of at most B nodes, and not empty; quantities 0 above level 1
pub record Piece (s : Sizes) (os : List Order) (c : Chunk) : Type 0 where
  pub part : List Order
  pub low : 1 ≤ c.label.level
  pub high : c.label.level ≤ beta s
  pub of_level : Among part (partitions s c.label.level (list_at s c.label.level os))
  pub first_is : c.label.first ≡ first_key part
  pub inside : c.label.number * s.nodes < length part
  pub nodes_are : c.nodes ≡ map (masked c.label.level) (take s.nodes (drop (c.label.number * s.nodes) part))

-- the chunks are exactly these pieces
unfoldable pub ChunksAre : Type 0
ChunksAre =
    (s : Sizes) (os : List Order) (c : Chunk) → made s ≡ true → (Among c (chunks s os) → Piece s os c) × (Piece s os c → Among c (chunks s os))
