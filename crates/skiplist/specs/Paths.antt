-- The way down to a key, as an image shows it. Document 02, A.1: "from level β down to 1, chunks 0 up to the one with the greatest key not above the one sought,
-- of the partition headed by the greatest such key one level higher (the front at level β)".
use Rattle.std.specs.Prelude.{◌≡◌, Bool, true, ◌&&◌, cond, List, [], ◌∷◌, ◌++◌, map, ℕ, zero, suc, ◌*◌, ◌≤◌, leb, length, get_or}
use Rattle.sizes.specs.Sizes.{beta, made}
use Rattle.sizes.specs.Numbers.{big, rows}
use Rattle.placement.specs.Blocks.{Block, empty, holds, Among}
use Rattle.placement.specs.Labels.{label, same_label}
use Rattle.placement.specs.Chunks.{Chunk}
use Rattle.sizes.specs.declared.Sizes.{Sizes}
use Rattle.placement.specs.declared.Order.{Order}
use Rattle.placement.specs.declared.Label.{Label}
use Rattle.skiplist.specs.Lists.{list_at, part, last_from, pieces, blocks}
use Rattle.skiplist.specs.Image.{orders_good, fits}
use Rattle.skiplist.specs.Questions.{Question, ask, is_key, held, between}

-- the greatest key of L_k that is not above y. No key has a level above β, so from there on it is the front's
unfoldable pub greatest : Sizes → List Order → (y k : ℕ) → ℕ
greatest s os y k = last_from 0 (between 0 y (list_at s k os))

-- the nodes not above y of the partition at level k that the greatest such key one level higher heads: the last of them is the greatest at level k
unfoldable pub nodes_upto : Sizes → List Order → (y k : ℕ) → List Order
nodes_upto s os y k = between 0 y (part s os k (greatest s os y (suc k)))

-- so many chunks of a partition, from number i on
unfoldable pub labels_from : (count : ℕ) → (level first i : ℕ) → List Label
labels_from zero l f i = []
labels_from (suc n) l f i = label l f i ∷ labels_from n l f (suc i)

-- from level k down to 1, the chunks of that partition up to the one that has the last of those nodes
unfoldable pub path_labels : Sizes → List Order → (y k : ℕ) → List Label
path_labels s os y zero = []
path_labels s os y (suc k) = labels_from (pieces s.nodes (length (nodes_upto s os y (suc k)))) (suc k) (greatest s os y (suc (suc k))) 0 ++ path_labels s os y k

-- the number of the block where a chunk stands
unfoldable pub stands_in : List (Block Chunk) → Label → ℕ
stands_in [] w = 0
stands_in (empty ∷ bs) w = suc (stands_in bs w)
stands_in (holds c ∷ bs) w = cond (same_label c.label w) 0 (suc (stands_in bs w))

-- THE PATH to a key in the image of some orders
unfoldable pub descent_path : Sizes → List Order → (y : ℕ) → List ℕ
descent_path s os y = map (stands_in (blocks s os)) (path_labels s os y (beta s))

-- "the numbers of the blocks on its path, two bytes each, big-endian"
unfoldable pub path_bytes : List ℕ → List ℕ
path_bytes is = rows (big 2) is

-- what a descent asks after 4, of a set of orders. "11 means two bytes a block are lacking"
unfoldable pub asks_descent : Sizes → (key room : ℕ) → List Order → List Question
asks_descent s k room os = ask 5 (is_key k) ∷ ask 11 (leb (2 * length (descent_path s os k)) room) ∷ ask 9 (held k os) ∷ []

-- ---- what is promised of a path

-- it has at most M blocks
unfoldable pub PathFits : Type 0
PathFits = (s : Sizes) (os : List Order) (y : ℕ) → made s ≡ true → orders_good s 1 os ≡ true → fits s os ≡ true → length (descent_path s os y) ≤ s.blocks

-- levels never rise along it
unfoldable pub goes_down : List Chunk → Bool
goes_down [] = true
goes_down (c ∷ []) = true
goes_down (c ∷ d ∷ cs) = leb d.label.level c.label.level && goes_down (d ∷ cs)

-- "so no level shows two partitions": each block of it holds a chunk, and all chunks of one level have one first key
pub record OneWay (s : Sizes) (os : List Order) (y : ℕ) : Type 0 where
  pub chunks : List Chunk
  pub there : map (λ i. get_or (blocks s os) i empty) (descent_path s os y) ≡ map (λ c. holds c) chunks
  pub falls : goes_down chunks ≡ true
  pub one_each : (c d : Chunk) → Among c chunks → Among d chunks → c.label.level ≡ d.label.level → c.label.first ≡ d.label.first

unfoldable pub PathOneWay : Type 0
PathOneWay = (s : Sizes) (os : List Order) (y : ℕ) → made s ≡ true → orders_good s 1 os ≡ true → fits s os ≡ true → OneWay s os y
