-- Lists, partitions, chunks. Document 01, "Lists, partitions, chunks".
use Rattle.std.specs.Prelude.{Bool, ◌&&◌, ◌||◌, cond, List, [], ◌∷◌, ◌++◌, map, ℕ, zero, suc, ◌/◌, ltb, leb, eqb, length, take, drop, replicate}
use Rattle.sizes.specs.Orders.{sorted}
use Rattle.sizes.specs.Sizes.{beta}
use Rattle.sizes.specs.Hash.{level}
use Rattle.placement.specs.Blocks.{Block, empty, placed}
use Rattle.placement.specs.Labels.{label}
use Rattle.placement.specs.Chunks.{Chunk, chunk_home, chunk_before}
use Rattle.sizes.specs.declared.Sizes.{Sizes}
use Rattle.placement.specs.declared.Order.{Order}

-- the front element has key 0 and is no order
unfoldable pub front : Order
front = record { key = 0; total = 0; displayed = 0; price = 0 }

-- L_k: the front and all held keys of level k or more, rising
unfoldable pub at_least : Sizes → (k : ℕ) → List Order → List Order
at_least s k [] = []
at_least s k (o ∷ os) = cond (leb k (level s o.key)) (o ∷ at_least s k os) (at_least s k os)

unfoldable pub list_at : Sizes → (k : ℕ) → (orders : List Order) → List Order
list_at s k os = front ∷ at_least s k os

-- PARTITIONS: one starts at each element of L_k that is also in L_(k+1), the front among them; L_β is one
unfoldable pub starts_one : Sizes → (k : ℕ) → Order → Bool
starts_one s k o = eqb o.key 0 || (ltb k (beta s) && ltb k (level s o.key))

-- a partition runs to just before the next element that starts one
unfoldable pub run : (Order → Bool) → List Order → List Order
run st [] = []
run st (x ∷ xs) = cond (st x) [] (x ∷ run st xs)

unfoldable pub rest : (Order → Bool) → List Order → List (List Order)
rest st [] = []
rest st (x ∷ xs) = cond (st x) ((x ∷ run st xs) ∷ rest st xs) (rest st xs)

unfoldable pub partitions : Sizes → (k : ℕ) → List Order → List (List Order)
partitions s k xs = rest (starts_one s k) xs

unfoldable pub first_key : List Order → ℕ
first_key [] = 0
first_key (o ∷ os) = o.key

-- the one of level l that key f heads, nothing where it heads none
unfoldable pub pick : (f : ℕ) → List (List Order) → List Order
pick f [] = []
pick f (p ∷ ps) = cond (eqb (first_key p) f) p [] ++ pick f ps

unfoldable pub part : Sizes → (orders : List Order) → (l f : ℕ) → List Order
part s os l f = pick f (partitions s l (list_at s l os))

-- the last key of some, k where there is none
unfoldable pub last_from : (k : ℕ) → List Order → ℕ
last_from k [] = k
last_from k (x ∷ xs) = last_from x.key xs

-- both quantities are 0 at levels above 1; and so is the price, document 02, A.6: "price is 0 above level 1 and for the front"
unfoldable pub masked : (level : ℕ) → Order → Order
masked l o =
    record { key = o.key; total = cond (eqb l 1) o.total 0; displayed = cond (eqb l 1) o.displayed 0; price = cond (eqb l 1) o.price 0 }

-- CHUNKS 0, 1, .. of a partition's nodes: all of B nodes but the last, which has 1..B
unfoldable pub chunks_of : (fuel : ℕ) → (b : ℕ) → (level first number : ℕ) → (nodes : List Order) → List Chunk
chunks_of zero b l f i ns = []
chunks_of (suc k) b l f i [] = []
chunks_of (suc k) b l f i (n ∷ ns) =
    record { label = label l f i; nodes = take b (n ∷ ns) } ∷ chunks_of k b l f (suc i) (drop b (n ∷ ns))

-- how many they are: the number of nodes over B, rounded up
unfoldable pub pieces : (b n : ℕ) → ℕ
pieces b zero = 0
pieces b (suc n) = suc (n / b)

-- the chunks of some partitions of a level
unfoldable pub all_chunks : Sizes → (l : ℕ) → List (List Order) → List Chunk
all_chunks s l [] = []
all_chunks s l (p ∷ ps) = chunks_of (length p) s.nodes l (first_key p) 0 (map (masked l) p) ++ all_chunks s l ps

-- all chunks: levels from 1, partitions by rising first keys, rising numbers
unfoldable pub chunks_from : (left l : ℕ) → Sizes → (orders : List Order) → List Chunk
chunks_from zero l s os = []
chunks_from (suc k) l s os = all_chunks s l (partitions s l (list_at s l os)) ++ chunks_from k (suc l) s os

unfoldable pub chunks : Sizes → (orders : List Order) → List Chunk
chunks s os = chunks_from (beta s) 1 s os

-- by rising labels, as the version compares them
abbrev pub in_order : Sizes → (orders : List Order) → List Chunk
in_order s os = sorted (chunk_before s) (chunks s os)

-- THE BLOCKS of some orders: chunks by rising labels, each in the first free block from its home on
unfoldable pub blocks : Sizes → (orders : List Order) → List (Block Chunk)
blocks s os = placed (chunk_home s) s.blocks (in_order s os) (replicate s.blocks empty)
