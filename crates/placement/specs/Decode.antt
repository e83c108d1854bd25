-- Blocks read back from bytes.
use Rattle.std.specs.Prelude.{ℕ, ◌-◌, cond, List, map, take, drop, ◌==◌, slice_index}
use Rattle.sizes.specs.Numbers.{field, rows_in}
use Rattle.sizes.specs.Sizes.{row}
use Rattle.sizes.specs.Header.{block_long}
use Rattle.placement.specs.Blocks.{Block, empty, holds}
use Rattle.placement.specs.Labels.{label}
use Rattle.placement.specs.Chunks.{Chunk}
use Rattle.sizes.specs.declared.Sizes.{Sizes}
use Rattle.placement.specs.declared.Order.{Order}
use Rattle.placement.specs.declared.Label.{Label}

-- a node of w bytes; where w is 12 the price is the number in no bytes, 0
unfoldable pub node_in : (w : ℕ) → List ℕ → Order
node_in w bs = record { key = field 0 4 bs; total = field 4 4 bs; displayed = field 8 4 bs; price = field 12 (w - 12) bs }

-- the node at a place, and so many from there on
unfoldable pub node_of : (w : ℕ) → List ℕ → (at : ℕ) → Order
node_of w bs a = node_in w (drop a bs)

abbrev pub nodes_from : (w left : ℕ) → List ℕ → List Order
nodes_from w n bs = rows_in w (node_in w) n bs

-- the label at the front of a block's bytes
unfoldable pub head_label : List ℕ → Label
head_label x = label (slice_index x 0) (field 4 4 x) (field 2 2 x)

-- the chunk that a block's bytes say, and the block: level 0 stands for an empty one
unfoldable pub chunk_of : (w : ℕ) → List ℕ → Chunk
chunk_of w x = record { label = head_label x; nodes = nodes_from w (slice_index x 1) (drop 8 x) }

unfoldable pub block_of : (w : ℕ) → List ℕ → Block Chunk
block_of w x = cond (slice_index x 0 == 0) empty (holds (chunk_of w x))

-- a list in m parts of w
abbrev pub cut : (w m : ℕ) → List ℕ → List (List ℕ)
cut w m l = rows_in w (take w) m l

-- the blocks of a table
unfoldable pub blocks_in : Sizes → List ℕ → List (Block Chunk)
blocks_in s bs = map (block_of (row s)) (cut (block_long s) s.blocks (drop 53 bs))
