-- Chunks, and the bytes of a block. Document 01, "Lists, partitions, chunks" and "Bytes of the table".
use Rattle.std.specs.Prelude.{ℕ, ◌-◌, ◌*◌, Bool, List, [], ◌∷◌, ◌++◌, length, replicate}
use Rattle.sizes.specs.Numbers.{big, rows}
use Rattle.sizes.specs.Sizes.{row}
use Rattle.sizes.specs.Header.{block_long}
use Rattle.placement.specs.Blocks.{Block, empty, holds}
use Rattle.placement.specs.Labels.{before, home}
use Rattle.sizes.specs.declared.Sizes.{Sizes}
use Rattle.placement.specs.declared.Order.{Order}
use Rattle.placement.specs.declared.Label.{Label}

-- a chunk: its label (level, first key of its partition, chunk number), and its nodes
pub record Chunk : Type 0 where
  pub label : Label
  pub nodes : List Order

-- chunks go by their labels
abbrev pub chunk_before : Sizes → Chunk → Chunk → Bool
chunk_before s a b = before s a.label b.label

abbrev pub chunk_home : Sizes → Chunk → ℕ
chunk_home s c = home s c.label

-- BYTES: a node of w bytes is key, total, displayed, four bytes each, and the price in what is left; where w is 12, that is none
unfoldable pub node_bytes : (w : ℕ) → Order → List ℕ
node_bytes w o = big 4 o.key ++ big 4 o.total ++ big 4 o.displayed ++ big (w - 12) o.price

abbrev pub nodes_bytes : (w : ℕ) → List Order → List ℕ
nodes_bytes w ns = rows (node_bytes w) ns

-- a block: level, node count, chunk number, first key, the nodes, and zeros; an empty one is all zero
unfoldable pub block_bytes : Sizes → Block Chunk → List ℕ
block_bytes s empty = replicate (block_long s) 0
block_bytes s (holds c) =
    (c.label.level ∷ length c.nodes ∷ []) ++ big 2 c.label.number ++ big 4 c.label.first ++ nodes_bytes (row s) c.nodes
    ++ replicate (row s * (s.nodes - length c.nodes)) 0

abbrev pub all_bytes : Sizes → List (Block Chunk) → List ℕ
all_bytes s bs = rows (block_bytes s) bs
