-- Blocks in bytes: a head of 8 bytes with the label, nodes of w bytes each, and zeros. The laws of bytes over any coding are in Rows and Coded; here a node's is fixed, but for its width.
use Rattle.std.proofs.Common.{◌≡◌, ℕ, suc, ◌+◌, ◌*◌, ◌≤◌, List, [], length, get_or, set, refl, append_assoc, arith, length-append}
use lib.ListN.{length-replicate}
use Rattle.sizes.specs.declared.Sizes.{Sizes}
use Rattle.placement.specs.declared.Order.{Order}
use Rattle.placement.specs.declared.Label.{Label}
use Rattle.placement.specs.Blocks.{Block, empty, holds}
use Rattle.placement.specs.Labels.{label}
use Rattle.sizes.specs.Numbers.{field, value_from, big}
use Rattle.sizes.specs.Header.{block_long}
use Rattle.placement.specs.Chunks.{Chunk, block_bytes, all_bytes, nodes_bytes, node_bytes}
use Rattle.placement.specs.Decode.{head_label}
use Rattle.placement.specs.Place.{Store}
use Rattle.placement.specs.Maps.{Holdable}
use Rattle.sizes.proofs.Laws.Numbers.{field_big, length_big}
use Rattle.sizes.proofs.Laws.Sizes.{row_least}
use Rattle.sizes.proofs.Laws.HeaderLoops.{rows_left, rows_room}
use Rattle.sizes.specs.Sizes.{row}
use Rattle.placement.proofs.Laws.Rows.{length_rows}
use Rattle.placement.proofs.Laws.Coded.{Coding, All, listed}
use Rattle.placement.proofs.Laws.Coded
pub use Rattle.placement.proofs.Laws.Coded.{good_none, good_more}

-- LABELS: what the head of a block's bytes says is the chunk's label
abbrev pub label_of : Block Chunk → Label
label_of empty = label 0 0 0
label_of (holds c) = c.label

-- a block, and blocks, that bytes can hold
pub data Good (s : Sizes) : Block Chunk → Type 0 where
  free : Good s empty
  held : {c : Chunk} → Holdable s c → Good s (holds c)

abbrev pub AllGood : Sizes → List (Block Chunk) → Type 0
AllGood s bl = All (Good s) bl

-- a list of blocks as a store
abbrev pub places : Store (List (Block Chunk))
places = listed label_of

module _ (w : ℕ) (least : 12 ≤ w) where
  pub node_long : (o : Order) → length (node_bytes w o) ≡ w
  unfolding node_bytes big
  node_long o = simp (length-append, length_big) (omega arith)

  pub nodes_long : (os : List Order) → length (nodes_bytes w os) ≡ w * length os
  nodes_long os = length_rows w (node_bytes w) node_long os

module _ (s : Sizes) where
  number_of : (c : Chunk) → Holdable s c → field 2 2 (block_bytes s (holds c)) ≡ c.label.number
  unfolding block_bytes field
  number_of c k = rw (append_assoc, append_assoc) (field_big 2 c.label.number _ k.number)

  first_of : (c : Chunk) → Holdable s c → field 4 4 (block_bytes s (holds c)) ≡ c.label.first
  unfolding block_bytes field big
  first_of c k = field_big 4 c.label.first [] k.first

  pub head_of : {b : Block Chunk} → Good s b → head_label (block_bytes s b) ≡ label_of b
  unfolding head_label block_bytes block_long field value_from
  head_of free =
      let e : 8 + row s * s.nodes ≡ suc (suc (suc (suc (suc (suc (suc (suc (row s * s.nodes)))))))) = omega arith in
      rw e
  head_of (held {c = c} k) = rw (number_of c k, first_of c k)

  pub length_nodes : (os : List Order) → length (nodes_bytes (row s) os) ≡ row s * length os
  length_nodes os = nodes_long (row s) (row_least s) os

  pub length_block : {b : Block Chunk} → Good s b → length (block_bytes s b) ≡ block_long s
  unfolding block_bytes block_long big
  length_block free = length-replicate _ 0
  length_block (held {c = c} k) =
      simp (length-append, length_nodes, length-replicate) (omega (arith, rows_left (row s) (length c.nodes) s.nodes, rows_room (row s) (length c.nodes) s.nodes k.nodes))

  -- the coding of a block, in 8 bytes and a row for each node
  pub coding : Coding (block_long s) (block_bytes s) label_of (Good s)
  unfolding block_bytes block_long
  coding = record { wide = omega arith; clear = refl; free = free; long = λ k. length_block k; head = λ k. head_of k }

  pub good_at : {bl : List (Block Chunk)} → AllGood s bl → (i : ℕ) → Good s (get_or bl i empty)
  good_at v i = Coded.good_at coding v i

  pub good_set : {bl : List (Block Chunk)} {b : Block Chunk} → AllGood s bl → (i : ℕ) → Good s b → AllGood s (set bl i b)
  good_set v i k = Coded.good_set coding v i k

  pub blocks_long : {bl : List (Block Chunk)} → AllGood s bl → length (all_bytes s bl) ≡ length bl * block_long s
  blocks_long v = Coded.rows_long coding v
