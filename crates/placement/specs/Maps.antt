-- What placement promises the layer above: a table told as a map from labels to nodes, [] for a label that is absent, and the bytes that keep one.
use Rattle.std.specs.Prelude.{◌≡◌, ℕ, ◌-◌, ◌^◌, ◌<◌, ◌≤◌, true, ◌≢◌, List, [], ◌++◌, length, Option, Some, None}
use Rattle.placement.specs.Blocks.{Block, holds}
use Rattle.sizes.specs.Numbers.{Each}
use Rattle.placement.specs.Kinds.{Kind}
use Rattle.placement.specs.Kinds
use Rattle.sizes.specs.Sizes.{row, made}
use Rattle.sizes.specs.Header.{sizes_in, block_long}
use Rattle.placement.specs.Labels.{label, same_label}
use Rattle.placement.specs.Chunks.{Chunk, chunk_home, chunk_before, block_bytes, all_bytes}
use Rattle.sizes.specs.Parts.{block_in}
use Rattle.sizes.specs.declared.Sizes.{Sizes}
use Rattle.placement.specs.declared.Order.{Order}
use Rattle.placement.specs.declared.Label.{Label}

-- THE TABLE'S CHUNKS: labels of level, first key and chunk number, and rows that are orders. A map takes the three parts of a label
abbrev pub Map : Type 0
Map = (level first number : ℕ) → List Order

-- a label with nodes; a map of labels
abbrev pub labelled : Label → List Order → Chunk
labelled w ns = record { label = w; nodes = ns }

abbrev pub nodes_of : Map → Label → List Order
nodes_of F w = F w.level w.first w.number

abbrev pub chunk : Map → (level first number : ℕ) → Chunk
chunk F l f i = labelled (label l f i) (F l f i)

abbrev pub by_parts : (Label → List Order) → Map
by_parts G l f i = G (label l f i)

abbrev pub chunk_kind : Kind Chunk Label Order
chunk_kind = record { label = λ c. c.label; rows = λ c. c.nodes; make = λ w ns. labelled w ns; has = λ c w. same_label c.label w }

-- the table holds what the map tells
abbrev pub Holds : (m : ℕ) → List (Block Chunk) → Map → Type 0
Holds m bs F = Kinds.Holds chunk_kind m bs (nodes_of F)

-- a table of sizes s that keeps rule 3 and holds the map F in n blocks
abbrev pub Keeps : Sizes → List (Block Chunk) → Map → (n : ℕ) → Type 0
Keeps s bs F n = Kinds.Keeps chunk_kind (chunk_home s) (chunk_before s) s.blocks bs (nodes_of F) n

-- the map with a chunk put in, the map with a label taken out, and the map of some chunks
unfoldable pub with_chunk : Chunk → Map → Map
with_chunk c F = by_parts (Kinds.with_chunk chunk_kind c (nodes_of F))

unfoldable pub without_label : Chunk → Map → Map
without_label c F = by_parts (Kinds.without_label chunk_kind c (nodes_of F))

unfoldable pub map_of : List Chunk → Map
map_of cs = by_parts (Kinds.map_of chunk_kind cs)

-- a node that w bytes can hold: numbers of four bytes, and a price of what is left; it is 0 where w is 12
pub record Fine (w : ℕ) (o : Order) : Type 0 where
  pub key : o.key < 4294967296
  pub total : o.total < 4294967296
  pub displayed : o.displayed < 4294967296
  pub price : o.price < 256 ^ (w - 12)

abbrev pub Fines : (w : ℕ) → List Order → Type 0
Fines w os = Each (Fine w) os

-- a chunk that the bytes of a block can hold
pub record Holdable (s : Sizes) (c : Chunk) : Type 0 where
  pub level : 0 < c.label.level
  pub first : c.label.first < 4294967296
  pub number : c.label.number < 65536
  pub fine : Fines (row s) c.nodes
  pub nodes : length c.nodes ≤ s.nodes

-- every chunk of the map is one that a block can hold
abbrev pub Sound : Sizes → Map → Type 0
Sound s F = (l f i : ℕ) → F l f i ≢ [] → Holdable s (chunk F l f i)

-- the map with nodes under a label, and with the label cleared
abbrev pub with_nodes : Label → List Order → Map → Map
with_nodes w ns F = with_chunk (labelled w ns) F

abbrev pub cleared : Label → Map → Map
cleared w F = without_label (labelled w []) F

-- BYTES OF A TABLE: a header of 53 bytes that has the sizes s, and blocks that keep the map F, n of them full
pub record Table (s : Sizes) (F : Map) (n : ℕ) (hd bs : List ℕ) : Type 0 where
  pub good : made s ≡ true
  pub head : length hd ≡ 53
  pub sizes : sizes_in hd ≡ s
  pub sound : Sound s F
  pub blocks : List (Block Chunk)
  pub is : bs ≡ hd ++ all_bytes s blocks
  pub keeps : Keeps s blocks F n

-- WHAT A SEARCH FINDS: the block with the label and its nodes, or nothing where the map has nothing
pub data Finds (s : Sizes) (F : Map) (w : Label) (bs : List ℕ) : Option ℕ → Type 0 where
  is_at : {i : ℕ} → i < s.blocks → nodes_of F w ≢ [] → block_in (block_long s) bs i ≡ block_bytes s (holds (labelled w (nodes_of F w))) → Finds s F w bs (Some i)
  is_none : nodes_of F w ≡ [] → Finds s F w bs None
