-- Nodes on the move where labels stay, told by the map that a table keeps: a chunk set to some nodes, the first nodes of a carry written over a chunk, and all chunks of a partition from one on.
use Rattle.std.specs.Prelude.{◌≡◌, List, [], ◌++◌, ℕ, ◌+◌, ◌≤◌, ◌<◌, length, take, drop}
use Rattle.sizes.specs.Sizes.{row}
use Rattle.placement.specs.Maps.{Map, Table, Fines, nodes_of, with_nodes}
use Rattle.sizes.specs.declared.Sizes.{Sizes}
use Rattle.placement.specs.declared.Order.{Order}
use Rattle.placement.specs.declared.Label.{Label}
use Rattle.skiplist.specs.Parts.{pieces}
use Rattle.levels.specs.Edit.{Pieces}
use Rattle.levels.specs.Pour.{Front, one, numbers, Writable}

-- A CHUNK IS SET to some nodes, or cleared where there are none
pub record Stored (s : Sizes) (F : Map) (m : ℕ) (hd : List ℕ) (w : Label) (ns : List Order) (bs : List ℕ) : Type 0 where
  pub full : ℕ
  pub table : Table s (with_nodes w ns F) full hd bs
  pub count : full + one (nodes_of F w) ≡ m + one ns

-- what that needs: a label that bytes can hold, and an empty block for a label that is absent
pub record Settable (s : Sizes) (F : Map) (m : ℕ) (w : Label) (n : ℕ) : Type 0 where
  pub level : 0 < w.level
  pub label : 0 < n → Writable w
  pub room : 0 < n → nodes_of F w ≡ [] → m < s.blocks

unfoldable pub Stores : Sizes → Label → (n : ℕ) → (bs bs' cs : List ℕ) → Type 0
Stores s w n bs bs' cs =
    (F : Map) (m : ℕ) (hd : List ℕ) (c : List Order) → Table s F m hd bs → Front (row s) cs c → n ≤ length c → Fines (row s) c → Settable s F m w n → Stored s F m hd w (take n c) bs'

-- A CHUNK IS SET to the first nodes of a carry, at most B, and the others are the carry
pub record Renewed (s : Sizes) (F : Map) (m : ℕ) (hd : List ℕ) (w : Label) (c : List Order) (bs cs : List ℕ) (r : ℕ) : Type 0 where
  pub stored : Stored s F m hd w (take s.nodes c) bs
  pub front : Front (row s) cs (drop s.nodes c)
  pub size : r ≡ length (drop s.nodes c)

unfoldable pub Renews : Sizes → Label → (n : ℕ) → (bs bs' cs cs' : List ℕ) → (r : ℕ) → Type 0
Renews s w n bs bs' cs cs' r =
    (F : Map) (m : ℕ) (hd : List ℕ) (c : List Order) → Table s F m hd bs → Front (row s) cs c → n ≡ length c → Fines (row s) c → Settable s F m w n → Renewed s F m hd w c bs' cs' r

-- A PARTITION FROM CHUNK q ON: it held the nodes `old`, and holds `new`, which are the n nodes of a carry and what came after chunk q
pub record Shiftable (s : Sizes) (F : Map) (m k f q count : ℕ) (c old new : List Order) : Type 0 where
  pub level : 0 < k
  pub first : f < 4294967296
  pub fine : Fines (row s) c
  pub short : length c ≤ s.nodes + 1
  pub two : 2 ≤ s.nodes
  pub few : q + pieces s.nodes (length new) ≤ numbers
  pub chunks : count ≡ pieces s.nodes (length (drop s.nodes old))
  pub source : Pieces F s.nodes k f q old
  pub is : c ++ drop s.nodes old ≡ new
  pub room : m + pieces s.nodes (length new) ≤ s.blocks + pieces s.nodes (length old)

pub record Shifted (s : Sizes) (F : Map) (m : ℕ) (hd : List ℕ) (k f q : ℕ) (old new : List Order) (bs : List ℕ) : Type 0 where
  pub map : Map
  pub full : ℕ
  pub table : Table s map full hd bs
  pub there : Pieces map s.nodes k f q new
  pub elsewhere : (l h i : ℕ) → (l ≡ k → h ≡ f → q ≤ i → ⊥) → map l h i ≡ F l h i
  pub count : full + pieces s.nodes (length old) ≡ m + pieces s.nodes (length new)

unfoldable pub Shifts : Sizes → (k f q count n : ℕ) → (bs bs' cs : List ℕ) → Type 0
Shifts s k f q count n bs bs' cs =
    (F : Map) (m : ℕ) (hd : List ℕ) (c old new : List Order) → Table s F m hd bs → Front (row s) cs c → n ≡ length c → Shiftable s F m k f q count c old new
    → Shifted s F m hd k f q old new bs'
