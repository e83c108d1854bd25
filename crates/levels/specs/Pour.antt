-- Nodes on the move, told by the map that a table keeps: a chunk taken out into a carry, a full chunk written from it, a partition's chunks poured behind a carry, and a row's first nodes written as a chunk.
use Rattle.std.specs.Prelude.{◌≡◌, List, [], ◌∷◌, ◌++◌, ℕ, suc, ◌+◌, ◌*◌, ◌≤◌, ◌<◌, length, take, drop}
use Rattle.sizes.specs.Sizes.{row}
use Rattle.placement.specs.Chunks.{nodes_bytes}
use Rattle.placement.specs.Place.{Shaped}
use Rattle.placement.specs.Maps.{Map, Table, Fines, nodes_of, with_nodes, cleared}
use Rattle.sizes.specs.declared.Sizes.{Sizes}
use Rattle.placement.specs.declared.Order.{Order}
use Rattle.placement.specs.declared.Label.{Label}
use Rattle.skiplist.specs.Parts.{pieces}
use Rattle.levels.specs.Edit.{Pieces}

-- a row of bytes begins with some nodes, of w bytes each
unfoldable pub Front : (w : ℕ) → List ℕ → List Order → Type 0
Front w cs c = take (w * length c) cs ≡ nodes_bytes w c

-- a chunk is 1, no chunk is 0
unfoldable pub one : List Order → ℕ
one [] = 0
one (o ∷ os) = 1

-- what the functions keep of any bytes: the form of the table, and the length of the carry
pub record Kept (s : Sizes) (bs' cs cs' : List ℕ) : Type 0 where
  pub shaped : Shaped s bs'
  pub long : length cs' ≡ length cs

-- the nodes of a chunk are read behind those of the carry
pub record Read (s : Sizes) (F : Map) (w : Label) (c : List Order) (cs : List ℕ) (r : ℕ) : Type 0 where
  pub front : Front (row s) cs (c ++ nodes_of F w)
  pub size : r ≡ length (c ++ nodes_of F w)

unfoldable pub Reads : Sizes → Label → (n : ℕ) → (bs cs cs' : List ℕ) → (r : ℕ) → Type 0
Reads s w n bs cs cs' r =
    (F : Map) (m : ℕ) (hd : List ℕ) (c : List Order) → Table s F m hd bs → 0 < w.level → Front (row s) cs c → n ≡ length c → Read s F w c cs' r

-- a chunk is taken out: its nodes stand behind those of the carry
pub record Taken (s : Sizes) (F : Map) (m : ℕ) (hd : List ℕ) (w : Label) (c : List Order) (bs cs : List ℕ) (r : ℕ) : Type 0 where
  pub full : ℕ
  pub table : Table s (cleared w F) full hd bs
  pub count : full + one (nodes_of F w) ≡ m
  pub front : Front (row s) cs (c ++ nodes_of F w)
  pub size : r ≡ length (c ++ nodes_of F w)

unfoldable pub Takes : Sizes → Label → (n : ℕ) → (bs bs' cs cs' : List ℕ) → (r : ℕ) → Type 0
Takes s w n bs bs' cs cs' r =
    (F : Map) (m : ℕ) (hd : List ℕ) (c : List Order) → Table s F m hd bs → 0 < w.level → Front (row s) cs c → n ≡ length c → Taken s F m hd w c bs' cs' r

-- a full chunk is written from the carry, if it has so many nodes
pub data Flushed (s : Sizes) (F : Map) (m : ℕ) (hd : List ℕ) (w : Label) (c : List Order) (bs cs : List ℕ) (r : ℕ) : Type 0 where
  waits : length c < s.nodes → r ≡ length c → Table s F m hd bs → Front (row s) cs c → Flushed s F m hd w c bs cs r
  writes : s.nodes ≤ length c → r ≡ length (drop s.nodes c) → Table s (with_nodes w (take s.nodes c) F) (suc m) hd bs → Front (row s) cs (drop s.nodes c)
      → Flushed s F m hd w c bs cs r

-- so many numbers a chunk can have, in two bytes
abbrev pub numbers : ℕ
numbers = 65536

-- a label that bytes can hold
pub record Writable (w : Label) : Type 0 where
  pub level : 0 < w.level
  pub first : w.first < 4294967296
  pub number : w.number < numbers

unfoldable pub Flushes : Sizes → Label → (n : ℕ) → (bs bs' cs cs' : List ℕ) → (r : ℕ) → Type 0
Flushes s w n bs bs' cs cs' r =
    (F : Map) (m : ℕ) (hd : List ℕ) (c : List Order) → Table s F m hd bs → Front (row s) cs c → n ≡ length c → Fines (row s) c
    → (s.nodes ≤ length c → Writable w × (nodes_of F w ≡ []) × (m < s.blocks)) → Flushed s F m hd w c bs' cs' r

-- what a pouring needs: chunks j.. of partition f hold `rest`, from chunk q on partition g, another, has no nodes, and there are blocks enough
pub record Pourable (s : Sizes) (F : Map) (m : ℕ) (k f j count g q : ℕ) (c rest : List Order) : Type 0 where
  pub level : 0 < k
  pub first : g < 4294967296
  pub fine : Fines (row s) c
  pub few : q + pieces s.nodes (length (c ++ rest)) ≤ numbers
  pub some : 0 < s.nodes
  pub short : length c < 2 * s.nodes
  pub chunks : count ≡ pieces s.nodes (length rest)
  pub apart : f ≡ g → ⊥
  pub source : Pieces F s.nodes k f j rest
  pub target : (i : ℕ) → q ≤ i → F k g i ≡ []
  pub room : m + pieces s.nodes (length (c ++ rest)) ≤ s.blocks + pieces s.nodes (length rest)

pub record Poured (s : Sizes) (F : Map) (m : ℕ) (hd : List ℕ) (k f j g q : ℕ) (c rest : List Order) (bs : List ℕ) : Type 0 where
  pub map : Map
  pub full : ℕ
  pub table : Table s map full hd bs
  pub there : Pieces map s.nodes k g q (c ++ rest)
  pub gone : Pieces map s.nodes k f j []
  pub elsewhere : (l h i : ℕ) → (l ≡ k → h ≡ g → q ≤ i → ⊥) → (l ≡ k → h ≡ f → j ≤ i → ⊥) → map l h i ≡ F l h i
  pub count : full + pieces s.nodes (length rest) ≡ m + pieces s.nodes (length (c ++ rest))

unfoldable pub Pours : Sizes → (k f j count g q n : ℕ) → (bs bs' cs : List ℕ) → Type 0
Pours s k f j count g q n bs bs' cs =
    (F : Map) (m : ℕ) (hd : List ℕ) (c rest : List Order) → Table s F m hd bs → Front (row s) cs c → n ≡ length c → Pourable s F m k f j count g q c rest
    → Poured s F m hd k f j g q c rest bs'

-- the first nodes of a row are written under a label, if there are any
pub record Put (s : Sizes) (F : Map) (m : ℕ) (hd : List ℕ) (w : Label) (ns : List Order) (bs : List ℕ) : Type 0 where
  pub full : ℕ
  pub table : Table s (with_nodes w ns F) full hd bs
  pub count : full ≡ m + one ns

unfoldable pub Puts : Sizes → Label → (n : ℕ) → (bs bs' cs : List ℕ) → Type 0
Puts s w n bs bs' cs =
    (F : Map) (m : ℕ) (hd : List ℕ) (c : List Order) → Table s F m hd bs → Front (row s) cs c → n ≤ length c → Fines (row s) c → nodes_of F w ≡ [] → (0 < n → Writable w × (m < s.blocks))
    → Put s F m hd w (take n c) bs'
