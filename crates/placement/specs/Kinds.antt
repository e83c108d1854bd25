-- What placement promises the layer above, for chunks of any kind, with any homes and any order of labels: a table told as a map from labels to rows, [] for a label that is absent.
use Rattle.std.specs.Prelude.{◌≡◌, ℕ, Bool, cond, ◌≢◌, List, [], ◌∷◌, length}
use Rattle.placement.specs.Blocks.{Block, Stands, Rule3, how_many}

-- A KIND OF CHUNKS: a chunk has a label and rows, and a label with rows makes one; `has` tells if a chunk has a label
pub record Kind (A L R : Type 0) : Type 0 where
  pub label : A → L
  pub rows : A → List R
  pub make : L → List R → A
  pub has : A → L → Bool

-- the table holds what the map tells
pub record Holds {A L R : Type 0} (k : Kind A L R) (m : ℕ) (bs : List (Block A)) (F : L → List R) : Type 0 where
  pub told : (c : A) → Stands m bs c → F (k.label c) ≡ k.rows c
  pub full : (c : A) → Stands m bs c → k.rows c ≢ []
  pub all : (w : L) → F w ≢ [] → Stands m bs (k.make w (F w))

-- a table of m blocks that keeps rule 3 and holds the map F in n of them
pub record Keeps {A L R : Type 0} (k : Kind A L R) (home : A → ℕ) (before : A → A → Bool) (m : ℕ) (bs : List (Block A)) (F : L → List R) (n : ℕ) : Type 0 where
  pub long : length bs ≡ m
  pub rule_3 : Rule3 home before m bs
  pub map : Holds k m bs F
  pub count : how_many bs ≡ n

-- the map with a chunk put in, the map with the label of a chunk taken out, and the map of some chunks
abbrev pub with_chunk : {A L R : Type 0} → Kind A L R → A → (L → List R) → L → List R
with_chunk k c F w = cond (k.has c w) (k.rows c) (F w)

abbrev pub without_label : {A L R : Type 0} → Kind A L R → A → (L → List R) → L → List R
without_label k c F w = cond (k.has c w) [] (F w)

abbrev pub map_of : {A L R : Type 0} → Kind A L R → List A → L → List R
map_of k [] w = []
map_of k (c ∷ cs) w = cond (k.has c w) (k.rows c) (map_of k cs w)
