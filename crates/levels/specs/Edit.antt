-- What the parts of an enter, an amend and a cancel do, told by the map that a table keeps.
use Rattle.std.specs.Prelude.{◌≡◌, true, List, [], ◌∷◌, ◌++◌, ℕ, suc, ◌+◌, ◌*◌, ◌-◌, ◌≤◌, ◌<◌, length, take, drop}
use Rattle.std.proofs.lemmas.List.Edits.{sets}
use Rattle.sizes.specs.Sizes.{beta, row, made}
use Rattle.sizes.specs.Hash.{level}
use Rattle.placement.specs.Chunks.{node_bytes}
use Rattle.placement.specs.Maps.{Map, Table, Fine}
use Rattle.sizes.specs.declared.Sizes.{Sizes}
use Rattle.placement.specs.declared.Order.{Order}
use Rattle.skiplist.specs.Lists.{masked, first_key, chunks}
use Rattle.skiplist.specs.Image.{image, orders_good, fits}
use Rattle.skiplist.specs.Parts.{Up, below, last_from, pieces, head_part}
use Rattle.levels.specs.declared.Spot.{Spot}

-- from chunk number i on, the chunks of partition f of level k hold some nodes, B in each but the last
unfoldable pub Pieces : Map → (b k f i : ℕ) → List Order → Type 0
Pieces F b k f i ns = (n : ℕ) → F k f (i + n) ≡ take b (drop (n * b) ns)

-- two maps differ at most in partition f of level k
unfoldable pub Elsewhere : (old new : Map) → (k f : ℕ) → Type 0
Elsewhere F G k f = (l g i : ℕ) → (l ≡ k → g ≡ f → ⊥) → G l g i ≡ F l g i

-- .. or in partitions f and h of level k
unfoldable pub ElsewhereBoth : (old new : Map) → (k f h : ℕ) → Type 0
ElsewhereBoth F G k f h = (l g i : ℕ) → (l ≡ k → g ≡ f → ⊥) → (l ≡ k → g ≡ h → ⊥) → G l g i ≡ F l g i

-- the most nodes of a partition that bytes can say: 255 in each of 65,535 blocks
abbrev pub most_nodes : ℕ
most_nodes = 255 * 65535

-- .. and of an image: its orders and the front
abbrev pub most_listed : ℕ
most_listed = 65535 + 1

-- WHERE A KEY COMES in a partition of nodes ps below it and qs not below it
unfoldable pub Scans : Sizes → List ℕ → (k f y : ℕ) → Spot → Type 0
Scans s bs k f y r =
    (F : Map) (n : ℕ) (hd : List ℕ) (ps qs : List Order) → Table s F n hd bs → 0 < k → Pieces F s.nodes k f 0 (ps ++ qs) → below y ps ≡ true → Up y qs →
    r ≡ record { below = length ps; last = last_from 0 ps; size = length (ps ++ qs) }

-- what an edit needs of a partition and a key at level k: numbers that bytes can hold, and a place in it
pub record Room (s : Sizes) (k f : ℕ) (ps qs : List Order) (x : Spot) (o : Order) : Type 0 where
  pub level : 0 < k
  pub first : f < 4294967296
  pub fine : Fine (row s) o
  pub few : length (ps ++ qs) ≤ most_listed
  pub below : x.below ≡ length ps
  pub size : x.size ≡ length (ps ++ qs)

-- ENTER, at the key's own level: its node comes between ps and qs
pub record ComesIn (s : Sizes) (F : Map) (n : ℕ) (hd bs : List ℕ) (k f : ℕ) (old new : List Order) : Type 0 where
  pub map : Map
  pub full : ℕ
  pub table : Table s map full hd bs
  pub there : Pieces map s.nodes k f 0 new
  pub elsewhere : Elsewhere F map k f
  pub count : full + pieces s.nodes (length old) ≡ n + pieces s.nodes (length new)

unfoldable pub EntersIn : Sizes → (k f : ℕ) → Spot → Order → (bs bs' : List ℕ) → Type 0
EntersIn s k f x o bs bs' =
    (F : Map) (n : ℕ) (hd : List ℕ) (ps qs : List Order) → Table s F n hd bs → Room s k f ps qs x o → Pieces F s.nodes k f 0 (ps ++ qs) →
    n + pieces s.nodes (suc (length (ps ++ qs))) ≤ s.blocks + pieces s.nodes (length (ps ++ qs)) →
    ComesIn s F n hd bs' k f (ps ++ qs) (ps ++ masked k o ∷ qs)

-- CANCEL, at the key's own level: its node, y, goes from between ps and qs
unfoldable pub CancelsIn : Sizes → (k f : ℕ) → Spot → (bs bs' : List ℕ) → Type 0
CancelsIn s k f x bs bs' =
    (F : Map) (n : ℕ) (hd : List ℕ) (ps : List Order) (y : Order) (qs : List Order) → Table s F n hd bs → Room s k f ps (y ∷ qs) x y →
    Pieces F s.nodes k f 0 (ps ++ y ∷ qs) → 0 < length ps → ComesIn s F n hd bs' k f (ps ++ y ∷ qs) (ps ++ qs)

-- ENTER, below the key's level: ps stay, and the key starts a partition with qs
pub record Splits (s : Sizes) (F : Map) (n : ℕ) (hd bs : List ℕ) (k f g : ℕ) (left right : List Order) (old : ℕ) : Type 0 where
  pub map : Map
  pub full : ℕ
  pub table : Table s map full hd bs
  pub left_there : Pieces map s.nodes k f 0 left
  pub right_there : Pieces map s.nodes k g 0 right
  pub elsewhere : ElsewhereBoth F map k f g
  pub count : full + old ≡ n + pieces s.nodes (length left) + pieces s.nodes (length right)

unfoldable pub EntersBelow : Sizes → (k f : ℕ) → Spot → Order → (bs bs' : List ℕ) → Type 0
EntersBelow s k f x o bs bs' =
    (F : Map) (n : ℕ) (hd : List ℕ) (ps qs : List Order) → Table s F n hd bs → Room s k f ps qs x o → Pieces F s.nodes k f 0 (ps ++ qs) → (f ≡ o.key → ⊥) →
    Pieces F s.nodes k o.key 0 [] → 0 < length ps →
    n + pieces s.nodes (length ps) + pieces s.nodes (suc (length qs)) ≤ s.blocks + pieces s.nodes (length (ps ++ qs)) →
    Splits s F n hd bs' k f o.key ps (masked k o ∷ qs) (pieces s.nodes (length (ps ++ qs)))

-- CANCEL, below the key's level: the partition y ∷ qs that the key starts joins ps
unfoldable pub CancelsBelow : Sizes → (k f g : ℕ) → (below size : ℕ) → (bs bs' : List ℕ) → Type 0
CancelsBelow s k f g m w bs bs' =
    (F : Map) (n : ℕ) (hd : List ℕ) (ps : List Order) (y : Order) (qs : List Order) → Table s F n hd bs → 0 < k → f < 4294967296 → (f ≡ g → ⊥) →
    length (ps ++ y ∷ qs) ≤ most_listed → m ≡ length ps → w ≡ suc (length qs) → 0 < length ps →
    Pieces F s.nodes k f 0 ps → Pieces F s.nodes k g 0 (y ∷ qs) →
    Splits s F n hd bs' k f g (ps ++ qs) [] (pieces s.nodes (length ps) + pieces s.nodes (suc (length qs)))

-- THE NODE AT A PLACE, of w bytes, with another in its place
abbrev pub replaced : (w : ℕ) → List ℕ → (at : ℕ) → Order → List ℕ
replaced w bs a o = sets bs a (node_bytes w o)

-- NODES a TO n of a row, behind the k nodes of another
unfoldable pub followed : (w k a n : ℕ) → (cs ch : List ℕ) → List ℕ
followed w k a n cs ch = sets cs (w * k) (take (w * (n - a)) (drop (w * a) ch))

-- THE WAY DOWN to a key y in the image of xs, below it, and zs, not below it
pub record Way (s : Sizes) (bs : List ℕ) (y : ℕ) (xs zs : List Order) : Type 0 where
  pub good : made s ≡ true
  pub orders : orders_good s 1 (xs ++ zs) ≡ true
  pub fit : fits s (xs ++ zs) ≡ true
  pub is : bs ≡ image s (xs ++ zs)
  pub low : below y xs ≡ true
  pub high : Up y zs
  pub pos : 0 < y

-- THE PARTITION OF LEVEL l that has the nodes just below a key: its first key
unfoldable pub Leads : Sizes → List ℕ → (l y : ℕ) → ℕ → Type 0
Leads s bs l y r = (xs zs : List Order) → Way s bs y xs zs → l ≤ beta s → r ≡ first_key (head_part s l xs)

-- HOW MANY CHUNKS MORE the table has once a key of level l that is not held is there; f is what leads to it
unfoldable pub Grows : Sizes → List ℕ → (f l y : ℕ) → ℕ → Type 0
Grows s bs f l y r =
    (xs : List Order) (o : Order) (zs : List Order) → Way s bs y xs zs → f ≡ first_key (head_part s l xs) → o.key ≡ y → l ≡ level s y →
    r + length (chunks s (xs ++ zs)) ≡ length (chunks s (xs ++ o ∷ zs))
