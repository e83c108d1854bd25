-- What the walk of a check gives, over the bytes of a table: what has been seen, or None where the table is no image. These are the steps that the
-- code takes; that they decide whether the bytes are an image is proved in proofs/.
use Rattle.std.specs.Prelude.{Bool, false, ◌&&◌, not, cond, List, ℕ, zero, suc, ◌+◌, ◌*◌, ◌-◌, ◌≤◌, ltb, leb, eqb, get_or, Option, Some, None, option_and_then}
use Rattle.sizes.specs.Sizes.{prime, row}
use Rattle.sizes.specs.Hash.{level}
use Rattle.sizes.specs.Header.{block_long}
use Rattle.placement.specs.Decode.{node_of}
use Rattle.placement.specs.Place.{Shaped, search_in, found_at}
use Rattle.sizes.specs.declared.Sizes.{Sizes}
use Rattle.placement.specs.declared.Order.{Order}
use Rattle.skiplist.specs.Image.{price_good}
use Rattle.table.specs.declared.Seen.{Seen}

-- bytes that can be walked
pub record Walkable (s : Sizes) (bs : List ℕ) : Type 0 where
  pub shaped : Shaped s bs
  pub base : 2 ≤ s.gamma
  pub base_most : s.gamma ≤ 64
  pub orders_most : s.orders ≤ 65535

-- quantities are 0 above level 1, and for the front; an order has a total of at least 1, and at most that displayed
unfoldable pub nothing_in : Order → Bool
nothing_in n = eqb n.total 0 && eqb n.displayed 0

unfoldable pub quantities_ok : (level : ℕ) → Order → Bool
quantities_ok l n = cond (eqb l 1 && not (eqb n.key 0)) (leb 1 n.total && leb n.displayed n.total) (nothing_in n)

-- so is the price; an order has one as its version has it
unfoldable pub price_ok : Sizes → (level : ℕ) → Order → Bool
price_ok s l n = cond (eqb l 1 && not (eqb n.key 0)) (price_good s n.price) (eqb n.price 0)

-- the first key of a partition is known; any other has exactly the level of its list
unfoldable pub belongs_in : Sizes → (level first : ℕ) → (opens : Bool) → (key : ℕ) → Bool
belongs_in s l f o x = cond o (eqb x f) (not (eqb x 0) && eqb (level s x) l)

unfoldable pub fits_in : Sizes → (level first : ℕ) → (opens : Bool) → Order → Bool
fits_in s l f o n = belongs_in s l f o n.key && quantities_ok l n

-- a node of level 1 comes by: its key is not below `low`, and below p
unfoldable pub counts : (key : ℕ) → Seen → Bool
counts key x = leb x.low key && (ltb key prime && leb 1 x.orders)

unfoldable pub counted : (key : ℕ) → Seen → Option Seen
counted key x = cond (counts key x) (Some (record { low = key + 1; orders = x.orders - 1; chunks = x.chunks })) None

-- a chunk of n nodes comes by
unfoldable pub enters_ok : (nodes n : ℕ) → Seen → Bool
enters_ok b n x = leb 1 n && (leb n b && leb 1 x.chunks)

unfoldable pub entered_seen : Seen → Seen
entered_seen x = record { low = x.low; orders = x.orders; chunks = x.chunks - 1 }

-- a partition that has no chunk of a number ends there; it has at least one
unfoldable pub ended_seen : (number : ℕ) → Seen → Option Seen
ended_seen i x = cond (eqb i 0) None (Some x)

-- THE NODES of a chunk, from a place on; d is what each opens
unfoldable pub node_good : Sizes → (level first : ℕ) → (opens : Bool) → Order → Bool
node_good s l f o n = price_ok s l n && fits_in s l f o n

unfoldable pub nodes_by : ((key : ℕ) → Seen → Option Seen) → Sizes → List ℕ → (level first left at : ℕ) → (opens : Bool) → Seen → Option Seen
nodes_by d s bs l f zero a o x = Some x
nodes_by d s bs l f (suc j) a o x =
    cond (node_good s l f o (node_of (row s) bs a)) (option_and_then (nodes_by d s bs l f j (a + row s) false) (d (node_of (row s) bs a).key x)) None

-- A CHUNK OF LEVEL 1 comes by as a whole: each of its nodes is one of the orders to come, or the front
unfoldable pub enters_lowest : (nodes n : ℕ) → Seen → Bool
enters_lowest b n x = enters_ok b n x && leb n x.orders

-- its nodes, one by one: y is what the next key is at least
unfoldable pub comes_ok : Sizes → (first : ℕ) → (opens : Bool) → (low : ℕ) → Order → Bool
comes_ok s f o y n = leb y n.key && (ltb n.key prime && (price_ok s 1 n && fits_in s 1 f o n))

-- all of them have come by
unfoldable pub passed_seen : (n low : ℕ) → Seen → Seen
passed_seen n y x = record { low = y; orders = x.orders - n; chunks = x.chunks - 1 }

-- THE CHUNKS of a partition, from a number on
unfoldable pub spot : Option ℕ → ℕ
spot (Some i) = i
spot None = 0

unfoldable pub chunk_spot : Sizes → List ℕ → (level first number : ℕ) → Option ℕ
chunk_spot s bs l f i = search_in s bs (record { level = l; first = f; number = i })

-- how many nodes block b says that it has
unfoldable pub count_in : (long : ℕ) → List ℕ → (b : ℕ) → ℕ
count_in w bs b = get_or bs (53 + b * w + 1) 0

unfoldable pub chunk_by : ((key : ℕ) → Seen → Option Seen) → Sizes → List ℕ → (level first number b : ℕ) → Seen → Option Seen
chunk_by d s bs l f i b x =
    cond (enters_ok s.nodes (count_in (block_long s) bs b) x)
    (nodes_by d s bs l f (count_in (block_long s) bs b) (53 + b * block_long s + 8) (eqb i 0) (entered_seen x)) None

-- no chunk comes after one that is not full
unfoldable pub chunks_by : ((key : ℕ) → Seen → Option Seen) → Sizes → List ℕ → (level first fuel number : ℕ) → Seen → Option Seen
chunks_by d s bs l f zero i x = Some x
chunks_by d s bs l f (suc j) i x =
    let r = chunk_spot s bs l f i in
    cond (found_at r)
    (option_and_then (λ y. cond (ltb (count_in (block_long s) bs (spot r)) s.nodes) (Some y) (chunks_by d s bs l f j (suc i) y)) (chunk_by d s bs l f i (spot r) x))
    (ended_seen i x)

-- A NODE OPENS its partition one level down; at level 0 it stands for itself
unfoldable pub opens_of : Sizes → List ℕ → (level key : ℕ) → Seen → Option Seen
opens_of s bs zero key x = counted key x
opens_of s bs (suc l) f x = chunks_by (opens_of s bs l) s bs (suc l) f s.blocks 0 x
