-- What a visit does with the orders that come by, one after the other by rising keys: it counts those in lo..hi that have the reserve, and writes their rows if it
-- writes, where the output has room, until it may find no more.
use Rattle.std.specs.Prelude.{◌≡◌, Bool, true, ◌&&◌, cond, List, [], ◌∷◌, ◌++◌, map, ℕ, zero, suc, ◌+◌, ◌*◌, ◌-◌, ◌≤◌, ◌<◌, ltb, leb, eqb, min, max, length, drop, Option, Some, None}
use Rattle.std.proofs.lemmas.List.Edits.{sets}
use Rattle.sizes.specs.Numbers.{field}
use Rattle.sizes.specs.Sizes.{made, row}
use Rattle.placement.specs.Chunks.{node_bytes}
use Rattle.placement.specs.Decode.{nodes_from}
use Rattle.placement.specs.Place.{Shaped}
use Rattle.sizes.specs.declared.Sizes.{Sizes}
use Rattle.placement.specs.declared.Order.{Order}
use Rattle.skiplist.specs.Lists.{list_at, masked}
use Rattle.skiplist.specs.Image.{image, orders_in, orders_good, fits}
use Rattle.skiplist.specs.Questions.{reserve}
use Rattle.skiplist.specs.Parts.{each, spread}
use Rattle.levels.specs.Ways.{upto_in}
use Rattle.readings.specs.declared.Visit.{Visit}

-- a visit under way, the bytes of a row, and the output
pub record Scan : Type 0 where
  pub row : ℕ
  pub visit : Visit
  pub output : List ℕ

abbrev pub scan : (row : ℕ) → Visit → (output : List ℕ) → Scan
scan w v o = record { row = w; visit = v; output = o }

-- a visit that begins
abbrev pub starting : (lo hi least : ℕ) → (writes : Bool) → (left : ℕ) → Visit
starting lo hi l b n = record { lo = lo; hi = hi; least = l; writes = b; left = n; found = 0; last = None }

-- the most orders that a table can hold
abbrev pub most_orders : ℕ
most_orders = 65535

-- a count with n more, up to the most; one that is there, or past it, stays
unfoldable pub next_found : (found n : ℕ) → ℕ
next_found c n = max c (min (c + n) most_orders)

-- so many more orders are found, the last of them this one
abbrev pub more_found : Visit → (n : ℕ) → (last : Order) → Visit
more_found v n o = record { lo = v.lo; hi = v.hi; least = v.least; writes = v.writes; left = v.left - n; found = next_found v.found n; last = Some o }

-- nothing more need come
abbrev pub ended_visit : Visit → Visit
ended_visit v = record { lo = v.lo; hi = v.hi; least = v.least; writes = v.writes; left = 0; found = v.found; last = v.last }

-- is the order one that is looked for?
unfoldable pub wanted_by : Visit → Order → Bool
wanted_by v o = leb v.lo o.key && leb v.least (reserve o)

-- past the last row that a count of 32 bits can have
abbrev pub most_rows : ℕ
most_rows = 16 * 4294967295

-- a row of w bytes of the output, where it has room
unfoldable pub row_in : (w : ℕ) → (output : List ℕ) → (at : ℕ) → Order → List ℕ
row_in w x a o = cond (leb (a + w) (length x)) (sets x a (node_bytes w o)) x

-- AN ORDER COMES BY
unfoldable pub step_by : Order → Scan → Scan
step_by o x =
    cond (eqb x.visit.left 0) x
    (cond (ltb x.visit.hi o.key) (scan x.row (ended_visit x.visit) x.output)
    (cond (wanted_by x.visit o)
    (scan x.row (more_found x.visit 1 o) (cond x.visit.writes (row_in x.row x.output (x.row * x.visit.found) o) x.output)) x))

-- ORDERS, one after the other
unfoldable pub steps : List Order → Scan → Scan
steps [] x = x
steps (o ∷ os) x = steps os (step_by o x)

-- the bytes are the image, under sizes s, of the orders that they hold
pub record Known (s : Sizes) (bs : List ℕ) : Type 0 where
  pub shaped : Shaped s bs
  pub sizes_made : made s ≡ true
  pub good : orders_good s 1 (orders_in bs) ≡ true
  pub fit : fits s (orders_in bs) ≡ true
  pub bytes : image s (orders_in bs) ≡ bs

-- nodes that stand one after the other in the list of a level, as its chunks have them
pub record Row (s : Sizes) (os : List Order) (l : ℕ) (ns : List Order) : Type 0 where
  pub before : List Order
  pub own : List Order
  pub behind : List Order
  pub there : list_at s l os ≡ before ++ (own ++ behind)
  pub is : ns ≡ map (masked l) own

-- nodes from a place on that are all in the range of a visit that asks for no reserve, the first and the last by their keys, and no more than it may find and count,
-- with room for their rows if it writes
pub record Whole (w : ℕ) (bs : List ℕ) (a j : ℕ) (v : Visit) (room : ℕ) : Type 0 where
  pub any : v.least ≡ 0
  pub some : 0 < j
  pub low : v.lo ≤ field a 4 bs
  pub high : field (a + w * (j - 1)) 4 bs ≤ v.hi
  pub may : j ≤ v.left
  pub few : v.found + j ≤ most_orders
  pub held : v.writes ≡ true → w * (v.found + j) ≤ room

-- at how many nodes at the front of a chunk the next one does not come after the lowest key
unfoldable pub passed_front : (w : ℕ) → List ℕ → (left at lo : ℕ) → ℕ
passed_front w bs zero a lo = 0
passed_front w bs (suc j) a lo = upto_in w bs j (a + w) lo

-- WHAT A NODE OPENS, at a level and below: the orders under it; and what some nodes open
unfoldable pub under : Sizes → List ℕ → (level : ℕ) → Order → List Order
under s bs l o = spread s (orders_in bs) l o

unfoldable pub all_under : Sizes → List ℕ → (level : ℕ) → List Order → List Order
all_under s bs l ns = each (spread s (orders_in bs) l) ns

-- NODES OF A CHUNK, j of them from a place on, which stand in the table and one after the other in the list of a level; and the orders under them
pub record Listed (s : Sizes) (bs : List ℕ) (l a j : ℕ) : Type 0 where
  pub room : a + row s * j ≤ length bs
  pub nodes : Row s (orders_in bs) l (nodes_from (row s) j (drop a bs))

abbrev pub under_nodes : Sizes → List ℕ → (level at many : ℕ) → List Order
under_nodes s bs l a j = all_under s bs l (nodes_from (row s) j (drop a bs))

-- THE FIRST of some orders, if there is one
unfoldable pub first_of : List Order → Option Order
first_of [] = None
first_of (o ∷ os) = Some o
