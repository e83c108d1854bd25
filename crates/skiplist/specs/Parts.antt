-- Parts of lists and of partitions, by which a walk down the levels and an edit of one level are told.
use Rattle.std.specs.Prelude.{Bool, true, ◌&&◌, cond, List, [], ◌∷◌, ◌++◌, ℕ, zero, suc, ◌+◌, ◌≤◌, ltb, length}
use Rattle.sizes.specs.declared.Sizes.{Sizes}
use Rattle.placement.specs.declared.Order.{Order}
use Rattle.skiplist.specs.Lists.{front, at_least, list_at, starts_one, partitions}
unfoldable pub use Rattle.skiplist.specs.Lists.{last_from, pick, part, pieces}

-- KEYS: they rise, from a on
abbrev pub Up : (a : ℕ) → List Order → Type 0
Up a [] = Unit {0}
Up a (x ∷ xs) = (a ≤ x.key) × Up (suc x.key) xs

-- every key of xs is below k
unfoldable pub below : (k : ℕ) → List Order → Bool
below k [] = true
below k (x ∷ xs) = ltb x.key k && below k xs

-- PARTITIONS: p is open; the one that is open after a list
unfoldable pub opened : (starts : Order → Bool) → (p xs : List Order) → List Order
opened st p [] = p
opened st p (x ∷ xs) = cond (st x) (opened st (x ∷ []) xs) (opened st (p ++ x ∷ []) xs)

-- the partition of level l that is open after some orders
unfoldable pub head_part : Sizes → (l : ℕ) → List Order → List Order
head_part s l xs = opened (starts_one s l) (front ∷ []) (at_least s l xs)

-- THE WALK DOWN: what a node opens at level l and below; at level 0 itself
unfoldable pub each : (Order → List Order) → List Order → List Order
each f [] = []
each f (x ∷ xs) = f x ++ each f xs

unfoldable pub spread : Sizes → (orders : List Order) → (l : ℕ) → Order → List Order
spread s os zero x = x ∷ []
spread s os (suc l) x = each (spread s os l) (part s os (suc l) x.key)

-- HOW MANY CHUNKS
unfoldable pub pieces_all : (b : ℕ) → List (List Order) → ℕ
pieces_all b [] = 0
pieces_all b (p ∷ ps) = pieces b (length p) + pieces_all b ps

-- the chunks of one level, and of so many levels from l on
unfoldable pub count : Sizes → (l : ℕ) → List Order → ℕ
count s l os = pieces_all s.nodes (partitions s l (list_at s l os))

unfoldable pub counts : (left l : ℕ) → Sizes → List Order → ℕ
counts zero l s os = 0
counts (suc k) l s os = count s l os + counts k (suc l) s os
