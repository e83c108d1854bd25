-- Masked nodes: a map goes with take, drop and the pieces of a partition, at level 1 nothing is masked, and masked nodes have the keys of the nodes.
use mathlib.Core.Path.{◌≡◌, refl}
use mathlib.Core.Bool.{true}
use mathlib.Core.List.{List, [], ◌∷◌, map}
use Prim.Native.Nat.{ℕ, zero, suc}
use lib.Dec.{ltb}
use lib.ListN.{take, drop}
use Rattle.placement.specs.declared.Order.{Order}
use Rattle.skiplist.specs.Lists.{masked}
use Rattle.skiplist.proofs.Laws.Parts.{Up, below, and_left, and_right}
use Rattle.skiplist.proofs.Laws.Descent.{last_from}

module _ {A B : Type 0} (f : A → B) where
  pub map_take : (n : ℕ) (xs : List A) → map f (take n xs) ≡ take n (map f xs)
  map_take zero xs = refl
  map_take (suc n) [] = refl
  map_take (suc n) (x ∷ xs) = rw (map_take n xs)

  pub map_drop : (n : ℕ) (xs : List A) → map f (drop n xs) ≡ drop n (map f xs)
  map_drop zero xs = refl
  map_drop (suc n) [] = refl
  map_drop (suc n) (x ∷ xs) = map_drop n xs

pub masked_one : (xs : List Order) → map (masked 1) xs ≡ xs
unfolding masked
masked_one [] = refl
masked_one (x ∷ xs) = rw (masked_one xs)

-- the same keys: below a key, rising, and the last of them
module _ (l : ℕ) where
  pub below_masked : (k : ℕ) (xs : List Order) → below k xs ≡ true → below k (map (masked l) xs) ≡ true
  unfolding below masked
  below_masked k [] e = refl
  below_masked k (x ∷ xs) e = rw (and_left (ltb x.key k) (below k xs) e) (below_masked k xs (and_right (ltb x.key k) (below k xs) e))

  pub up_masked : (a : ℕ) (xs : List Order) → Up a xs → Up a (map (masked l) xs)
  unfolding masked
  up_masked a [] u = tt
  up_masked a (x ∷ xs) u = (u.0, up_masked (suc x.key) xs u.1)

  pub last_masked : (k : ℕ) (xs : List Order) → last_from k (map (masked l) xs) ≡ last_from k xs
  unfolding last_from masked
  last_masked k [] = refl
  last_masked k (x ∷ xs) = last_masked x.key xs
