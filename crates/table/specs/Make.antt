-- What make writes past the header: the front alone at each level.
use Rattle.std.specs.Prelude.{◌&&◌, cond, List, [], ◌∷◌, ℕ, ◌≤◌, leb, eqb}
use Rattle.placement.specs.Maps.{Map, map_of, Table}
use Rattle.sizes.specs.declared.Sizes.{Sizes}
use Rattle.skiplist.specs.Lists.{front}

-- under (l, 0, 0) the front, for 1 ≤ l ≤ top
unfoldable pub fronts_map : (top : ℕ) → Map
fronts_map n l f i = cond ((leb 1 l && leb l n) && (eqb 0 f && eqb 0 i)) (front ∷ []) []

-- a table of no chunks gets the fronts, one chunk for each level
unfoldable pub Fronts : Sizes → (top : ℕ) → (table table_now : List ℕ) → Type 0
Fronts s n x z = (hd : List ℕ) → n ≤ s.blocks → Table s (map_of []) 0 hd x → Table s (fronts_map n) n hd z
