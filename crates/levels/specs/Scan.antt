-- What the parts of a scan and of a growth give.
use Rattle.std.specs.Prelude.{◌≡◌, cond, List, ℕ, zero, suc, ◌+◌, ◌-◌, ◌≤◌, ◌<◌, ltb}
use Rattle.sizes.specs.Numbers.{field}
use Rattle.skiplist.specs.Parts.{pieces}
use Rattle.levels.specs.declared.Spot.{Spot}

-- a node comes by: it is counted, and kept if it is below y
unfoldable pub passed : (key y : ℕ) → Spot → Spot
passed k y x = record { below = cond (ltb k y) (x.below + 1) x.below; last = cond (ltb k y) k x.last; size = x.size + 1 }

-- so many nodes in bytes, of w bytes each, from a place on
unfoldable pub passes : (w : ℕ) → List ℕ → (left at y : ℕ) → Spot → Spot
passes w bs zero a y x = x
passes w bs (suc j) a y x = passes w bs j (a + w) y (passed (field a 4 bs) y x)

-- HOW MANY CHUNKS MORE level k has once a key of level l, not below k, is there, where x says how the key comes
pub record Grown (b k l : ℕ) (x : Spot) (r : ℕ) : Type 0 where
  pub same : k ≡ l → r + pieces b x.size ≡ pieces b (suc x.size)
  pub under : k < l → r + pieces b x.size ≡ pieces b x.below + pieces b (suc (x.size - x.below))
  pub few : r ≤ 2
