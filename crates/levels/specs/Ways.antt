-- The way down to a key in bytes that are as long as a table, an image or not.
use Rattle.std.specs.Prelude.{cond, List, [], ◌∷◌, ℕ, zero, suc, ◌+◌, ◌*◌, ◌-◌, ltb, leb, eqb, ◌≤◌, length, get_or, Option, Some, None, IfSome}
use Rattle.std.proofs.lemmas.List.Edits.{sets}
use Rattle.sizes.specs.Numbers.{big, field}
use Rattle.sizes.specs.Sizes.{row}
use Rattle.sizes.specs.Header.{block_long}
use Rattle.placement.specs.Labels.{label}
use Rattle.placement.specs.Place.{search_in}
use Rattle.sizes.specs.declared.Sizes.{Sizes}
use Rattle.levels.specs.declared.Trail.{Trail}

-- the way so far, and the output that the path is written to
pub record Trek : Type 0 where
  pub trail : Trail
  pub path : List ℕ

abbrev pub trek : Trail → (path : List ℕ) → Trek
trek t o = record { trail = t; path = o }

-- the way has not begun; it has come to a level with so many blocks, and goes through the partition that f heads
abbrev pub coming : (count f : ℕ) → Trail
coming c f = record { count = c; first = f; at = None }

abbrev pub starting : Trail
starting = coming 0 0

-- number c of the path, where it has room
unfoldable pub number_in : (path : List ℕ) → (c i : ℕ) → List ℕ
number_in o c i = cond (leb (2 * c + 2) (length o)) (sets o (2 * c) (big 2 i)) o

-- how many nodes at the front of a chunk, of w bytes each, are not above y
unfoldable pub upto_in : (w : ℕ) → List ℕ → (left at y : ℕ) → ℕ
upto_in w bs zero a y = 0
upto_in w bs (suc j) a y = cond (ltb y (field a 4 bs)) 0 (suc (upto_in w bs j (a + w) y))

-- .. the last being asked first: in a table the keys rise
unfoldable pub passed_in : (w : ℕ) → List ℕ → (n at y : ℕ) → ℕ
passed_in w bs n a y = cond (leb (field (a + w * (n - 1)) 4 bs) y) n (upto_in w bs n a y)

-- .. of the chunk in block i, a full one's last key being asked first; none where the block says more nodes than fit
unfoldable pub reached_in : Sizes → List ℕ → (i y : ℕ) → ℕ
reached_in s bs i y =
    let n = get_or bs (53 + i * block_long s + 1) 0 in
    let a = 53 + i * block_long s + 8 in
    cond (ltb s.nodes n) 0 (cond (ltb n s.nodes) (upto_in (row s) bs n a y) (passed_in (row s) bs n a y))

-- .. of the chunk that a search found, and its block
unfoldable pub found_upto : Sizes → List ℕ → (y : ℕ) → Option ℕ → ℕ
found_upto s bs y (Some i) = reached_in s bs i y
found_upto s bs y None = 0

unfoldable pub found_block : Option ℕ → ℕ
found_block (Some i) = i
found_block None = 0

-- node n of block i, counted from 1
unfoldable pub node_place : Sizes → (i n : ℕ) → ℕ
node_place s i n = 53 + i * block_long s + (8 + row s * (n - 1))

-- A BLOCK COMES ON THE WAY, with n nodes that are not above the key
unfoldable pub trod : Sizes → List ℕ → (i n : ℕ) → Trek → Trek
trod s bs i n x =
    trek (record { count = x.trail.count + 1; first = field (node_place s i n) 4 bs; at = Some (node_place s i n) }) (number_in x.path x.trail.count i)

-- where the way has come to a node, the bytes have all of it
abbrev pub Inside : Sizes → List ℕ → (at : Option ℕ) → Type 0
Inside s bs at = IfSome at (λ a. a + row s ≤ length bs)

-- CHUNKS j, j + 1, .. of partition f of level l, as far as one that has not B nodes that are not above y
unfoldable pub chunks_in : Sizes → List ℕ → (l f y : ℕ) → (most j : ℕ) → Trek → Trek
chunks_in s bs l f y zero j x = x
chunks_in s bs l f y (suc m) j x =
    let r = search_in s bs (label l f j) in
    let n = found_upto s bs y r in
    let z = trod s bs (found_block r) n x in
    cond (eqb n 0) x (cond (ltb n s.nodes) z (chunks_in s bs l f y m (suc j) z))

-- ONE LEVEL
unfoldable pub along_in : Sizes → List ℕ → (l y : ℕ) → Trek → Trek
along_in s bs l y x = chunks_in s bs l x.trail.first y s.blocks 0 (trek (coming x.trail.count x.trail.first) x.path)

-- so many levels above level l
unfoldable pub down_in : Sizes → List ℕ → (l y : ℕ) → (left : ℕ) → Trek → Trek
down_in s bs l y zero x = x
down_in s bs l y (suc m) x = down_in s bs l y m (along_in s bs (suc m + l) y x)

-- the way alone, from level `top` to the levels above l: no path is kept
unfoldable pub way_down : Sizes → List ℕ → (top l y : ℕ) → Trail
way_down s bs top l y = (down_in s bs l y (top - l) (trek starting (0 ∷ []))).trail
