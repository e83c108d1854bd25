-- Labels in the bytes of a table: the search for one, the removal and the insertion of a chunk. Document 01, "When bytes are an image".
use Rattle.std.specs.Prelude.{◌≡◌, ℕ, zero, suc, ◌+◌, ◌-◌, ◌*◌, ◌%◌, ◌^◌, ◌<◌, ◌≤◌, Bool, true, false, cond, not, ◌&&◌, ◌||◌, List, ◌∷◌, ◌++◌, length, replicate, ◌==◌, ◌≢◌, nat_le, nat_lt, slice_index, Option, Some, None}
use Rattle.sizes.specs.Numbers.{field, big}
use Rattle.sizes.specs.Sizes.{prime, row, seed_good}
use Rattle.sizes.specs.Hash.{g}
use Rattle.sizes.specs.Header.{block_long}
use Rattle.sizes.specs.Parts.{put_block, clear_in, copy_in, swap_in}
use Rattle.sizes.specs.declared.Sizes.{Sizes}
use Rattle.placement.specs.Labels.{level_before, before, same_label, home}
use Rattle.placement.specs.declared.Label.{Label}
use Rattle.placement.specs.declared.Ahead.{Ahead}
use Rattle.placement.specs.declared.Met.{Met}
use Rattle.placement.specs.declared.Met.TheVariants.{Past, Here, Other}

-- the bytes are as long as those of a table of sizes s, and the sizes and seed are small enough to compute with
pub record Shaped (s : Sizes) (bs : List ℕ) : Type 0 where
  pub long : length bs ≡ 53 + s.blocks * block_long s
  pub width : block_long s ≡ 8 + row s * s.nodes
  pub least : 12 ≤ row s
  pub wide : row s ≤ 16
  pub few : s.nodes ≤ 32
  pub some : 0 < s.blocks
  pub most : s.blocks ≤ 65535
  pub seeds : seed_good s.seed ≡ true

-- the label of block i
unfoldable pub label_in : (long : ℕ) → List ℕ → (i : ℕ) → Label
label_in w bs i = record { level = slice_index bs (53 + i * w); first = field (53 + i * w + 4) 4 bs; number = field (53 + i * w + 2) 2 bs }

-- a search goes past a block that holds a smaller label; level 0 is an empty block
unfoldable pub passes_label : (before : Label → Label → Bool) → Label → Label → Bool
passes_label before l w = (nat_lt 0 l.level || l.level == w.level) && before l w

-- what it meets in a block
unfoldable pub met : (smaller same : Bool) → Met
met p q = cond p Past (cond q Here Other)

unfoldable pub meeting : (before : Label → Label → Bool) → Label → Label → Met
meeting before l w = met (passes_label before l w) (same_label l w)

-- THE SEARCH over the labels of blocks, from block i % m on
unfoldable pub probe : (before : Label → Label → Bool) → (look : ℕ → Label) → (m : ℕ) → (want : Label) → (fuel i : ℕ) → Option ℕ
probe before look m w zero i = None
probe before look m w (suc k) i =
    cond (passes_label before (look (i % m)) w) (probe before look m w k (suc i)) (cond (same_label (look (i % m)) w) (Some (i % m)) None)

-- which levels `a` tells to come before level l: v is one if, less `from` and counted round, it is below `many`
pub record Leading (s : Sizes) (l : ℕ) (a : Ahead) : Type 0 where
  pub told : (v d : ℕ) → v < 256 → (v ≢ l) → d < 2 ^ 32 → (d + a.from) % 2 ^ 32 ≡ v → nat_lt d a.many ≡ (nat_lt 0 v && level_before s v l)

-- the search for a label in the bytes of a table
unfoldable pub search_in : Sizes → List ℕ → Label → Option ℕ
search_in s bs w = probe (before s) (label_in (block_long s) bs) s.blocks w s.blocks (home s w)

-- .. may start at block a: round the whole table from there, it comes to what it comes to from home
pub record Starts (s : Sizes) (bs : List ℕ) (w : Label) (a : ℕ) : Type 0 where
  pub inside : a < s.blocks
  pub same : probe (before s) (label_in (block_long s) bs) s.blocks w s.blocks a ≡ search_in s bs w

-- the search for w from block a on may go on at block b: with the looks that are left it comes to the same from there
pub record GoesOn (s : Sizes) (bs : List ℕ) (w : Label) (a b : ℕ) : Type 0 where
  pub rest : probe (before s) (label_in (block_long s) bs) s.blocks w (s.blocks - (b - a)) b ≡ probe (before s) (label_in (block_long s) bs) s.blocks w s.blocks a
  pub least : a ≤ b
  pub most : b ≤ s.blocks

-- block i, or each of four from there on, holds a chunk of a level below l
unfoldable pub is_lower : (look : ℕ → Label) → (l i : ℕ) → Bool
is_lower look l i = nat_lt 0 (look i).level && nat_lt (look i).level l

unfoldable pub four_lower : (look : ℕ → Label) → (l i : ℕ) → Bool
four_lower look l i = is_lower look l i && (is_lower look l (i + 1) && (is_lower look l (i + 2) && is_lower look l (i + 3)))

-- where the search for a chunk w may start if the one before it was found in block i
unfoldable pub behind : Sizes → Label → (i : ℕ) → ℕ
behind s w i = cond (g s w.first + 65536 * w.level + w.number == prime) 0 ((i + 1) % s.blocks)

-- REMOVAL: how far it is from block a on to block b; a chunk stays if its home lies past the hole, up to its block
unfoldable pub distance_of : (m a b : ℕ) → ℕ
distance_of m a b = (b + m - a) % m

unfoldable pub stays_at : (m hole j home : ℕ) → Bool
stays_at m e j h = not (distance_of m e h == 0) && nat_le (distance_of m e h) (distance_of m e j)

-- what an edit may do to a table of blocks. The bytes have it, and so has a list of blocks: an edit is defined once, over either
pub record Store (S : Type 0) : Type 0 where
  pub look : S → (i : ℕ) → Label
  pub copy : S → (from to : ℕ) → S
  pub swap : S → (a b : ℕ) → S
  pub clear : S → (i : ℕ) → S

abbrev pub bytes : (w : ℕ) → Store (List ℕ)
bytes w = record { look = label_in w; copy = copy_in w; swap = swap_in w; clear = clear_in w }

-- one block of a removal: where the hole is then, and the table
pub record Pulled (s : Sizes) (e j home : ℕ) (x x' : List ℕ) (r : ℕ) : Type 0 where
  pub hole : r ≡ cond (stays_at s.blocks e j home) e j
  pub table : x' ≡ cond (stays_at s.blocks e j home) x (copy_in (block_long s) x j e)

-- the table with the hole filled from later blocks, from block i % m on, and then empty
unfoldable pub pull : {S : Type 0} → Store S → (home : Label → ℕ) → (m : ℕ) → (fuel hole i : ℕ) → S → S
pull st home m zero e i x = st.clear x e
pull st home m (suc k) e i x =
    cond ((st.look x (i % m)).level == 0) (st.clear x e)
    (pull st home m k (cond (stays_at m e (i % m) (home (st.look x (i % m)))) e (i % m)) (suc i)
    (cond (stays_at m e (i % m) (home (st.look x (i % m)))) x (st.copy x (i % m) e)))

-- INSERTION: a chunk that stands in the block e, past the others, changes places with each larger one from its home on
unfoldable pub settle : {S : Type 0} → Store S → (before : Label → Label → Bool) → (m : ℕ) → (fuel e i : ℕ) → S → S
settle st before m zero e i x = x
settle st before m (suc k) e i x =
    settle st before m k e (suc i) (cond (before (st.look x e) (st.look x (i % m))) (st.swap x (i % m) e) x)

-- what a search found: a block, and the table without the chunk that stands there
unfoldable pub found_at : Option ℕ → Bool
found_at (Some i) = true
found_at None = false

unfoldable pub taken_out : Sizes → Option ℕ → List ℕ → List ℕ
taken_out s (Some i) bs = pull (bytes (block_long s)) (home s) s.blocks (s.blocks - 1) i (i + 1) bs
taken_out s None bs = bs

-- the first empty block from block i % m on
unfoldable pub free_in : (look : ℕ → Label) → (m : ℕ) → (fuel i : ℕ) → Option ℕ
free_in look m zero i = None
free_in look m (suc k) i = cond ((look (i % m)).level == 0) (Some (i % m)) (free_in look m k (suc i))

-- the bytes of a block: a label, n nodes whose bytes are given, and zeros up to w
unfoldable pub head_bytes : Label → (n : ℕ) → List ℕ
head_bytes l n = l.level ∷ n ∷ (big 2 l.number ++ big 4 l.first)

unfoldable pub block_with : (w : ℕ) → Label → (n : ℕ) → (nodes : List ℕ) → List ℕ
block_with w l n xs = head_bytes l n ++ xs ++ replicate (w - 8 - length xs) 0

-- a new chunk: it goes to the empty block, and from there to its place
unfoldable pub inserted : Sizes → Option ℕ → Label → (n : ℕ) → (nodes : List ℕ) → List ℕ → List ℕ
inserted s (Some e) l n xs bs =
    settle (bytes (block_long s)) (before s) s.blocks (distance_of s.blocks (home s l) e) e (home s l) (put_block (block_long s) bs e (block_with (block_long s) l n xs))
inserted s None l n xs bs = bs
