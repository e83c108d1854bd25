-- Blocks read back from bytes, one at a time: what a search found stands there.
use Rattle.std.proofs.Common.{Option, Some, None}
use mathlib.Core.Path.{◌≡◌, refl, sym, ap, ◌∙◌, subst}
use mathlib.Core.Bool.{Bool, true, false, cond, true≢false, false≢true}
use mathlib.Core.List.{List, [], ◌∷◌}
use Prim.Native.Nat.{ℕ, zero, suc, ◌+◌, ◌*◌, ◌-◌, ◌%◌, ◌≤◌, ◌<◌}
use native.Mathlib.Nat.{mod-lt, suc-mul, mul-suc, add_comm, zero-mul, add_assoc}
use native.Mathlib.Omega.{arith}
use borrow.Author.Tests.{ne_eqb}
use lib.ListN.{get_or, take, drop, get_or-map}
use lib.Seq.{drop-drop}
use Rattle.sizes.specs.Numbers.{field, rows_in}
use Rattle.sizes.specs.Sizes.{row}
use Rattle.sizes.specs.Header.{block_long}
use Rattle.placement.specs.Blocks.{empty, holds}
use Rattle.placement.specs.Chunks.{Chunk}
use Rattle.sizes.specs.Parts.{block_in}
use Rattle.placement.specs.Decode.{node_in, nodes_from, head_label, chunk_of, block_of, cut, blocks_in}
use Rattle.placement.specs.Labels.{label, before, same_label, home}
use Rattle.placement.specs.Place.{label_in, passes_label, probe, search_in, found_at}
use Rattle.sizes.specs.declared.Sizes.{Sizes}
use Rattle.placement.specs.declared.Order.{Order}
use Rattle.placement.specs.declared.Label.{Label}
use Rattle.sizes.proofs.Laws.Numbers.{field_drop, field_part}
use Rattle.sizes.proofs.Laws.Sizes.{row_least}
use Rattle.sizes.proofs.Laws.HeaderLoops.{rows_room}
use Rattle.sizes.proofs.Laws.Parts.{get_d_part}
use Rattle.placement.proofs.Laws.Cells.{label_cell}
use Rattle.placement.proofs.Laws.Labels.{same_is}
use Rattle.table.specs.Walk.{spot, chunk_spot, count_in}
use Rattle.table.proofs.Laws.Came.{chunk_read}

-- ---- A BLOCK of the table

cut_at : (w m i : ℕ) (l : List ℕ) → i < m → get_or (cut w m l) i [] ≡ take w (drop (i * w) l)
unfolding rows_in
cut_at w zero i l h = absurd (omega arith)
cut_at w (suc m) zero l h = rw (zero-mul w)
cut_at w (suc m) (suc i) l h = cut_at w m i (drop w l) (omega arith) ∙ rw (drop-drop, suc-mul i w, add_comm (i * w) w)

pub block_at : (s : Sizes) (bs : List ℕ) (i : ℕ) → i < s.blocks → get_or (blocks_in s bs) i empty ≡ block_of (row s) (block_in (block_long s) bs i)
unfolding blocks_in block_in block_of
block_at s bs i h =
    get_or-map (block_of (row s)) (cut (block_long s) s.blocks (drop 53 bs)) i []
    ∙ ap (block_of (row s)) (cut_at (block_long s) s.blocks i (drop 53 bs) h ∙ ap (take (block_long s)) (drop-drop (i * block_long s) 53 bs))

-- its nodes of r bytes, by the places in the whole table
module _ (r : ℕ) (least : 12 ≤ r) (w a : ℕ) (bs : List ℕ) where
  node_part : (k : ℕ) → k + r ≤ w → node_in r (drop k (take w (drop a bs))) ≡ node_in r (drop (a + k) bs)
  unfolding node_in
  node_part k h =
      let one : (n m : ℕ) → n + m ≤ r → field n m (drop k (take w (drop a bs))) ≡ field n m (drop (a + k) bs) =
      λ n m g. field_drop n m k (take w (drop a bs)) ∙ field_part (k + n) m w a bs (omega arith) ∙ ap (λ (z : ℕ). field z m bs) (sym (add_assoc a k n)) ∙ sym (field_drop n m (a + k) bs) in
      let p = one 0 4 (omega arith) in
      let q = one 4 4 (omega arith) in
      let v = one 8 4 (omega arith) in
      let u = one 12 (r - 12) (omega arith) in
      λ i. record { key = p i; total = q i; displayed = v i; price = u i }

  pub nodes_part : (n k : ℕ) → k + r * n ≤ w → nodes_from r n (drop k (take w (drop a bs))) ≡ nodes_from r n (drop (a + k) bs)
  unfolding rows_in
  nodes_part zero k h = refl
  nodes_part (suc n) k h =
      let e = mul-suc r n in
      let p = node_part k (omega (arith, e)) in
      let q : nodes_from r n (drop r (drop k (take w (drop a bs)))) ≡ nodes_from r n (drop r (drop (a + k) bs)) =
      ap (nodes_from r n) (drop-drop r k (take w (drop a bs))) ∙ nodes_part n (k + r) (omega (arith, e)) ∙ ap (nodes_from r n) (ap (λ (z : ℕ). drop z bs) (sym (add_assoc a k r)) ∙ sym (drop-drop r (a + k) bs)) in
      λ i. p i ∷ q i

-- a block that says at most B nodes: its chunk is its label and the nodes that the walk reads
pub chunk_says : (s : Sizes) (bs : List ℕ) (b : ℕ) → count_in (block_long s) bs b ≤ s.nodes → chunk_of (row s) (block_in (block_long s) bs b)
    ≡ record { label = label_in (block_long s) bs b; nodes = chunk_read s bs b }
unfolding chunk_of chunk_read block_in count_in block_long
chunk_says s bs b h =
    let w = 8 + row s * s.nodes in
    let a = 53 + b * w in
    let e = label_cell w bs b (omega arith) in
    let c : get_or (take w (drop a bs)) 1 0 ≡ get_or bs (a + 1) 0 = get_d_part w a bs 1 (omega arith) in
    let n : nodes_from (row s) (get_or (take w (drop a bs)) 1 0) (drop 8 (take w (drop a bs))) ≡ nodes_from (row s) (get_or bs (a + 1) 0) (drop (a + 8) bs) =
    ap (λ (k : ℕ). nodes_from (row s) k (drop 8 (take w (drop a bs)))) c
    ∙ nodes_part (row s) (row_least s) w a bs (get_or bs (a + 1) 0) 8 (omega (arith, rows_room (row s) (get_or bs (a + 1) 0) s.nodes h)) in
    λ i. record { label = sym e i; nodes = n i }

pub level_says : (s : Sizes) (bs : List ℕ) (b : ℕ) → get_or (block_in (block_long s) bs b) 0 0 ≡ (label_in (block_long s) bs b).level
unfolding head_label block_long
level_says s bs b = ap (λ (z : Label). z.level) (sym (label_cell (8 + row s * s.nodes) bs b (omega arith)))

-- ---- WHAT A SEARCH FINDS has the label

at_same : (a p : ℕ) → Some a ≡ Some p → a ≡ p
at_same a p e = cc

pub probe_at : (before : Label → Label → Bool) (look : ℕ → Label) (m : ℕ) (w : Label) (pos : 0 < m) (k i p : ℕ) → probe before look m w k i ≡ Some p → (p < m) × (same_label (look p) w ≡ true)
unfolding probe
probe_at before look m w pos zero i p e = absurd (true≢false cc)
probe_at before look m w pos (suc k) i p e = go (probe_at before look m w pos k (suc i) p) (passes_label before (look (i % m)) w) (same_label (look (i % m)) w) refl e
  where
    go : (probe before look m w k (suc i) ≡ Some p → (p < m) × (same_label (look p) w ≡ true)) → (t u : Bool) → same_label (look (i % m)) w ≡ u →
        cond t (probe before look m w k (suc i)) (cond u (Some (i % m)) None) ≡ Some p → (p < m) × (same_label (look p) w ≡ true)
    go ih true u q h = ih h
    go ih false true q h =
        let f = at_same (i % m) p h in
        (subst (λ (z : ℕ). z < m) f (mod-lt i pos), subst (λ (z : ℕ). same_label (look z) w ≡ true) f q)
    go ih false false q h = absurd (true≢false cc)

-- a chunk that stands in a block, where the search for its label ends
pub record Standing (s : Sizes) (bs : List ℕ) (c : Chunk) : Type 0 where
  pub at : ℕ
  pub inside : at < s.blocks
  pub search : search_in s bs c.label ≡ Some at
  pub is : get_or (blocks_in s bs) at empty ≡ holds c

pub standing : (s : Sizes) (bs : List ℕ) → 0 < s.blocks → (l f i : ℕ) (ns : List Order) → 0 < l → found_at (chunk_spot s bs l f i) ≡ true →
    count_in (block_long s) bs (spot (chunk_spot s bs l f i)) ≤ s.nodes → chunk_read s bs (spot (chunk_spot s bs l f i)) ≡ ns → Standing s bs (record { label = label l f i; nodes = ns })
unfolding chunk_spot search_in found_at spot block_of
standing s bs pos l f i ns h e few nodes = go (chunk_spot s bs l f i) refl e few nodes
  where
    go : (r : Option ℕ) → chunk_spot s bs l f i ≡ r → found_at r ≡ true → count_in (block_long s) bs (spot r) ≤ s.nodes → chunk_read s bs (spot r) ≡ ns → Standing s bs (record { label = label l f i; nodes = ns })
    go None q t few n = absurd (false≢true t)
    go (Some p) q t few n =
        let v = probe_at (before s) (label_in (block_long s) bs) s.blocks (label l f i) pos s.blocks (home s (label l f i)) p q in
        let z = same_is (label_in (block_long s) bs p) (label l f i) v.1 in
        let lev : get_or (block_in (block_long s) bs p) 0 0 ≡ l = level_says s bs p ∙ ap (λ (x : Label). x.level) z in
        let b : block_of (row s) (block_in (block_long s) bs p) ≡ holds (chunk_of (row s) (block_in (block_long s) bs p)) = rw (ne_eqb (get_or (block_in (block_long s) bs p) 0 0) 0 (λ y. omega (arith, y, lev))) in
        let c : chunk_of (row s) (block_in (block_long s) bs p) ≡ record { label = label l f i; nodes = ns } =
        chunk_says s bs p few ∙ (λ j. record { label = z j; nodes = n j }) in
        record { at = p; inside = v.0; search = q; is = block_at s bs p v.0 ∙ b ∙ ap holds c }
