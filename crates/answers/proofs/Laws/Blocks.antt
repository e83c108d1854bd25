-- The blocks of an image, printed one line each.
use mathlib.Core.Path.{◌≡◌, ap, sym, ◌∙◌, subst}
use mathlib.Core.Logic.{◌≢◌}
use mathlib.Core.Bool.{true}
use mathlib.Core.List.{List, [], ◌∷◌, ◌++◌, append_assoc, map-append}
use Prim.Native.Nat.{ℕ, zero, suc, ◌+◌, ◌*◌, ◌-◌, ◌≤◌, ◌<◌}
use native.Mathlib.Numerals.{add-one}
use native.Mathlib.Nat.{add-zero, zero-add}
use native.Mathlib.Omega.{arith}
use lib.ListN.{length, get_or, set, take, drop, replicate, length-drop, length-map, get_or-replicate}
use lib.Seq.{length-take-le, take-suc-set, take_all}
use borrow.Author.Tests.{eq-eqb, ne_eqb}
use Rattle.lines.specs.Text.{row, dash}
use Rattle.sizes.specs.Numbers.{field}
use Rattle.sizes.specs.Sizes.{row as row_bytes}
use Rattle.sizes.specs.Header.{block_long, header, sizes_in}
use Rattle.placement.specs.Blocks.{Block, empty, holds}
use Rattle.placement.specs.Chunks.{Chunk, block_bytes}
use Rattle.placement.specs.Decode.{node_of, nodes_from, head_label, chunk_of, block_of, cut, blocks_in}
use Rattle.sizes.specs.Parts.{block_in}
use Rattle.placement.specs.declared.Order.{Order}
use Rattle.sizes.specs.declared.Sizes.{Sizes}
use Rattle.sizes.proofs.Laws.Parts.{get_d_part}
use Rattle.sizes.proofs.Laws.Sizes.{some_blocks}
use Rattle.sizes.proofs.Laws.HeaderLoops.{rows_room}
use Rattle.placement.proofs.Laws.Cells.{cut_length}
use Rattle.placement.proofs.Laws.Decoding.{nodes_count}
use Rattle.placement.proofs.Laws.Bridge.{Good, free, held, good_at}
use Rattle.placement.proofs.Laws.Tables.{sound_blocks}
use Rattle.placement.proofs.Laws.Edits.{block_bytes_at}
use Rattle.sizes.proofs.Laws.Bytes.{offset_end}
use Rattle.skiplist.specs.Image.{is_image, orders_in}
use Rattle.readings.proofs.Laws.Chunked.{kept}
use Rattle.readings.proofs.Laws.Answers.{known_image}
use Rattle.table.specs.declared.Refusal.{Refusal}
use Rattle.table.specs.Calls.{check_number}
use Rattle.table.specs.Refusals.{number_of}
use Rattle.table.proofs.Laws.Standing.{block_at}
use Rattle.answers.specs.Answers.{answer_lines, keys_of, block_line, block_lines, image_lines, blocks_lines}
use Rattle.answers.specs.Output.{Said}
use Rattle.answers.specs.declared.printer.Printer.{Printer}
use Rattle.answers.proofs.Laws.Orders.{nodes_more}
use Rattle.answers.proofs.Laws.Output.{said_on}
use Rattle.answers.proofs.Laws.Answers.{refused_lines}

-- AN IMAGE: no block says more than B nodes
second_most : (s : Sizes) (b : Block Chunk) → Good s b → get_or (block_bytes s b) 1 0 ≤ s.nodes
unfolding block_bytes block_long
second_most s empty free = omega (arith, get_or-replicate {A = ℕ} (block_long s) 1 0 0 (omega arith))
second_most s (holds c) (held k) = k.nodes

module _ (bs : List ℕ) (e : is_image bs ≡ true) where
  count_most : (i : ℕ) → i < (sizes_in bs).blocks → get_or bs (53 + i * block_long (sizes_in bs) + 1) 0 ≤ (sizes_in bs).nodes
  unfolding block_in
  count_most i h =
      let s = sizes_in bs in
      let k = known_image bs e in
      let t = kept s bs k in
      let all = sound_blocks s _ _ t.blocks t.sound t.keeps in
      let here : block_in (block_long s) bs i ≡ block_bytes s (get_or t.blocks i empty) =
      ap (λ (z : List ℕ). block_in (block_long s) z i) t.is ∙ block_bytes_at s (some_blocks s t.good) (header s (length (orders_in bs))) t.head t.blocks all t.keeps.long i h in
      subst (λ (n : ℕ). n ≤ s.nodes) (ap (λ (z : List ℕ). get_or z 1 0) (sym here) ∙ get_d_part (block_long s) (53 + i * block_long s) bs 1 (omega (arith, k.shaped.width)))
      (second_most s (get_or t.blocks i empty) (good_at s all i))

-- ONE BLOCK
-- one key more behind the front of a row
module _ (w : ℕ) (nodes head rows : List ℕ) (i : ℕ) where
  pub keying_more : (v : ℕ) → length rows ≡ 36 → i < 32 → (node_of w nodes (w * i)).key ≡ v → take (4 + i) rows ≡ take 4 head ++ keys_of (nodes_from w i nodes)
      → take (4 + (i + 1)) (set rows (4 + i) v) ≡ take 4 head ++ keys_of (nodes_from w (i + 1) nodes)
  keying_more v l h own is =
      let four : 4 + (i + 1) ≡ suc (4 + i) = omega arith in
      let key : keys_of (nodes_from w (i + 1) nodes) ≡ keys_of (nodes_from w i nodes) ++ (v ∷ []) =
      ap keys_of (nodes_more w i nodes) ∙ map-append (λ (o : Order). o.key) (nodes_from w i nodes) (node_of w nodes (w * i) ∷ [])
      ∙ ap (λ (y : ℕ). keys_of (nodes_from w i nodes) ++ (y ∷ [])) own in
      rw (four, take-suc-set rows (4 + i) v (omega arith), is, key) (append_assoc (take 4 head) (keys_of (nodes_from w i nodes)) (v ∷ []))

-- the front of a row
pub head_made : (a b c n a' b' c' : ℕ) → a ≡ a' → b ≡ b' → c ≡ c' → take 4 (set (set (set (set (replicate 36 0) 0 a) 1 b) 2 c) 3 n) ≡ a' ∷ b' ∷ c' ∷ n ∷ []
head_made a b c n a' b' c' ea eb ec = rw (ea, eb, ec)

-- the bytes from a place on
pub rest_is : (k : ℕ) (x : List ℕ) → take (length x - k) (drop k x) ≡ drop k x
rest_is k x = take_all (length x - k) (drop k x) (simp length-drop (omega arith))

-- a block, by its bytes x
module _ (x : List ℕ) (w number : ℕ) (old new : Printer) where
  pub block_empty : get_or x 0 0 ≡ 0 → Said old (dash number ∷ []) new → Said old (block_line number (block_of w x) ∷ []) new
  unfolding block_of block_line
  block_empty z s = rw (eq-eqb _ 0 z) s

  pub block_full : get_or x 0 0 ≢ 0 → (n : ℕ) → n ≡ get_or x 1 0 → (head rows : List ℕ) → take 4 head ≡ get_or x 0 0 ∷ field 2 2 x ∷ field 4 4 x ∷ n ∷ []
      → take (4 + n) rows ≡ take 4 head ++ keys_of (nodes_from w n (drop 8 x)) → Said old (row number (take (4 + n) rows) ∷ []) new → Said old (block_line number (block_of w x) ∷ []) new
  unfolding block_of block_line chunk_of head_label
  block_full z n c head rows eh er s =
      let full : block_line number (holds (chunk_of w x)) ≡ row number (take (4 + n) rows) = rw (← c, nodes_count w n (drop 8 x), er, eh) in
      rw (ne_eqb (get_or x 0 0) 0 z, full) s

-- ALL BLOCKS
lines_more : (j i : ℕ) (bl : List (Block Chunk)) → i < length bl → block_lines j (take (suc i) bl) ≡ block_lines j (take i bl) ++ (block_line (j + i) (get_or bl i empty) ∷ [])
unfolding block_lines
lines_more j i [] h = absurd (omega arith)
lines_more j zero (b ∷ bl) h = rw add-zero
lines_more j (suc i) (b ∷ bl) h =
    let e : suc j + i ≡ j + suc i = omega arith in
    ap (λ (z : List (List ℕ)). block_line j b ∷ z) (lines_more (suc j) i bl (omega arith) ∙ rw e)

-- an image whose header says that each block is of `size` bytes, with nodes of w bytes
pub record Laid (bs : List ℕ) (size w : ℕ) : Type 0 where
  pub image : is_image bs ≡ true
  pub size_is : size ≡ block_long (sizes_in bs)
  pub row_is : w ≡ row_bytes (sizes_in bs)

-- the loop of `say_image` is at a block
module _ (bs : List ℕ) (size w : ℕ) (l : Laid bs size w) where
  many : length (blocks_in (sizes_in bs) bs) ≡ (sizes_in bs).blocks
  unfolding blocks_in
  many =
      let s = sizes_in bs in
      length-map (cut (block_long s) s.blocks (drop 53 bs)) _ ∙ cut_length (block_long s) s.blocks (drop 53 bs)

  pub walking_end : (old out : Printer) (i : ℕ) → (sizes_in bs).blocks ≤ i → Said old (block_lines 0 (take i (blocks_in (sizes_in bs) bs))) out → Said old (image_lines bs) out
  walking_end old out i h = subst (λ (z : List (Block Chunk)). Said old (block_lines 0 z) out) (take_all i _ (omega (arith, many)))

  module _ (at i : ℕ) (here : at ≡ 53 + i * size) (h : i < (sizes_in bs).blocks) where
    pub walking_room : at + size ≤ length bs
    walking_room =
        let end = offset_end i (sizes_in bs).blocks (block_long (sizes_in bs)) size l.size_is h in
        omega (arith, end, here, l.size_is, (known_image bs l.image).shaped.long)

    few : get_or bs (at + 1) 0 ≤ (sizes_in bs).nodes
    few = rw (here, l.size_is) (count_most bs l.image i h)

    count_is : get_or (take size (drop at bs)) 1 0 ≡ get_or bs (at + 1) 0
    count_is = get_d_part size at bs 1 (omega (arith, l.size_is, (known_image bs l.image).shaped.width))

    pub walking_few : get_or (take size (drop at bs)) 1 0 ≤ 32
    walking_few = rw count_is (omega (arith, few, (known_image bs l.image).shaped.few))

    pub walking_count : 8 + w * get_or (take size (drop at bs)) 1 0 ≤ length (take size (drop at bs))
    walking_count =
        let n = (sizes_in bs).nodes in
        let long : length (take size (drop at bs)) ≡ size = length-take-le size (drop at bs) (simp length-drop (omega (arith, walking_room))) in
        rw (count_is, long)
        (omega (arith, rows_room w (get_or bs (at + 1) 0) n few, ap (λ (z : ℕ). z * n) l.row_is, l.size_is, (known_image bs l.image).shaped.width))

    pub walking_more : (old out new : Printer) → Said old (block_lines 0 (take i (blocks_in (sizes_in bs) bs))) out → Said out (block_line i (block_of w (take size (drop at bs))) ∷ []) new
        → Said old (block_lines 0 (take (i + 1) (blocks_in (sizes_in bs) bs))) new
    unfolding block_in
    walking_more old out new said s =
        let this : get_or (blocks_in (sizes_in bs) bs) i empty ≡ block_of w (take size (drop at bs)) =
        block_at (sizes_in bs) bs i h ∙ rw (here, l.size_is, l.row_is) in
        rw (add-one, lines_more 0 i (blocks_in (sizes_in bs) bs) (omega (arith, many)), zero-add i, this) (said_on old out new _ _ said s)

-- THE CALL
module _ (x : List ℕ) (old new : Printer) where
  pub blocks_no : (e : Refusal) → number_of e ≡ check_number x → Said old (row (number_of e) [] ∷ []) new → Said old (blocks_lines x) new
  unfolding blocks_lines
  blocks_no e h s = rw (← h, refused_lines) s

  pub blocks_yes : 0 ≡ check_number x → (mid : Printer) → Said old (row 0 [] ∷ []) mid → Said mid (image_lines x) new → Said old (blocks_lines x) new
  unfolding blocks_lines answer_lines
  blocks_yes h mid a b = rw (← h) (said_on old mid new _ _ a b)
