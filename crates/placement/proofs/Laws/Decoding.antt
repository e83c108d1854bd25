-- Bytes that are a block's are those of the block read back from them.
use Rattle.std.proofs.Common.{◌≡◌, ℕ, zero, suc, ◌+◌, ◌-◌, ◌*◌, ◌<◌, ◌≤◌, Bool, cond, eqb, ◌≢◌, List, [], ◌∷◌, ◌++◌, map, length, get_or, take, drop, replicate, sym, refl, ap, ◌∙◌, subst, true≢false, suc-mul, add_comm, zero-mul, arith, length-drop, take-append-drop, length-take-le, drop-drop, eq-eqb, ne_eqb}
use lib.ListN.{length-map}
use Rattle.sizes.specs.Numbers.{big, field, rows, rows_in}
use Rattle.placement.specs.Decode.{node_in, nodes_from, head_label, chunk_of, block_of, cut, blocks_in}
use Rattle.placement.specs.Chunks.{node_bytes, nodes_bytes, block_bytes, all_bytes, Chunk}
use Rattle.sizes.specs.Sizes.{row}
use Rattle.sizes.specs.Header.{block_long}
use Rattle.sizes.proofs.Laws.Sizes.{row_least}
use Rattle.sizes.proofs.Laws.HeaderLoops.{rows_room}
use Rattle.sizes.specs.Parts.{block_in}
use Rattle.placement.specs.Blocks.{Block, empty, holds}
use Rattle.sizes.specs.declared.Sizes.{Sizes}
use Rattle.placement.proofs.Laws.Bridge.{Good, free, held, AllGood, good_none, good_more}
use Rattle.placement.proofs.Laws.Cells.{cut_length, length_zero}
use Rattle.placement.proofs.Laws.Rows.{rows_count, rows_some, rows_again, each_read}
use Rattle.sizes.proofs.Laws.Numbers.{Bytes, bytes_take, bytes_drop, take_more, field_again, field_less}
use Rattle.placement.specs.Maps.{Fine}

module _ (w : ℕ) (least : 12 ≤ w) where
  pub node_again : (xs : List ℕ) → w ≤ length xs → Bytes xs → node_bytes w (node_in w xs) ≡ take w xs
  unfolding node_bytes node_in
  node_again xs h b =
      let e : 12 + (w - 12) ≡ w = omega arith in
      rw (field_again 0 4 xs (omega arith) b, field_again 4 4 xs (omega arith) b, field_again 8 4 xs (omega arith) b, field_again 12 (w - 12) xs (omega arith) b, take_more 4 4 xs, take_more 8 4 xs, take_more 12 (w - 12) xs, e)

  pub nodes_again : (k : ℕ) (xs : List ℕ) → w * k ≤ length xs → Bytes xs → nodes_bytes w (nodes_from w k xs) ≡ take (w * k) xs
  nodes_again = rows_again w (node_in w) (node_bytes w) node_again

  -- a node read from bytes is one that bytes can hold
  fine_read : (xs : List ℕ) → w ≤ length xs → Bytes xs → Fine w (node_in w xs)
  unfolding node_in
  fine_read xs h b =
      record {
        key = field_less 0 4 xs (omega arith) b;
        total = field_less 4 4 xs (omega arith) b;
        displayed = field_less 8 4 xs (omega arith) b;
        price = field_less 12 (w - 12) xs (omega arith) b;
      }

pub nodes_count : (w k : ℕ) (xs : List ℕ) → length (nodes_from w k xs) ≡ k
nodes_count w = rows_count w (node_in w)

-- what is asked of the bytes of one block: all zero, or a label, nodes and zeros
pub data Clean (s : Sizes) (x : List ℕ) : Type 0 where
  zeros : get_or x 0 0 ≡ 0 → x ≡ replicate (block_long s) 0 → Clean s x
  filled : 0 < get_or x 0 0 → 0 < get_or x 1 0 → get_or x 1 0 ≤ s.nodes → drop (8 + row s * get_or x 1 0) x ≡ replicate (row s * (s.nodes - get_or x 1 0)) 0 → Clean s x

front_two : (x : List ℕ) → 2 ≤ length x → get_or x 0 0 ∷ get_or x 1 0 ∷ [] ≡ take 2 x
front_two [] h = absurd (omega arith)
front_two (a ∷ []) h = absurd (omega arith)
front_two (a ∷ b ∷ x) h = refl

five_parts : (k : ℕ) (a b c n z x : List ℕ) → a ≡ take 2 x → b ≡ take 2 (drop 2 x) → c ≡ take 4 (drop 4 x) → n ≡ take k (drop 8 x) → z ≡ drop (8 + k) x → a ++ b ++ c ++ n ++ z ≡ x
five_parts k a b c n z x ea eb ec en ez = rw (ea, eb, ec, en, ez, take_more 2 2 x, take_more 4 4 x, take_more 8 k x) (take-append-drop (8 + k) x)

chunk_again : (s : Sizes) (x : List ℕ) → length x ≡ 8 + row s * s.nodes → Bytes x → get_or x 1 0 ≤ s.nodes → drop (8 + row s * get_or x 1 0) x ≡ replicate (row s * (s.nodes - get_or x 1 0)) 0
    → block_bytes s (holds (chunk_of (row s) x)) ≡ x
unfolding block_bytes chunk_of head_label
chunk_again s x long b few rest =
    let n : length (nodes_from (row s) (get_or x 1 0) (drop 8 x)) ≡ get_or x 1 0 = nodes_count (row s) (get_or x 1 0) (drop 8 x) in
    let d : length (drop 8 x) ≡ row s * s.nodes = simp length-drop (omega arith) in
    five_parts (row s * get_or x 1 0) (get_or x 0 0 ∷ length (nodes_from (row s) (get_or x 1 0) (drop 8 x)) ∷ []) (big 2 (field 2 2 x)) (big 4 (field 4 4 x))
    (nodes_bytes (row s) (nodes_from (row s) (get_or x 1 0) (drop 8 x))) (replicate (row s * (s.nodes - length (nodes_from (row s) (get_or x 1 0) (drop 8 x)))) 0) x
    (ap (λ (k : ℕ). get_or x 0 0 ∷ k ∷ []) n ∙ front_two x (omega arith)) (field_again 2 2 x (omega arith) b) (field_again 4 4 x (omega arith) b)
    (nodes_again (row s) (row_least s) (get_or x 1 0) (drop 8 x) (omega (arith, rows_room (row s) (get_or x 1 0) s.nodes few)) (bytes_drop 8 x b)) (ap (λ (k : ℕ). replicate (row s * (s.nodes - k)) 0) n ∙ sym rest)

empty_again : (s : Sizes) → block_bytes s empty ≡ replicate (block_long s) 0
unfolding block_bytes
empty_again s = refl

-- BYTES OF A BLOCK are those of the block read back
pub block_again : (s : Sizes) (x : List ℕ) → length x ≡ block_long s → Bytes x → Clean s x → block_bytes s (block_of (row s) x) ≡ x
unfolding block_of block_long
block_again s x long b (zeros z e) = ap (λ (t : Bool). block_bytes s (cond t empty (holds (chunk_of (row s) x)))) (eq-eqb (get_or x 0 0) 0 z) ∙ empty_again s ∙ sym e
block_again s x long b (filled l one few rest) = rw (ne_eqb (get_or x 0 0) 0 (omega arith)) (chunk_again s x long b few rest)

-- .. and that block is one that bytes can hold
pub block_holdable : (s : Sizes) (x : List ℕ) → length x ≡ block_long s → Bytes x → Clean s x → Good s (block_of (row s) x)
unfolding block_of block_long chunk_of head_label
block_holdable s x long b (zeros z e) = rw (eq-eqb (get_or x 0 0) 0 z) free
block_holdable s x long b (filled l one few rest) =
    rw (ne_eqb (get_or x 0 0) 0 (omega arith))
    (held {c = chunk_of (row s) x} (record {
      level = l;
      first = field_less 4 4 x (omega arith) b;
      number = field_less 2 2 x (omega arith) b;
      fine = each_read (row s) (node_in (row s)) (Fine (row s)) (fine_read (row s) (row_least s)) (get_or x 1 0) (drop 8 x) (simp length-drop (omega (arith, rows_room (row s) (get_or x 1 0) s.nodes few))) (bytes_drop 8 x b);
      nodes = rw nodes_count few;
    }))

-- .. and its chunk has nodes
pub block_full : (s : Sizes) (x : List ℕ) → Clean s x → (c : Chunk) → block_of (row s) x ≡ holds c → c.nodes ≢ []
unfolding block_of chunk_of
block_full s x (zeros z e) c h =
    let f : cond (eqb (get_or x 0 0) 0) empty (holds (chunk_of (row s) x)) ≡ empty = rw (eq-eqb (get_or x 0 0) 0 z) in
    absurd (true≢false (cc (f, h)))
block_full s x (filled l one few rest) c h =
    let f : cond (eqb (get_or x 0 0) 0) empty (holds (chunk_of (row s) x)) ≡ holds (chunk_of (row s) x) = rw (ne_eqb (get_or x 0 0) 0 (omega arith)) in
    let g : chunk_of (row s) x ≡ c = cc (f, h) in
    subst (λ (d : Chunk). d.nodes ≢ []) g (rows_some (row s) (node_in (row s)) (get_or x 1 0) (drop 8 x) one)

-- ALL BLOCKS
module _ (s : Sizes) where
  abbrev CutClean : (m : ℕ) → List ℕ → Type 0
  CutClean m l = (i : ℕ) → i < m → Clean s (take (block_long s) (drop (i * block_long s) l))

  first_clean : (m : ℕ) (l : List ℕ) → CutClean (suc m) l → Clean s (take (block_long s) l)
  first_clean m l c = subst (λ (z : List ℕ). Clean s (take (block_long s) z)) (ap (λ (k : ℕ). drop k l) (zero-mul (block_long s))) (c 0 (omega arith))

  rest_clean : (m : ℕ) (l : List ℕ) → CutClean (suc m) l → CutClean m (drop (block_long s) l)
  rest_clean m l c i h =
      let e : suc i * block_long s ≡ block_long s + i * block_long s = suc-mul i (block_long s) ∙ add_comm _ _ in
      rw drop-drop (subst (λ (k : ℕ). Clean s (take (block_long s) (drop k l))) e (c (suc i) (omega arith)))

  abbrev Full : List (Block Chunk) → Type 0
  Full bl = (i : ℕ) (c : Chunk) → get_or bl i empty ≡ holds c → c.nodes ≢ []

  -- what blocks read from clean bytes are: those bytes again, blocks that bytes can hold, and full ones with nodes
  record Read (l : List ℕ) (bl : List (Block Chunk)) : Type 0 where
    again : all_bytes s bl ≡ l
    good : AllGood s bl
    full : Full bl

  cut_read : (m : ℕ) (l : List ℕ) → length l ≡ m * block_long s → Bytes l → CutClean m l → Read l (map (block_of (row s)) (cut (block_long s) m l))
  unfolding rows rows_in
  cut_read zero l e b c = record { again = sym (length_zero l (e ∙ zero-mul (block_long s))); good = good_none; full = λ i c h. absurd (true≢false cc) }
  cut_read (suc m) l e b c =
      let x = take (block_long s) l in
      let n = suc-mul m (block_long s) in
      let long : length x ≡ block_long s = length-take-le (block_long s) l (omega arith) in
      let bytes = bytes_take (block_long s) l b in
      let clean = first_clean m l c in
      let r = cut_read m (drop (block_long s) l) (simp length-drop (omega arith)) (bytes_drop (block_long s) l b) (rest_clean m l c) in
      record {
        again = rw (block_again s x long bytes clean, r.again) (take-append-drop (block_long s) l);
        good = good_more (block_holdable s x long bytes clean) r.good;
        full = full (block_full s x clean) r.full;
      }
    where
      full : ((c : Chunk) → block_of (row s) (take (block_long s) l) ≡ holds c → c.nodes ≢ []) → Full (map (block_of (row s)) (cut (block_long s) m (drop (block_long s) l)))
          → Full (map (block_of (row s)) (cut (block_long s) (suc m) l))
      full one others zero c h = one c h
      full one others (suc i) c h = others i c h

  module _ (bs : List ℕ) (long : length bs ≡ 53 + s.blocks * block_long s) (bytes : Bytes bs) (clean : (i : ℕ) → i < s.blocks → Clean s (block_in (block_long s) bs i)) where
    cuts : CutClean s.blocks (drop 53 bs)
    unfolding block_in
    cuts i h = rw drop-drop (clean i h)

    read : Read (drop 53 bs) (blocks_in s bs)
    unfolding blocks_in
    read = cut_read s.blocks (drop 53 bs) (simp length-drop (omega arith)) (bytes_drop 53 bs bytes) cuts

    -- THE BYTES are a header and the blocks read back, which bytes can hold
    pub table_again : bs ≡ take 53 bs ++ all_bytes s (blocks_in s bs)
    table_again = rw read.again (sym (take-append-drop 53 bs))

    pub blocks_good : AllGood s (blocks_in s bs)
    blocks_good = read.good

    pub blocks_many : length (blocks_in s bs) ≡ s.blocks
    unfolding blocks_in
    blocks_many = length-map (cut (block_long s) s.blocks (drop 53 bs)) (block_of (row s)) ∙ cut_length (block_long s) s.blocks (drop 53 bs)

    pub blocks_full : Full (blocks_in s bs)
    blocks_full = read.full
