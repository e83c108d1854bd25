-- BLOCKS OF ANY KIND IN BYTES: any coding of a block in w bytes with its label at the front. What is read, written, moved and searched in the bytes of a table is so in its list of blocks.
use Rattle.std.proofs.Common.{◌≡◌, ℕ, zero, suc, ◌+◌, ◌*◌, ◌%◌, ◌<◌, ◌≤◌, Bool, List, [], ◌∷◌, ◌++◌, map, length, get_or, take, drop, set, replicate, sym, refl, ap, ◌∙◌, mod-lt, suc-mul, add_comm, zero-mul, arith, length-append, length-set, take_at, drop_at}
use lib.Seq.{sets, sets-eq, drop-append-add}
use Rattle.placement.specs.Blocks.{Block, empty}
use Rattle.sizes.specs.Numbers.{rows, rows_in}
use Rattle.sizes.specs.Parts.{block_in, put_block, clear_in, copy_in, swap_in}
use Rattle.placement.specs.Decode.{head_label, cut}
use Rattle.placement.specs.Place.{label_in, bytes, Store, pull, settle, probe}
use Rattle.placement.specs.declared.Label.{Label}
use Rattle.placement.proofs.Laws.Cells.{sets_past, label_cell, Same, pull_same, settle_same}

-- A CODING: `Good` says of a block that bytes can hold it
pub record Coding {A : Type 0} (w : ℕ) (code : Block A → List ℕ) (label : Block A → Label) (Good : Block A → Type 0) : Type 0 where
  pub wide : 8 ≤ w
  pub clear : code empty ≡ replicate w 0
  pub free : Good empty
  pub long : {b : Block A} → Good b → length (code b) ≡ w
  pub head : {b : Block A} → Good b → head_label (code b) ≡ label b

pub data All {A : Type 0} (Good : Block A → Type 0) : List (Block A) → Type 0 where
  good_none : All Good []
  good_more : {b : Block A} {bl : List (Block A)} → Good b → All Good bl → All Good (b ∷ bl)

-- BLOCKS as a store: an edit on a list of blocks, and on their bytes, is one edit
abbrev pub listed : {A : Type 0} → (Block A → Label) → Store (List (Block A))
listed label =
    record {
      look = λ bl i. label (get_or bl i empty);
      copy = λ bl i j. set bl j (get_or bl i empty);
      swap = λ bl i j. set (set bl i (get_or bl j empty)) j (get_or bl i empty);
      clear = λ bl i. set bl i empty;
    }

module _ {A : Type 0} {w : ℕ} {code : Block A → List ℕ} {label : Block A → Label} {Good : Block A → Type 0} (q : Coding w code label Good) where
  pub good_at : {bl : List (Block A)} → All Good bl → (i : ℕ) → Good (get_or bl i empty)
  good_at good_none i = q.free
  good_at (good_more k r) zero = k
  good_at (good_more k r) (suc i) = good_at r i

  pub good_set : {bl : List (Block A)} {b : Block A} → All Good bl → (i : ℕ) → Good b → All Good (set bl i b)
  good_set good_none i kb = good_none
  good_set (good_more k r) zero kb = good_more kb r
  good_set (good_more k r) (suc i) kb = good_more k (good_set r i kb)

  pub rows_long : {bl : List (Block A)} → All Good bl → length (rows code bl) ≡ length bl * w
  unfolding rows
  rows_long good_none = sym (zero-mul w)
  rows_long (good_more {b = b} k r) = rw (length-append (code b), q.long k, rows_long r, suc-mul) (add_comm _ _)

  -- a block further on in the bytes
  further : {b : Block A} → Good b → (i : ℕ) → suc i * w ≡ length (code b) + i * w
  further k i = rw (suc-mul, q.long k) (add_comm _ _)

  row_at : {bl : List (Block A)} → All Good bl → (i : ℕ) → i < length bl → take w (drop (i * w) (rows code bl)) ≡ code (get_or bl i empty)
  unfolding rows
  row_at good_none i h = absurd (omega arith)
  row_at (good_more k r) zero h = rw zero-mul (take_at _ _ w (q.long k))
  row_at (good_more k r) (suc i) h = rw (further k i, drop-append-add) (row_at r i (omega arith))

  row_set : {bl : List (Block A)} {c : Block A} → All Good bl → (i : ℕ) → i < length bl → Good c → sets (rows code bl) (i * w) (code c) ≡ rows code (set bl i c)
  unfolding rows
  row_set good_none i h g = absurd (omega arith)
  row_set {c = c} (good_more {b = b} {bl = bl} k r) zero h g =
      let f : 0 + length (code c) ≤ length (code b ++ rows code bl) = simp length-append (omega (arith, q.long k, q.long g)) in
      rw (zero-mul, sets-eq (code c) (code b ++ rows code bl) 0 f, drop_at (code b) (rows code bl) (0 + length (code c)) (omega (arith, q.long k, q.long g)))
  row_set {c = c} (good_more {b = b} {bl = bl} k r) (suc i) h g = rw (further k i) (sets_past (code b) (rows code bl) (i * w) (code c) ∙ rw (row_set r i (omega arith) g))

  -- blocks that are read back one by one are read back
  pub blocks_again : (read : List ℕ → Block A) → ((b : Block A) → Good b → read (code b) ≡ b) → {bl : List (Block A)} → All Good bl
      → map read (cut w (length bl) (rows code bl)) ≡ bl
  unfolding rows rows_in
  blocks_again read back good_none = refl
  blocks_again read back (good_more {b = b} {bl = bl} k r) =
      rw (take_at (code b) (rows code bl) w (q.long k), drop_at (code b) (rows code bl) w (q.long k), back b k, blocks_again read back r)

  -- THE WHOLE WAY: what is done to the bytes of a head and blocks is done to the blocks
  module _ (m : ℕ) (pos : 0 < m) (hd : List ℕ) (eh : length hd ≡ 53) (bl : List (Block A)) (v : All Good bl) (l : length bl ≡ m) where
    pub block_read : (i : ℕ) → i < m → block_in w (hd ++ rows code bl) i ≡ code (get_or bl i empty)
    unfolding block_in
    block_read i h = rw (← eh, drop-append-add) (row_at v i (omega arith))

    pub block_write : (i : ℕ) (b : Block A) → i < m → Good b → put_block w (hd ++ rows code bl) i (code b) ≡ hd ++ rows code (set bl i b)
    unfolding put_block
    block_write i b h k = rw (← eh, sets_past hd (rows code bl) (i * w) (code b), row_set v i (omega arith) k)

    pub label_blocks : (i : ℕ) → i < m → label_in w (hd ++ rows code bl) i ≡ label (get_or bl i empty)
    label_blocks i h = label_cell w (hd ++ rows code bl) i q.wide ∙ ap head_label (block_read i h) ∙ q.head (good_at v i)

    pub probe_blocks : (before : Label → Label → Bool) (want : Label) (k i : ℕ) → probe before (label_in w (hd ++ rows code bl)) m want k i ≡ probe before (λ j. label (get_or bl j empty)) m want k i
    unfolding probe
    probe_blocks before want zero i = refl
    probe_blocks before want (suc k) i = rw (label_blocks (i % m) (mod-lt i pos), probe_blocks before want k (suc i))

  -- .. so the bytes and the blocks are two stores that an edit treats alike
  module _ (m : ℕ) (pos : 0 < m) (hd : List ℕ) (eh : length hd ≡ 53) where
    abbrev Fit : List (Block A) → Type 0
    Fit bl = All Good bl × (length bl ≡ m)

    put : (x : List (Block A)) → Fit x → (i : ℕ) (b : Block A) → i < m → Good b → put_block w (hd ++ rows code x) i (code b) ≡ hd ++ rows code (set x i b)
    put x v = block_write m pos hd eh x v.0 v.1

    same : Same (bytes w) (listed label) m (λ bl. hd ++ rows code bl) Fit
    unfolding copy_in swap_in clear_in
    same =
        let at : (x : List (Block A)) → Fit x → (i : ℕ) → i < m → block_in w (hd ++ rows code x) i ≡ code (get_or x i empty) =
        λ x v. block_read m pos hd eh x v.0 v.1 in
        let set_fit : (x : List (Block A)) → Fit x → (i j : ℕ) → Fit (set x i (get_or x j empty)) =
        λ x v i j. (good_set v.0 i (good_at v.0 j), length-set x i _ ∙ v.1) in
        record {
          look = λ x v. label_blocks m pos hd eh x v.0 v.1;
          copy = λ x v i j li lj. rw (at x v i li) (put x v j _ lj (good_at v.0 i));
          swap = λ x v i j li lj. rw (at x v i li, at x v j lj, put x v i _ li (good_at v.0 j)) (put (set x i _) (set_fit x v i j) j _ lj (good_at v.0 i));
          clear = λ x v i l. rw (← q.clear) (put x v i empty l q.free);
          copy_valid = λ x v i j li lj. set_fit x v j i;
          swap_valid = λ x v i j li lj. (good_set (set_fit x v i j).0 j (good_at v.0 i), length-set (set x i _) j _ ∙ (set_fit x v i j).1);
        }

    pub pull_blocks : (home : Label → ℕ) (k e i : ℕ) (bl : List (Block A)) → Fit bl → e < m
        → pull (bytes w) home m k e i (hd ++ rows code bl) ≡ hd ++ rows code (pull (listed label) home m k e i bl)
    pull_blocks = pull_same (bytes w) (listed label) m _ _ same pos

    pub settle_blocks : (before : Label → Label → Bool) (k e i : ℕ) (bl : List (Block A)) → Fit bl → e < m
        → settle (bytes w) before m k e i (hd ++ rows code bl) ≡ hd ++ rows code (settle (listed label) before m k e i bl)
    settle_blocks = settle_same (bytes w) (listed label) m _ _ same pos
