-- One node changed in place.
use Rattle.std.proofs.Common.{Some}
use mathlib.Core.Path.{◌≡◌, refl, sym, ap, ◌∙◌}
use mathlib.Core.List.{List, [], ◌∷◌, ◌++◌, append_assoc}
use Prim.Native.Nat.{ℕ, zero, suc, ◌+◌, ◌*◌, ◌-◌, ◌/◌, ◌%◌, ◌≤◌, ◌<◌}
use native.Mathlib.Decide.{dec_lt}
use native.Mathlib.Nat.{zero-add, suc-mul, mul-le-mul_right}
use native.Mathlib.Omega.{arith}
use lib.ListN.{length, take, drop, replicate, length-append, length-drop, take-append-drop}
use lib.Seq.{sets, sets-eq, length-sets, take_at, drop_at, drop-drop, drop-append-le, length-take-le}
use Rattle.sizes.specs.Numbers.{rows}
use Rattle.sizes.specs.Sizes.{row}
use Rattle.sizes.specs.Header.{block_long}
use Rattle.sizes.specs.Parts.{block_in, put_block}
use Rattle.placement.specs.Labels.{label}
use Rattle.placement.specs.Chunks.{node_bytes, nodes_bytes}
use Rattle.placement.specs.Place.{block_with, head_bytes}
use Rattle.placement.specs.Maps.{Map, Table, Fine, with_nodes}
use Rattle.sizes.specs.declared.Sizes.{Sizes}
use Rattle.placement.specs.declared.Order.{Order}
use Rattle.sizes.proofs.Laws.Parts.{take_sets, drop_sets_add}
use Rattle.sizes.proofs.Laws.Sizes.{row_least}
use Rattle.sizes.proofs.Laws.HeaderLoops.{row_room}
use Rattle.sizes.proofs.Laws.Headers.{sets_left}
use Rattle.sizes.proofs.Laws.Bytes.{block_end}
use Rattle.placement.proofs.Laws.Edits.{block_written}
use Rattle.placement.proofs.Laws.Tables.{write_keeps, shaped}
use Rattle.placement.proofs.Laws.Bridge.{node_long, length_nodes}
use Rattle.placement.proofs.Laws.Loops.{length_head}
use Rattle.levels.specs.Edit.{Pieces, Elsewhere, ComesIn, replaced}
use Rattle.levels.proofs.Laws.CarryFronts.{nodes_append}
use Rattle.levels.proofs.Laws.Flushes.{fines_take, fines_drop, fines_append, not_none}
use Rattle.levels.proofs.Laws.MapLabels.{with_other, with_number}
use Rattle.levels.proofs.Laws.Replacing.{chunk_low, Split, split_at}
use Rattle.levels.proofs.Laws.Takes.{Stood, some_found}
use Rattle.levels.proofs.Laws.Leading.{Seated}
use Rattle.levels.proofs.Laws.Chunking.{pieces_at, chunk_same}

-- ONE NODE of a list, another in its place
module _ (y o : Order) (qs : List Order) where
  pub take_changed : (P : List Order) (b r : ℕ) → length P ≡ r → r < b → take b (P ++ o ∷ qs) ≡ take r (take b (P ++ y ∷ qs)) ++ o ∷ drop (suc r) (take b (P ++ y ∷ qs))
  take_changed P zero r e h = absurd (omega arith)
  take_changed [] (suc b) zero e h = refl
  take_changed [] (suc b) (suc r) e h = absurd (omega arith)
  take_changed (x ∷ P) (suc b) zero e h = absurd (omega arith)
  take_changed (x ∷ P) (suc b) (suc r) e h = ap (λ (z : List Order). x ∷ z) (take_changed P b r (omega arith) (omega arith))

  pub drop_changed : (ps : List Order) (a : ℕ) → length ps < a → drop a (ps ++ y ∷ qs) ≡ drop a (ps ++ o ∷ qs)
  drop_changed ps zero h = absurd (omega arith)
  drop_changed [] (suc a) h = refl
  drop_changed (x ∷ ps) (suc a) h = drop_changed ps a (omega arith)

  -- .. in chunk number i, where it comes behind r nodes
  pub chunk_changed : (b i r : ℕ) (ps : List Order) → i * b + r ≡ length ps → r < b
      → take b (drop (i * b) (ps ++ o ∷ qs)) ≡ take r (take b (drop (i * b) (ps ++ y ∷ qs))) ++ o ∷ drop (suc r) (take b (drop (i * b) (ps ++ y ∷ qs)))
  chunk_changed b i r ps e h =
      rw (drop-append-le (i * b) ps (y ∷ qs) (omega arith), drop-append-le (i * b) ps (o ∷ qs) (omega arith))
      (take_changed (drop (i * b) ps) b r (length-drop (i * b) ps ∙ omega arith) h)

-- BYTES in the middle of a list
pub sets_middle : (p m q v : List ℕ) (a : ℕ) → length p ≡ a → length v ≡ length m → sets (p ++ m ++ q) a v ≡ p ++ v ++ q
sets_middle p m q v a ea ev =
    let l : length (p ++ m ++ q) ≡ a + length v + length q = simp length-append (omega arith) in
    let t : take a (p ++ m ++ q) ≡ p = rw append_assoc (take_at p (m ++ q) a ea) in
    let d : drop (a + length v) (p ++ m ++ q) ≡ q = drop_at (p ++ m) q (a + length v) (length-append p m ∙ omega arith) in
    sets-eq v (p ++ m ++ q) a (omega arith) ∙ rw (t, d) refl

-- .. and in a part of it
pub sets_inside : (l : List ℕ) (a z w : ℕ) (v : List ℕ) → a + w ≤ length l → z + length v ≤ w → sets l (a + z) v ≡ sets l a (sets (take w (drop a l)) z v)
sets_inside l a z w v h g =
    let part = sets (take w (drop a l)) z v in
    let lw : length (take w (drop a l)) ≡ w = length-take-le w (drop a l) (omega (arith, length-drop a l)) in
    let lp : length part ≡ w = length-sets (take w (drop a l)) z v ∙ lw in
    let here : drop a (sets l (a + z) v) ≡ part ++ drop w (drop a l) =
    drop_sets_add a l z v ∙ ap (λ (x : List ℕ). sets x z v) (sym (take-append-drop w (drop a l))) ∙ sets_left (take w (drop a l)) (drop w (drop a l)) z v (omega arith) in
    sym (take-append-drop a (sets l (a + z) v))
    ∙ rw (take_sets a l (a + z) v (omega arith), here, sets-eq part l a (omega arith), lp, append_assoc (take a l) part (drop (a + w) l), drop-drop w a l)

-- A BLOCK with one node changed
module _ (s : Sizes) (H Z : List ℕ) (A B : List Order) where
  around : (x : Order) → H ++ nodes_bytes (row s) (A ++ x ∷ B) ++ Z ≡ (H ++ nodes_bytes (row s) A) ++ node_bytes (row s) x ++ (nodes_bytes (row s) B ++ Z)
  unfolding rows
  around x = rw (nodes_append s A (x ∷ B)) (simp append_assoc)

  pub node_changed : (y o : Order) (a : ℕ) → a ≡ length H + row s * length A → sets (H ++ nodes_bytes (row s) (A ++ y ∷ B) ++ Z) a (node_bytes (row s) o) ≡ H ++ nodes_bytes (row s) (A ++ o ∷ B) ++ Z
  node_changed y o a ea =
      let long = node_long (row s) (row_least s) in
      rw (around y, around o)
      (sets_middle (H ++ nodes_bytes (row s) A) (node_bytes (row s) y) (nodes_bytes (row s) B ++ Z) (node_bytes (row s) o) a (length-append H (nodes_bytes (row s) A) ∙ omega (arith, length_nodes s A)) (long o ∙ sym (long y)))

-- NODE m of partition f of level 1 is replaced
unfoldable pub Replaces : Sizes → (f m : ℕ) → Order → (bs bs' : List ℕ) → Type 0
Replaces s f m o bs bs' =
    (F : Map) (n : ℕ) (hd : List ℕ) (ps : List Order) (y : Order) (qs : List Order) → Table s F n hd bs → Fine (row s) o → m ≡ length ps →
    Pieces F s.nodes 1 f 0 (ps ++ y ∷ qs) → ComesIn s F n hd bs' 1 f (ps ++ y ∷ qs) (ps ++ o ∷ qs)

module _ (s : Sizes) (f m : ℕ) (o : Order) (bs : List ℕ) (two : 2 ≤ s.nodes) (a : ℕ) (w : Seated s bs 1 f m a) where
  abbrev i : ℕ
  i = m / s.nodes

  abbrev r : ℕ
  r = m % s.nodes

  abbrev j : ℕ
  j = w.block

  abbrev bs₂ : List ℕ
  bs₂ = replaced (row s) bs a o

  place : (F : Map) (ps : List Order) (y : Order) (qs : List Order) → m ≡ length ps → Pieces F s.nodes 1 f 0 (ps ++ y ∷ qs) → Split s.nodes i r ps (y ∷ qs) (F 1 f i)
  place F ps y qs em p = split_at s.nodes m i r ps (y ∷ qs) (F 1 f i) two refl refl em (pieces_at F s.nodes 1 f (ps ++ y ∷ qs) i p)

  module _ (F : Map) (n : ℕ) (hd : List ℕ) (ps : List Order) (y : Order) (qs : List Order) (t : Table s F n hd bs) (fo : Fine (row s) o)
      (p : Pieces F s.nodes 1 f 0 (ps ++ y ∷ qs)) (u : Split s.nodes i r ps (y ∷ qs) (F 1 f i)) (v : Stood s F (label 1 f i) bs j) where
    -- the nodes of the chunk
    abbrev now : List Order
    now = take r (F 1 f i) ++ o ∷ drop (suc r) (F 1 f i)

    as_was : F 1 f i ≡ take r (F 1 f i) ++ y ∷ drop (suc r) (F 1 f i)
    as_was = rw (pieces_at F s.nodes 1 f (ps ++ y ∷ qs) i p) (chunk_changed y y qs s.nodes i r ps u.sum u.less)

    as_is : now ≡ take s.nodes (drop (i * s.nodes) (ps ++ o ∷ qs))
    as_is = rw (pieces_at F s.nodes 1 f (ps ++ y ∷ qs) i p) (sym (chunk_changed y o qs s.nodes i r ps u.sum u.less))

    long : length now ≡ length (F 1 f i)
    long = length-append (take r (F 1 f i)) (o ∷ drop (suc r) (F 1 f i)) ∙ sym (ap length as_was ∙ length-append (take r (F 1 f i)) (y ∷ drop (suc r) (F 1 f i)))

    block_is : sets (block_in (block_long s) bs j) (8 + row s * r) (node_bytes (row s) o) ≡ block_with (block_long s) (label 1 f i) (length now) (nodes_bytes (row s) now)
    unfolding block_with
    block_is =
        let la : length (take r (F 1 f i)) ≡ r = length-take-le r (F 1 f i) (omega arith) in
        let l : length (nodes_bytes (row s) now) ≡ length (nodes_bytes (row s) (F 1 f i)) = length_nodes s now ∙ rw long (sym (length_nodes s (F 1 f i))) in
        let hb = head_bytes (label 1 f i) (length (F 1 f i)) in
        let zs : List ℕ = replicate (block_long s - 8 - length (nodes_bytes (row s) (F 1 f i))) 0 in
        ap (λ (z : List ℕ). sets z (8 + row s * r) (node_bytes (row s) o))
        (v.is ∙ sym (block_written s (label 1 f i) (F 1 f i) v.held.nodes) ∙ ap (λ (z : List Order). hb ++ nodes_bytes (row s) z ++ zs) as_was)
        ∙ node_changed s hb zs (take r (F 1 f i)) (drop (suc r) (F 1 f i)) y o (8 + row s * r) (rw (length_head (label 1 f i) (length (F 1 f i)), la))
        ∙ rw (l, long)

    bytes_are : bs₂ ≡ put_block (block_long s) bs j (block_with (block_long s) (label 1 f i) (length now) (nodes_bytes (row s) now))
    unfolding put_block block_in
    bytes_are =
        let h = shaped s F n hd bs t in
        ap (λ (z : ℕ). sets bs z (node_bytes (row s) o)) w.is
        ∙ sets_inside bs (53 + j * block_long s) (8 + row s * r) (block_long s) (node_bytes (row s) o) (omega (arith, block_end j s.blocks (block_long s) v.below))
        (omega (arith, node_long (row s) (row_least s) o, row_room (row s) r s.nodes u.less))
        ∙ rw block_is refl

    kept : Table s (with_nodes (label 1 f i) now F) n hd bs₂
    kept =
        rw bytes_are
        (write_keeps s F n hd bs t (label 1 f i) j now (omega arith) w.found
        (record {
          level = v.held.level;
          first = v.held.first;
          number = v.held.number;
          fine = fines_append (row s) (take r (F 1 f i)) (o ∷ drop (suc r) (F 1 f i)) (fines_take (row s) r (F 1 f i) v.held.fine) (fo, fines_drop (row s) (suc r) (F 1 f i) v.held.fine);
          nodes = omega (arith, long);
        })
        (not_none now (omega (arith, long))))

    other : (h : ℕ) → Dec (h < i) → (h ≡ i → ⊥) → take s.nodes (drop (h * s.nodes) (ps ++ y ∷ qs)) ≡ take s.nodes (drop (h * s.nodes) (ps ++ o ∷ qs))
    other h (yes d) z = chunk_low s.nodes h i ps (y ∷ qs) d (omega arith) ∙ sym (chunk_low s.nodes h i ps (o ∷ qs) d (omega arith))
    other h (no d) z =
        let g : suc i ≤ h = omega (arith, d, z) in
        ap (take s.nodes) (drop_changed y o qs ps (h * s.nodes) (omega (arith, mul-le-mul_right s.nodes g, suc-mul i s.nodes)))

    comes : ComesIn s F n hd bs₂ 1 f (ps ++ y ∷ qs) (ps ++ o ∷ qs)
    unfolding Pieces Elsewhere
    comes = record {
      map = with_nodes (label 1 f i) now F;
      full = n;
      table = kept;
      there = λ h.
          rw (zero-add h)
          (with_number F now (λ z. as_is ∙ chunk_same s.nodes (ps ++ o ∷ qs) (sym z)) (λ z. pieces_at F s.nodes 1 f (ps ++ y ∷ qs) h p ∙ other h (dec_lt h i) z));
      elsewhere = λ l g h z. with_other F (λ a b d. z a b) now;
      count = simp length-append;
    }

  pub replace_at : Replaces s f m o bs bs₂
  unfolding Replaces
  replace_at F n hd ps y qs t fo em p = comes F n hd ps y qs t fo p (place F ps y qs em p) (some_found s F n hd bs t (label 1 f i) (omega arith) (Some j) (sym w.found) j refl)
