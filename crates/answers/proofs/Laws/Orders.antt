-- Orders in bytes, printed one line each.
use mathlib.Core.Path.{◌≡◌, ap, sym, ◌∙◌}
use mathlib.Core.Bool.{true, ◌&&◌}
use mathlib.Core.List.{List, [], ◌∷◌, ◌++◌, append_assoc, map, map-append}
use Prim.Native.Nat.{ℕ, zero, suc, ◌+◌, ◌*◌, ◌≤◌, ◌<◌}
use native.Mathlib.Numerals.{add-one}
use native.Mathlib.Omega.{arith}
use native.Mathlib.Nat.{add_comm, suc-add, mul-zero, mul-suc}
use lib.Dec.{leb}
use lib.ListN.{length, take, drop, length-append, length-drop, take-append-drop}
use lib.Seq.{drop-drop, drop_at, length-take-le}
use Rattle.std.proofs.Math.Nat.{lt_of_mul-lt-mul_left}
use Rattle.std.proofs.lemmas.List.{drop-append-le, take-append-le}
use Rattle.lines.specs.Text.{row as line}
use Rattle.sizes.specs.Numbers.{value_from, field, rows_in}
use Rattle.sizes.specs.Sizes.{row}
use Rattle.sizes.specs.Header.{sizes_in}
use Rattle.placement.specs.Chunks.{nodes_bytes}
use Rattle.placement.specs.Maps.{Fines}
use Rattle.placement.specs.Decode.{node_in, node_of, nodes_from}
use Rattle.sizes.specs.declared.Sizes.{Sizes}
use Rattle.placement.specs.declared.Order.{Order}
use Rattle.sizes.proofs.Laws.Sizes.{row_least}
use Rattle.placement.proofs.Laws.Cells.{cond_valid}
use Rattle.placement.proofs.Laws.Reading.{nodes_back}
use Rattle.skiplist.specs.Image.{orders_good, orders_in, is_image}
use Rattle.skiplist.specs.Questions.{between}
use Rattle.skiplist.proofs.Laws.Parts.{good_parts}
use Rattle.skiplist.proofs.Laws.Sound.{fine_good}
use Rattle.skiplist.proofs.Laws.Third.{image_parts}
use Rattle.readings.proofs.Laws.Answers.{width}
use Rattle.answers.specs.Answers.{order_line}
use Rattle.answers.specs.Output.{Said}
use Rattle.answers.specs.declared.printer.Printer.{Printer}
use Rattle.answers.proofs.Laws.Output.{said_on}

-- ONE ORDER, read by its three fields
module _ (old : Printer) (row : List ℕ) (new : Printer) where
  pub order_said : (k t d : ℕ) → k ≡ field 0 4 row → t ≡ field 4 4 row → d ≡ field 8 4 row
      → Said old (line k (t ∷ d ∷ []) ∷ []) new → Said old (order_line (node_in 12 row) ∷ []) new
  unfolding order_line node_in
  order_said k t d ek et ed s = rw (← ek, ← et, ← ed) s

-- a field of the row that stands in front
field_front : (a : ℕ) (row rest : List ℕ) → a + 4 ≤ length row → field a 4 (row ++ rest) ≡ field a 4 row
unfolding field
field_front a row rest h =
    ap (λ (z : List ℕ). value_from 0 (take 4 z)) (drop-append-le a row rest (omega arith))
    ∙ ap (value_from 0) (take-append-le 4 (drop a row) rest (simp length-drop (omega arith)))

-- one node more
pub nodes_more : (w n : ℕ) (bs : List ℕ) → nodes_from w (n + 1) bs ≡ nodes_from w n bs ++ (node_of w bs (w * n) ∷ [])
unfolding rows_in node_of
nodes_more w zero bs = rw mul-zero
nodes_more w (suc n) bs = rw suc-add (ap (λ (z : List Order). node_in w bs ∷ z) (nodes_more w n (drop w bs) ∙ rw (drop-drop, mul-suc w n, add_comm (w * n) w)))

-- N ROWS of w bytes in front: i are printed, and the others stand in the rest
pub record Rows (w n i : ℕ) (found rest : List ℕ) : Type 0 where
  pub stands : rest ++ drop (w * n) found ≡ drop (w * i) found
  pub long : w * i + length rest ≡ w * n

pub rows_start : (w n : ℕ) (found rest : List ℕ) (m : ℕ) → w * n ≤ length found → m ≡ w * n → rest ≡ take m found → Rows w n 0 found rest
rows_start w n found rest m h e er = rw (er, e) (record { stands = rw mul-zero (take-append-drop (w * n) found); long = omega (arith, length-take-le (w * n) found h) })

pub rows_end : (w n i : ℕ) (found rest : List ℕ) → Rows w n i found rest → length rest < w → i ≡ n
rows_end w n i found rest r h =
    let a : n < i + 1 = lt_of_mul-lt-mul_left w (rw (add-one, mul-suc) (omega (arith, r.long))) in
    let b : i < n + 1 = lt_of_mul-lt-mul_left w (rw (add-one, mul-suc) (omega (arith, r.long))) in
    omega arith

module _ (w n i : ℕ) (found row rest : List ℕ) (r : Rows w n i found (row ++ rest)) (h : length row ≡ w) where
  pub rows_next : Rows w n (i + 1) found rest
  rows_next =
      let more : w * (i + 1) ≡ w * i + w = rw (add-one, mul-suc) (omega arith) in
      let behind : drop w (row ++ (rest ++ drop (w * n) found)) ≡ rest ++ drop (w * n) found = drop_at row (rest ++ drop (w * n) found) w h in
      record {
        stands = sym behind ∙ ap (drop w) (sym (append_assoc row rest (drop (w * n) found)) ∙ r.stands) ∙ drop-drop w (w * i) found ∙ ap (λ (k : ℕ). drop k found) (sym more);
        long = omega (arith, more, r.long, h, length-append row rest);
      }

  module _ (g : 12 ≤ w) where
    pub rows_few : i < n
    rows_few = lt_of_mul-lt-mul_left w (omega (arith, r.long, h, length-append row rest))

    row_field : (a : ℕ) → a + 4 ≤ 12 → field a 4 (drop (w * i) found) ≡ field a 4 row
    row_field a k = ap (field a 4) (sym r.stands ∙ append_assoc row rest (drop (w * n) found)) ∙ field_front a row (rest ++ drop (w * n) found) (omega arith)

    pub row_key : (node_of w found (w * i)).key ≡ field 0 4 row
    unfolding node_of node_in
    row_key = row_field 0 (omega arith)

    row_line : order_line (node_in 12 row) ≡ order_line (node_of w found (w * i))
    unfolding order_line node_of node_in
    row_line = sym (rw (row_field 0 (omega arith), row_field 4 (omega arith), row_field 8 (omega arith)))

    pub rows_said : (old mid new : Printer) → Said old (map order_line (nodes_from w i found)) mid → Said mid (order_line (node_in 12 row) ∷ []) new → Said old (map order_line (nodes_from w (i + 1) found)) new
    rows_said old mid new s a = rw (nodes_more, map-append) (said_on old mid new _ _ s (rw row_line at a))

-- WHAT A SPAN WROTE is read back: the orders of an image are such as a row can hold
fines : (s : Sizes) (a lo hi : ℕ) (os : List Order) → orders_good s a os ≡ true → Fines (row s) (between lo hi os)
unfolding between
fines s a lo hi [] e = tt
fines s a lo hi (o ∷ os) e =
    let w = good_parts s a o os e in
    let others = fines s (suc o.key) lo hi os w.others in
    cond_valid (Fines (row s)) (leb lo o.key && leb o.key hi) (fine_good s o w.key w.quantity, others) others

pub span_back : (x : List ℕ) (lo hi : ℕ) (r : List ℕ) → is_image x ≡ true
    → nodes_from (width x) (length (between lo hi (orders_in x))) (nodes_bytes (width x) (between lo hi (orders_in x)) ++ r) ≡ between lo hi (orders_in x)
span_back x lo hi r e =
    nodes_back (width x) (row_least (sizes_in x)) (between lo hi (orders_in x)) r (fines (sizes_in x) 1 lo hi (orders_in x) (image_parts x e).orders_kept.good)
