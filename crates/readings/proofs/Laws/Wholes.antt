-- Orders of a chunk of level 1 that are all in the range of a visit: they come by together.
use Rattle.std.proofs.Common.{Option, Some}
use mathlib.Core.Path.{◌≡◌, refl, sym, ap, ◌∙◌, subst}
use mathlib.Core.Bool.{Bool, true, false, cond}
use mathlib.Core.List.{List, [], ◌∷◌, ◌++◌}
use Prim.Native.Nat.{ℕ, zero, suc, ◌+◌, ◌*◌, ◌-◌, ◌≤◌, ◌<◌}
use native.Mathlib.Omega.{arith}
use native.Mathlib.Nat.{mul-zero, mul-suc}
use native.Mathlib.Numerals.{add-one}
use borrow.Author.Tests.{ne_eqb, le-leb, lt-leb, le-ltb}
use lib.Dec.{leb}
use lib.ListN.{length, take, drop, length-drop}
use lib.Seq.{sets, length-sets}
use Rattle.sizes.specs.Numbers.{field, rows, rows_in}
use Rattle.sizes.specs.Sizes.{row}
use Rattle.sizes.specs.declared.Sizes.{Sizes}
use Rattle.sizes.proofs.Laws.Numbers.{Bytes, bytes_drop}
use Rattle.sizes.proofs.Laws.Parts.{sets_append}
use Rattle.placement.specs.Chunks.{node_bytes, nodes_bytes}
use Rattle.placement.specs.Decode.{node_of, nodes_from}
use Rattle.placement.specs.declared.Order.{Order}
use Rattle.placement.proofs.Laws.Bridge.{node_long}
use Rattle.placement.proofs.Laws.Decoding.{nodes_again, nodes_count}
use Rattle.placement.proofs.Laws.Reading.{key_of}
use Rattle.sizes.proofs.Laws.Sizes.{row_least}
use Rattle.sizes.proofs.Laws.HeaderLoops.{rows_room}
use Rattle.skiplist.specs.Lists.{front, list_at}
use Rattle.skiplist.specs.Image.{orders_in}
use Rattle.skiplist.specs.Questions.{reserve}
use Rattle.skiplist.proofs.Laws.Parts.{Up, up_from, up_front, at_least_up}
use Rattle.skiplist.proofs.Laws.Walk.{spread, each_one}
use Rattle.table.proofs.Laws.MaskedKeys.{up_masked}
use Rattle.readings.specs.declared.Visit.{Visit}
use Rattle.readings.specs.Visit.{scan, next_found, more_found, row_in, step_by, steps, Known, Row, Whole, all_under}
use Rattle.readings.proofs.Laws.Visits.{next_none, next_more, next_few, wanted_some, told}
use Rattle.readings.proofs.Laws.Rows.{up_behind}
use Rattle.readings.proofs.Laws.Chunked.{nodes_split, nodes_first, orders_up}

-- THEIR KEYS rise
row_up : (s : Sizes) (os : List Order) (l : ℕ) (ns : List Order) → Up 1 os → Row s os l ns → Up 0 ns
unfolding list_at front
row_up s os l ns u r =
    let w : Up 0 (list_at s l os) = (omega arith, at_least_up s l 1 os u) in
    subst (Up 0) (sym r.is) (up_masked l 0 r.own (up_front r.own r.behind 0 (up_behind r.before (r.own ++ r.behind) 0 (subst (Up 0) r.there w))))

-- the one that comes last
pub last_of : Order → List Order → Order
last_of o [] = o
last_of o (p ∷ ps) = last_of p ps

-- ALL IN A RANGE
abbrev pub Within : (lo hi : ℕ) → List Order → Type 0
Within lo hi [] = Unit {0}
Within lo hi (o ∷ os) = (lo ≤ o.key) × (o.key ≤ hi) × Within lo hi os

-- .. where keys rise, by the first and the last of them
within_last : (lo hi : ℕ) (o : Order) (os : List Order) → Up lo (o ∷ os) → (last_of o os).key ≤ hi → Within lo hi (o ∷ os)
unfolding last_of
within_last lo hi o [] u h = (u.0, h, tt)
within_last lo hi o (p ∷ ps) u h =
    let w = within_last lo hi p ps (up_from (p ∷ ps) (omega (arith, u.0)) u.1) h in
    (u.0, omega (arith, w.1, u.1.0), w)

-- THE ROWS of some orders, the first of them at row n: each is written, if rows are, where the output has room
unfoldable pub written : (w : ℕ) → (writes : Bool) → List ℕ → (n : ℕ) → List Order → List ℕ
written w b x n [] = x
written w b x n (o ∷ os) = written w b (cond b (row_in w x (w * n) o) x) (next_found n 1) os

-- one row more
next_row : (w n : ℕ) → w * (n + 1) ≡ w * n + w
next_row w n = rw (add-one, mul-suc)

one_row : (w : ℕ) (x : List ℕ) (a : ℕ) (o : Order) → a + w ≤ length x → row_in w x a o ≡ sets x a (node_bytes w o)
unfolding row_in
one_row w x a o h = rw (le-leb (a + w) (length x) h)

-- .. all of them where it has room for all
pub written_room : (w : ℕ) → 12 ≤ w → (x : List ℕ) (n : ℕ) (ns : List Order) → n + length ns ≤ 65535 → w * (n + length ns) ≤ length x →
    written w true x n ns ≡ sets x (w * n) (nodes_bytes w ns)
unfolding written rows
written_room w least x n [] q r = refl
written_room w least x n (o ∷ os) q r =
    let e : n + 1 + length os ≡ n + suc (length os) = omega arith in
    let y = sets x (w * n) (node_bytes w o) in
    let f : w * (n + 1) ≡ w * n + length (node_bytes w o) = omega (arith, node_long w least o, next_row w n) in
    let h : length y ≡ length x = length-sets x (w * n) (node_bytes w o) in
    let room : w * (n + 1) ≤ length x = omega (arith, r, rows_room w (n + 1) (n + suc (length os)) (omega arith)) in
    let one : row_in w x (w * n) o ≡ y = one_row w x (w * n) o (omega (arith, room, next_row w n)) in
    ap (λ (z : List ℕ). written w true z (next_found n 1) os) one
    ∙ ap (λ (i : ℕ). written w true y i os) (next_few n 1 (omega arith))
    ∙ written_room w least y (n + 1) os (omega arith) (rw e (omega arith))
    ∙ ap (λ (a : ℕ). sets y a (nodes_bytes w os)) f
    ∙ sym (sets_append x (w * n) (node_bytes w o) (nodes_bytes w os))

-- .. and none where rows are not written, or where it has no room for one
pub written_none : (w : ℕ) (b : Bool) (x : List ℕ) (n : ℕ) (ns : List Order) → (b ≡ true → length x < w) → written w b x n ns ≡ x
unfolding written row_in
written_none w b x n [] h = refl
written_none w false x n (o ∷ os) h = written_none w false x (next_found n 1) os h
written_none w true x n (o ∷ os) h = rw (lt-leb (w * n + w) (length x) (omega (arith, h refl))) (written_none w true x (next_found n 1) os h)

-- the last order that was found
unfoldable pub last_found : Option Order → List Order → Option Order
last_found l [] = l
last_found l (o ∷ os) = last_found (Some o) os

last_some : (o : Order) (os : List Order) → last_found (Some o) os ≡ Some (last_of o os)
unfolding last_found last_of
last_some o [] = refl
last_some o (p ∷ ps) = last_some p ps

-- ALL OF THEM are found by a visit that asks for no reserve, if it may find so many; what it counts of them is up to the most
abbrev pub found_all : Visit → List Order → Visit
found_all v ns =
    record { lo = v.lo; hi = v.hi; least = v.least; writes = v.writes; left = v.left - length ns; found = next_found v.found (length ns); last = last_found v.last ns }

pub steps_whole : (w : ℕ) (ns : List Order) (v : Visit) (x : List ℕ) → v.least ≡ 0 → Within v.lo v.hi ns → length ns ≤ v.left →
    steps ns (scan w v x) ≡ scan w (found_all v ns) (written w v.writes x v.found ns)
unfolding steps last_found written
steps_whole w [] v x k q f = let n : v.left - 0 ≡ v.left = omega arith in rw (n, next_none v.found)
steps_whole w (o ∷ os) v x k q f =
    let n : v.left - 1 - length os ≡ v.left - suc (length os) = omega arith in
    let z : 0 ≤ reserve o = omega arith in
    let low : leb v.least (reserve o) ≡ true = rw k (le-leb 0 (reserve o) z) in
    let y : List ℕ = cond v.writes (row_in w x (w * v.found) o) x in
    let one : step_by o (scan w v x) ≡ scan w (more_found v 1 o) y =
    told w o v x false false true (ne_eqb _ _ (λ e. omega arith)) (le-ltb v.hi o.key q.1) (sym (wanted_some v o q.0 (reserve o) refl) ∙ low) in
    ap (steps os) one ∙ steps_whole w os (more_found v 1 o) y k q.2 (omega arith) ∙ rw (n, next_more v.found (length os))

-- NODES IN BYTES: the last of them
last_node : (w : ℕ) (bs : List ℕ) (a j : ℕ) → last_of (node_of w bs a) (nodes_from w j (drop (a + w) bs)) ≡ node_of w bs (a + w * j)
unfolding last_of rows_in
last_node w bs a zero = let e : a ≡ a + w * 0 = omega (arith, mul-zero w) in ap (node_of w bs) e
last_node w bs a (suc j) =
    let e : a + w + w * j ≡ a + w * suc j = omega (arith, mul-suc w j) in
    ap (last_of (node_of w bs a)) (nodes_split w bs (a + w) j) ∙ last_node w bs (a + w) j ∙ ap (node_of w bs) e

-- nodes from a place on that a visit finds all of, whatever room there is for their rows
pub record AllFound (w : ℕ) (bs : List ℕ) (a j : ℕ) (v : Visit) : Type 0 where
  pub any : v.least ≡ 0
  pub some : 0 < j
  pub low : v.lo ≤ field a 4 bs
  pub high : field (a + w * (j - 1)) 4 bs ≤ v.hi
  pub may : j ≤ v.left

pub whole_found : (w : ℕ) (bs : List ℕ) (a j : ℕ) (v : Visit) (room : ℕ) → Whole w bs a j v room → AllFound w bs a j v
whole_found w bs a j v room h = record { any = h.any; some = h.some; low = h.low; high = h.high; may = h.may }

-- what `visit_whole` gives, where no row is written
module _ (s : Sizes) (bs : List ℕ) (a j : ℕ) (v : Visit) (x : List ℕ) (k : Known s bs) (w : AllFound (row s) bs a j v) (room : a + row s * j ≤ length bs)
    (nodes : Row s (orders_in bs) 1 (nodes_from (row s) j (drop a bs))) (o : Order) (eo : o ≡ node_of (row s) bs (a + row s * (j - 1))) where
  abbrev all : List Order
  all = nodes_from (row s) j (drop a bs)

  abbrev ns : List Order
  ns = nodes_from (row s) (j - 1) (drop (a + row s) bs)

  parts : all ≡ node_of (row s) bs a ∷ ns
  parts = nodes_first (row s) bs a j w.some

  many : length all ≡ j
  many = nodes_count (row s) j (drop a bs)

  last : last_found v.last all ≡ Some o
  unfolding last_found
  last = ap (last_found v.last) parts ∙ last_some (node_of (row s) bs a) ns ∙ ap (λ (z : Order). Some z) (last_node (row s) bs a (j - 1) ∙ sym eo)

  rising : Up v.lo (node_of (row s) bs a ∷ ns)
  rising =
      let u = subst (Up 0) parts (row_up s (orders_in bs) 1 all (orders_up s bs k) nodes) in
      (omega (arith, w.low, key_of (row s) bs a), u.1)

  high : (last_of (node_of (row s) bs a) ns).key ≤ v.hi
  high = omega (arith, w.high, ap (λ (q : Order). q.key) (last_node (row s) bs a (j - 1)), key_of (row s) bs (a + row s * (j - 1)))

  inside : Within v.lo v.hi all
  inside = subst (Within v.lo v.hi) (sym parts) (within_last _ _ _ _ rising high)

  together : (z : List ℕ) → z ≡ written (row s) v.writes x v.found all → scan (row s) (more_found v j o) z ≡ steps (all_under s bs 0 all) (scan (row s) v x)
  unfolding all_under spread
  together z ez =
      sym (ap (λ (q : List Order). steps q (scan (row s) v x)) (each_one all) ∙ steps_whole (row s) all v x w.any inside (omega (arith, w.may, many)) ∙ rw (last, many, ez))

  pub whole_counts : (v.writes ≡ true → length x < row s) → (z : List ℕ) → z ≡ x → scan (row s) (more_found v j o) z ≡ steps (all_under s bs 0 all) (scan (row s) v x)
  whole_counts h z ez = together z (ez ∙ sym (written_none (row s) v.writes x v.found all h))

-- .. and where all rows are
module _ (s : Sizes) (bs : List ℕ) (a j : ℕ) (v : Visit) (x : List ℕ) (k : Known s bs) (w : Whole (row s) bs a j v (length x)) (room : a + row s * j ≤ length bs)
    (nodes : Row s (orders_in bs) 1 (nodes_from (row s) j (drop a bs))) (o : Order) (eo : o ≡ node_of (row s) bs (a + row s * (j - 1))) where
  pub whole_writes : v.writes ≡ true → Bytes bs → (z : List ℕ) → z ≡ sets x (row s * v.found) (take (row s * j) (drop a bs)) →
      scan (row s) (more_found v j o) z ≡ steps (all_under s bs 0 (nodes_from (row s) j (drop a bs))) (scan (row s) v x)
  whole_writes h b z ez =
      let all : List Order = nodes_from (row s) j (drop a bs) in
      let l : length (drop a bs) ≡ length bs - a = length-drop a bs in
      let here : take (row s * j) (drop a bs) ≡ nodes_bytes (row s) all = sym (nodes_again (row s) (row_least s) j (drop a bs) (omega arith) (bytes_drop a bs b)) in
      let n : length all ≡ j = nodes_count (row s) j (drop a bs) in
      let held : row s * (v.found + length all) ≤ length x = rw n (w.held h) in
      together s bs a j v x k (whole_found _ _ _ _ _ _ w) room nodes o eo z
      (rw h (ez ∙ ap (sets x (row s * v.found)) here ∙ sym (written_room (row s) (row_least s) x v.found all (omega (arith, w.few, n)) held)))
