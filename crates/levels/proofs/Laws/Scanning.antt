-- Laws of a scan: a node comes by, the nodes of a chunk, the chunks of a partition.
use Rattle.std.proofs.Common.{Option, Some, None}
use mathlib.Core.Path.{◌≡◌, refl, sym, ap, ◌∙◌}
use mathlib.Core.Logic.{◌≢◌}
use mathlib.Core.Bool.{true}
use mathlib.Core.List.{List, [], ◌∷◌, ◌++◌}
use Prim.Native.Nat.{ℕ, zero, suc, ◌+◌, ◌*◌, ◌-◌, ◌≤◌, ◌<◌}
use native.Mathlib.Nat.{zero-mul, mul-zero, add-zero, sub-zero, suc-mul, mul-le-mul_right}
use native.Mathlib.Numerals.{add-one}
use native.Mathlib.Omega.{arith}
use borrow.Author.Tests.{ltb-true, lt-ltb, le-ltb}
use lib.Dec.{ltb}
use lib.ListN.{length, get_or, take, drop, length-append, length-take, length-drop}
use lib.Seq.{take_all, take-add, drop-drop}
use Rattle.sizes.specs.Numbers.{field, rows_in}
use Rattle.sizes.specs.Sizes.{row}
use Rattle.sizes.specs.Header.{block_long}
use Rattle.placement.specs.Decode.{node_of, nodes_from}
use Rattle.placement.specs.Labels.{label}
use Rattle.placement.specs.Place.{search_in, taken_out}
use Rattle.placement.specs.Maps.{Map, Table, cleared}
use Rattle.sizes.specs.declared.Sizes.{Sizes}
use Rattle.placement.specs.declared.Order.{Order}
use Rattle.sizes.proofs.Laws.Sizes.{some_nodes}
use Rattle.placement.proofs.Laws.Tables.{count_most, count_some, remove_keeps}
use Rattle.placement.proofs.Laws.Reading.{key_of, nodes_read}
use Rattle.skiplist.proofs.Laws.Parts.{Up, below, and_left, and_right}
use Rattle.skiplist.proofs.Laws.Count.{pieces}
use Rattle.skiplist.proofs.Laws.Descent.{last_from}
use Rattle.levels.specs.declared.Spot.{Spot}
use Rattle.levels.specs.Edit.{Pieces, most_nodes, Scans}
use Rattle.levels.specs.Scan.{passed, passes}
use Rattle.levels.proofs.Laws.MapLabels.{cleared_other}
use Rattle.levels.proofs.Laws.Ways.{rows_next}
use Rattle.levels.proofs.Laws.Takes.{none_found, some_found, counted}
use Rattle.levels.proofs.Laws.Chunking.{pieces_at, pieces_under, pieces_over}

-- A NODE
module _ (key y : ℕ) (x : Spot) where
  pub passed_low : key < y → ◌≡◌ {A = Spot} (record { below = x.below + 1; last = key; size = x.size + 1 }) (passed key y x)
  unfolding passed
  passed_low h = rw (lt-ltb key y h)

  pub passed_high : y ≤ key → ◌≡◌ {A = Spot} (record { below = x.below; last = x.last; size = x.size + 1 }) (passed key y x)
  unfolding passed
  passed_high h = rw (le-ltb key y h)

-- THE NODES of a chunk, of w bytes each
pub record Passing (w : ℕ) (bs : List ℕ) (n at y : ℕ) (x : Spot) (i : ℕ) (z : Spot) : Type 0 where
  pub within : i ≤ n
  pub few : z.below ≤ z.size
  pub long : z.size ≡ x.size + i
  pub rest : passes w bs n at y x ≡ passes w bs (n - i) (at + w * i) y z

module _ (w : ℕ) (bs : List ℕ) (n at y : ℕ) (x : Spot) where
  pub passing_start : x.below ≤ x.size → Passing w bs n at y x 0 x
  passing_start h = record { within = omega arith; few = h; long = omega arith; rest = rw (sub-zero, mul-zero, add-zero) }

  module _ (i : ℕ) (z : Spot) (p : Passing w bs n at y x i z) where
    pub passing_more : i < n → (key : ℕ) (v : Spot) → key ≡ field (at + w * i) 4 bs → v ≡ passed key y z → v.below ≤ v.size → v.size ≡ z.size + 1 →
        Passing w bs n at y x (i + 1) v
    unfolding passes
    passing_more h key v ek ev few long =
        let e : n - i ≡ suc (n - (i + 1)) = omega arith in
        let f : at + w * i + w ≡ at + w * (i + 1) = omega (arith, rows_next w i) in
        record {
          within = omega arith;
          few = few;
          long = omega (arith, p.long);
          rest =
              p.rest
              ∙ ap (λ (j : ℕ). passes w bs j (at + w * i) y z) e
              ∙ ap (λ (a : ℕ). passes w bs (n - (i + 1)) a y (passed (field (at + w * i) 4 bs) y z)) f
              ∙ ap (passes w bs (n - (i + 1)) (at + w * (i + 1)) y) (sym (ev ∙ ap (λ (q : ℕ). passed q y z) ek));
        }

    pub passing_end : n ≤ i → z ≡ passes w bs n at y x
    unfolding passes
    passing_end h =
        let e : n - i ≡ 0 = omega arith in
        sym (p.rest ∙ ap (λ (j : ℕ). passes w bs j (at + w * i) y z) e)

-- nodes as a list
unfoldable pub passed_all : (y : ℕ) → List Order → Spot → Spot
passed_all y [] x = x
passed_all y (o ∷ os) x = passed_all y os (passed o.key y x)

-- nobody came by yet
abbrev pub start : Spot
start = record { below = 0; last = 0; size = 0 }

passed_append : (y : ℕ) (xs zs : List Order) (x : Spot) → passed_all y (xs ++ zs) x ≡ passed_all y zs (passed_all y xs x)
unfolding passed_all
passed_append y [] zs x = refl
passed_append y (o ∷ xs) zs x = passed_append y xs zs (passed o.key y x)

passed_below : (y : ℕ) (ps : List Order) (x : Spot) → below y ps ≡ true → (w : Spot) → w ≡ passed_all y ps x →
    (w.below ≡ x.below + length ps) × (w.last ≡ last_from x.last ps) × (w.size ≡ x.size + length ps)
unfolding passed_all below last_from
passed_below y [] x e w ew = (omega (arith, ap (λ (v : Spot). v.below) ew), ap (λ (v : Spot). v.last) ew, omega (arith, ap (λ (v : Spot). v.size) ew))
passed_below y (p ∷ ps) x e w ew =
    let low = passed_low p.key y x (ltb-true p.key y (and_left (ltb p.key y) (below y ps) e)) in
    let r = passed_below y ps _ (and_right (ltb p.key y) (below y ps) e) w (ew ∙ ap (passed_all y ps) (sym low)) in
    (omega (arith, r.0), r.1, omega (arith, r.2))

passed_above : (y a : ℕ) (qs : List Order) (x : Spot) → y ≤ a → Up a qs → (w : Spot) → w ≡ passed_all y qs x
    → (w.below ≡ x.below) × (w.last ≡ x.last) × (w.size ≡ x.size + length qs)
unfolding passed_all
passed_above y a [] x h u w ew = (ap (λ (v : Spot). v.below) ew, ap (λ (v : Spot). v.last) ew, omega (arith, ap (λ (v : Spot). v.size) ew))
passed_above y a (q ∷ qs) x h u w ew =
    let high = passed_high q.key y x (omega (arith, u.0)) in
    let r = passed_above y (suc q.key) qs _ (omega (arith, u.0)) u.1 w (ew ∙ ap (passed_all y qs) (sym high)) in
    (r.0, r.1, omega (arith, r.2))

-- all nodes of a partition came by
passed_both : (y : ℕ) (ps qs : List Order) → below y ps ≡ true → Up y qs → (w : Spot) → w ≡ passed_all y (ps ++ qs) start →
    w ≡ record { below = length ps; last = last_from 0 ps; size = length (ps ++ qs) }
passed_both y ps qs l u w ew =
    let b = passed_below y ps start l _ refl in
    let r = passed_above y y qs (passed_all y ps start) (omega arith) u w (ew ∙ passed_append y ps qs start) in
    let n : w.below ≡ length ps = omega (arith, b.0, r.0) in
    let m : w.size ≡ length (ps ++ qs) = rw length-append (omega (arith, b.2, r.2)) in
    λ i. record { below = n i; last = (r.1 ∙ b.1) i; size = m i }

-- the nodes that stand in bytes came by
nodes_passed : (w : ℕ) (bs : List ℕ) (y n a : ℕ) (x : Spot) → passes w bs n a y x ≡ passed_all y (nodes_from w n (drop a bs)) x
unfolding passes passed_all node_of rows_in
nodes_passed w bs y zero a x = refl
nodes_passed w bs y (suc n) a x =
    nodes_passed w bs y n (a + w) (passed (field a 4 bs) y x)
    ∙ ap (λ (k : ℕ). passed_all y (nodes_from w n (drop (a + w) bs)) (passed k y x)) (sym (key_of w bs a))
    ∙ ap (λ (l : List ℕ). passed_all y (nodes_from w n l) (passed (node_of w bs a).key y x)) (sym (drop-drop w a bs))

-- no partition has more chunks than there are blocks
module _ (s : Sizes) (k f : ℕ) (pos : 0 < k) where
  crowd : (j : ℕ) (F : Map) (n : ℕ) (hd bs : List ℕ) (a : ℕ) → Table s F n hd bs → ((i : ℕ) → a ≤ i → i < a + j → F k f i ≢ []) → j ≤ n
  crowd zero F n hd bs a t h = omega arith
  crowd (suc j) F n hd bs a t h =
      let full : F k f a ≢ [] = h a (omega arith) (omega arith) in
      omega (
        arith,
        count_some s F n hd bs t (label k f a) full,
        crowd j (cleared (label k f a) F) (n - 1) hd (taken_out s (search_in s bs (label k f a)) bs) (suc a) (remove_keeps s F n hd bs t (label k f a) pos full).1
            (λ i g l e. h i (omega arith) (omega arith) (sym (cleared_other F (λ u v w. omega arith)) ∙ e)),
      )

  module _ (F : Map) (n : ℕ) (hd bs : List ℕ) (ns : List Order) (t : Table s F n hd bs) (p : Pieces F s.nodes k f 0 ns) where
    piece_gone : (i : ℕ) → F k f i ≡ [] → length ns ≤ i * s.nodes
    piece_gone i e = omega (arith, some_nodes s t.good, simp (length-take, length-drop) at (ap length (sym (pieces_at F s.nodes k f ns i p) ∙ e)))

    pub chunks_most : length ns ≤ s.blocks * s.nodes
    chunks_most =
        let some = some_nodes s t.good in
        let there = crowd (pieces s.nodes (length ns)) F n hd bs 0 t (λ i l g e. omega (arith, piece_gone i e, pieces_under s.nodes (length ns) i some (omega arith))) in
        pieces_over s.nodes (length ns) s.blocks some (omega (arith, count_most s F n hd bs t))

-- THE CHUNKS of a partition
pub record Scanning (s : Sizes) (bs : List ℕ) (k f y i : ℕ) (z : Spot) : Type 0 where
  pub within : i ≤ s.blocks
  pub few : z.below ≤ z.size
  pub most : z.size ≤ 255 * i
  pub so_far : (F : Map) (n : ℕ) (hd : List ℕ) (ns : List Order) → Table s F n hd bs → 0 < k → Pieces F s.nodes k f 0 ns → z ≡ passed_all y (take (i * s.nodes) ns) start

pub scanning_start : (s : Sizes) (bs : List ℕ) (k f y : ℕ) → Scanning s bs k f y 0 start
unfolding passed_all
scanning_start s bs k f y = record { within = omega arith; few = omega arith; most = omega arith; so_far = λ F n hd ns t pos p. rw zero-mul }

-- one more chunk came by; if it is not full, it is the last
pub record Came (s : Sizes) (bs : List ℕ) (k f y i n : ℕ) (w : Spot) : Type 0 where
  pub next : Scanning s bs k f y (i + 1) w
  pub stop : n < s.nodes → Scans s bs k f y w

-- no more nodes than came by
all_came : (s : Sizes) (bs : List ℕ) (k f y i : ℕ) (z : Spot) → Scanning s bs k f y i z →
    ((F : Map) (n : ℕ) (hd : List ℕ) (ns : List Order) → Table s F n hd bs → 0 < k → Pieces F s.nodes k f 0 ns → length ns ≤ i * s.nodes) → Scans s bs k f y z
unfolding Scans
all_came s bs k f y i z p h F n hd ps qs t pos c low high =
    passed_both y ps qs low high z
    (p.so_far F n hd (ps ++ qs) t pos c ∙ ap (λ (l : List Order). passed_all y l start) (take_all (i * s.nodes) (ps ++ qs) (h F n hd (ps ++ qs) t pos c)))

module _ (s : Sizes) (bs : List ℕ) (k f y i : ℕ) (z : Spot) (p : Scanning s bs k f y i z) where
  pub scanning_end : s.blocks ≤ i → Scans s bs k f y z
  scanning_end h = all_came s bs k f y i z p (λ F n hd ns t pos c. omega (arith, chunks_most s k f pos F n hd bs ns t c, mul-le-mul_right s.nodes h))

  -- what a scan says once all nodes came by
  pub scanned : s.blocks ≤ 65535 → Scans s bs k f y z → Scans s bs k f y z × (z.below ≤ z.size) × (z.size ≤ most_nodes)
  scanned b sc = (sc, p.few, omega (arith, p.most, p.within))

  module _ (r : Option ℕ) (er : r ≡ search_in s bs (label k f i)) where
    pub scanning_none : r ≡ None → Scans s bs k f y z
    scanning_none e = all_came s bs k f y i z p (λ F n hd ns t pos c. piece_gone s k f pos F n hd bs ns t c i (none_found s F n hd bs t (label k f i) pos r er e))

    module _ (b : ℕ) (eb : r ≡ Some b) (n : ℕ) (en : n ≡ get_or bs (53 + b * block_long s + 1) 0) where
      came : (F : Map) (m : ℕ) (hd : List ℕ) → Table s F m hd bs → 0 < k → passes (row s) bs n (53 + b * block_long s + 8) y z ≡ passed_all y (F k f i) z
      came F m hd t pos =
          let v = some_found s F m hd bs t (label k f i) pos r er b eb in
          nodes_passed (row s) bs y n (53 + b * block_long s + 8) z
          ∙ rw (counted s F m hd bs t (label k f i) pos r er b eb n en) (ap (λ (l : List Order). passed_all y l z) (nodes_read s bs b (label k f i) (F k f i) v.is v.held.fine))

      -- a block with more nodes than fit is no table's
      pub scanning_wide : s.nodes < n → Scans s bs k f y z
      unfolding Scans
      scanning_wide h F m hd ps qs t pos c low high =
          absurd (omega (arith, (some_found s F m hd bs t (label k f i) pos r er b eb).held.nodes, counted s F m hd bs t (label k f i) pos r er b eb n en))

      pub scanning_more : i < s.blocks → n ≤ s.nodes → s.nodes ≤ 32 → (a x : ℕ) (w : Spot) → a ≡ 53 + b * block_long s → x ≡ row s → w ≡ passes x bs n (a + 8) y z → w.below ≤ w.size →
          w.size ≡ z.size + n → Came s bs k f y i n w
      scanning_more lt le few a x w ea ex ew short long = record {
        next = next;
        stop = λ h. all_came s bs k f y (i + 1) w next (λ F m hd ns t pos c.
            omega (arith, h, step, simp (length-take, length-drop) at (counted s F m hd bs t (label k f i) pos r er b eb n en ∙ ap length (pieces_at F s.nodes k f ns i c))));
      }
        where
          step : i * s.nodes + s.nodes ≡ (i + 1) * s.nodes
          step = rw add-one (sym (suc-mul i s.nodes))

          next : Scanning s bs k f y (i + 1) w
          next = record {
            within = omega arith;
            few = short;
            most = omega (arith, p.most);
            so_far = λ F m hd ns t pos c.
                ew
                ∙ rw (ex, ea) refl
                ∙ came F m hd t pos
                ∙ ap (λ (l : List Order). passed_all y l z) (pieces_at F s.nodes k f ns i c)
                ∙ ap (passed_all y (take s.nodes (drop (i * s.nodes) ns))) (p.so_far F m hd ns t pos c)
                ∙ sym (passed_append y (take (i * s.nodes) ns) (take s.nodes (drop (i * s.nodes) ns)) start)
                ∙ ap (λ (l : List Order). passed_all y l start) (sym (take-add (i * s.nodes) s.nodes ns) ∙ ap (λ (q : ℕ). take q ns) step);
          }
