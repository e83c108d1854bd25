-- The turns of a visit: the nodes that are left of a chunk, and the chunks that are left of a partition.
use Rattle.std.proofs.Common.{Option, Some, None}
use mathlib.Core.Path.{◌≡◌, refl, sym, ap, ◌∙◌, subst}
use mathlib.Core.Bool.{Bool, true, false, cond}
use mathlib.Core.List.{List, [], ◌∷◌, ◌++◌, map}
use Prim.Native.Nat.{ℕ, zero, suc, ◌+◌, ◌*◌, ◌-◌, ◌≤◌, ◌<◌}
use native.Mathlib.Omega.{arith}
use native.Mathlib.Nat.{zero-mul, suc-mul, mul-zero, mul-suc}
use native.Mathlib.Numerals.{add-one}
use lib.Dec.{ltb}
use borrow.Author.Tests.{ltb-false}
use lib.ListN.{length, get_or, drop, length-take, take-append-drop, drop_of_length-le}
use lib.Seq.{drop-drop}
use Rattle.sizes.specs.Numbers.{field, rows_in}
use Rattle.sizes.specs.Sizes.{beta, row}
use Rattle.sizes.specs.Header.{block_long}
use Rattle.placement.specs.Decode.{node_of, nodes_from}
use Rattle.placement.specs.Place.{search_in}
use Rattle.sizes.specs.declared.Sizes.{Sizes}
use Rattle.placement.specs.declared.Order.{Order}
use Rattle.skiplist.specs.Lists.{masked}
use Rattle.skiplist.specs.Image.{orders_in}
use Rattle.skiplist.proofs.Laws.Parts.{part}
use Rattle.skiplist.proofs.Laws.Walk.{each, spread, each_append, each_one}
use Rattle.levels.specs.Ways.{upto_in}
use Rattle.sizes.proofs.Laws.HeaderLoops.{rows_one, rows_room}
use Rattle.placement.proofs.Laws.Reading.{key_of}
use Rattle.readings.specs.Visit.{Scan, step_by, steps, Known, Row, passed_front, under, all_under}
use Rattle.readings.proofs.Laws.Visits.{steps_append, steps_ended, Keeps, keeps_all, keeps_on, steps_keep, steps_below}
use Rattle.readings.proofs.Laws.Rows.{row_piece, row_tail, row_below, each_masked}
use Rattle.readings.proofs.Laws.Chunked.{nodes_first, orders_up, Read, piece, chunk_none, chunk_end, chunk_read}

-- WHAT IS LEFT: a visit x that os come by is y by now, and ps are still to come
pub record Left (os : List Order) (x : Scan) (ps : List Order) (y : Scan) : Type 0 where
  pub keeps : Keeps x y
  pub rest : steps os x ≡ steps ps y

left_start : (os : List Order) (x : Scan) → Left os x os x
left_start os x = record { keeps = keeps_all x; rest = refl }

module _ (os : List Order) (x : Scan) (ps : List Order) (y : Scan) (l : Left os x ps y) where
  pub left_ended : y.visit.left ≡ 0 → y ≡ steps os x
  left_ended e = sym (l.rest ∙ steps_ended ps y e)

  left_none : ps ≡ [] → y ≡ steps os x
  unfolding steps
  left_none e = sym (l.rest ∙ ap (λ (q : List Order). steps q y) e)

  left_more : (qs rs : List Order) → ps ≡ qs ++ rs → (z : Scan) → z ≡ steps qs y → Left os x rs z
  left_more qs rs e z ez = record {
    keeps = keeps_on x y z l.keeps (subst (Keeps y) (sym ez) (steps_keep qs y));
    rest = l.rest ∙ ap (λ (q : List Order). steps q y) e ∙ steps_append qs rs y ∙ ap (steps rs) (sym ez);
  }

pub row_one : (s : Sizes) (os : List Order) (l : ℕ) (ns : List Order) → l ≡ 1 → Row s os l ns → Row s os 1 ns
row_one s os l ns e r = rw e at r

-- where the next node is not above the lowest key, nothing under this one is in the range
module _ (s : Sizes) (bs : List ℕ) (l a j : ℕ) (x : Scan) (k : Known s bs) (low : 1 ≤ l) (range : x.visit.lo ≤ x.visit.hi)
    (nodes : Row s (orders_in bs) l (nodes_from (row s) j (drop a bs))) (more : 2 ≤ j) (next : field (a + row s) 4 bs ≤ x.visit.lo) where
  abbrev one : Order
  one = node_of (row s) bs a

  abbrev other : Order
  other = node_of (row s) bs (a + row s)

  two : nodes_from (row s) j (drop a bs) ≡ one ∷ other ∷ nodes_from (row s) (j - 1 - 1) (drop (a + row s + row s) bs)
  two =
      nodes_first (row s) bs a j (omega arith)
      ∙ ap (λ (ns : List Order). one ∷ ns) (nodes_first (row s) bs (a + row s) (j - 1) (omega arith))

  nothing_under : steps (under s bs (l - 1) one) x ≡ x
  unfolding under
  nothing_under =
      let e : l ≡ suc (l - 1) = omega arith in
      let r : Row s (orders_in bs) (suc (l - 1)) (nodes_from (row s) j (drop a bs)) = subst (λ (i : ℕ). Row s (orders_in bs) i (nodes_from (row s) j (drop a bs))) e nodes in
      steps_below (spread s (orders_in bs) (l - 1) one) other.key x range (omega (arith, key_of (row s) bs (a + row s)))
      (row_below s (orders_in bs) (orders_up s bs k) (l - 1) one other _ (subst (Row s (orders_in bs) (suc (l - 1))) two r))

-- NODES in a loop: k of the j nodes of w bytes from a on are left, from a place on; F is what nodes open
pub record Nodding (w : ℕ) (F : List Order → List Order) (bs : List ℕ) (a j : ℕ) (x : Scan) (k place : ℕ) (y : Scan) : Type 0 where
  pub room : place + w * k ≤ length bs
  pub left : Left (F (nodes_from w j (drop a bs))) x (F (nodes_from w k (drop place bs))) y

module _ (w : ℕ) (F : List Order → List Order) (bs : List ℕ) (a j : ℕ) (x : Scan) where
  pub nodding_start : a + w * j ≤ length bs → Nodding w F bs a j x j a x
  nodding_start h = record { room = h; left = left_start (F (nodes_from w j (drop a bs))) x }

  module _ (k place : ℕ) (y : Scan) (p : Nodding w F bs a j x k place y) where
    nodding_none : F [] ≡ [] → k ≤ 0 → y ≡ steps (F (nodes_from w j (drop a bs))) x
    unfolding rows_in
    nodding_none f h =
        let e : k ≡ 0 = omega arith in
        left_none _ _ _ _ p.left (ap (λ (i : ℕ). F (nodes_from w i (drop place bs))) e ∙ f)

    nodding_next : 0 < k → (qs : List Order) → F (node_of w bs place ∷ nodes_from w (k - 1) (drop (place + w) bs)) ≡ qs ++ F (nodes_from w (k - 1) (drop (place + w) bs)) →
        (z : Scan) → z ≡ steps qs y → Nodding w F bs a j x (k - 1) (place + w) z
    nodding_next h qs f z ez =
        record { room = omega (arith, p.room, rows_one w k h); left = left_more _ _ _ _ p.left qs _ (ap F (nodes_first w bs place k h) ∙ f) z ez }

  -- .. i of them have come by
  abbrev pub Nodded : (i : ℕ) (y : Scan) → Type 0
  Nodded i y = Nodding w F bs a j x (j - i) (a + w * i) y

  nodded_next : (i : ℕ) (y : Scan) → Nodding w F bs a j x (j - i - 1) (a + w * i + w) y → Nodded (i + 1) y
  nodded_next i y p =
      let e : j - i - 1 ≡ j - (i + 1) = omega arith in
      let f : a + w * i + w ≡ a + w * (i + 1) = rw (add-one, mul-suc) (omega arith) in
      rw (e, f) at p

-- nodes that are orders
module _ (w : ℕ) (bs : List ℕ) (a j : ℕ) (x : Scan) where
  module _ (i : ℕ) (y : Scan) (p : Nodded w (λ ns. ns) bs a j x i y) where
    pub orders_more : i < j → (z : Scan) → z ≡ step_by (node_of w bs (a + w * i)) y → Nodded w (λ ns. ns) bs a j x (i + 1) z
    unfolding steps
    orders_more h z ez = nodded_next w (λ ns. ns) bs a j x i z (nodding_next w (λ ns. ns) bs a j x (j - i) (a + w * i) y p (omega arith) (node_of w bs (a + w * i) ∷ []) refl z ez)

    pub orders_end : (s : Sizes) → j ≤ i → y ≡ steps (all_under s bs 0 (nodes_from w j (drop a bs))) x
    unfolding all_under spread
    orders_end s h =
        nodding_none w (λ ns. ns) bs a j x (j - i) (a + w * i) y p refl (omega arith)
        ∙ ap (λ (ns : List Order). steps ns x) (sym (each_one (nodes_from w j (drop a bs))))

-- nodes that open their partitions
module _ (s : Sizes) (bs : List ℕ) (l a j : ℕ) (x : Scan) where
  abbrev all : List Order
  all = nodes_from (row s) j (drop a bs)

  module _ (k place : ℕ) (y : Scan) (p : Nodding (row s) (all_under s bs (l - 1)) bs a j x k place y) where
    pub nodding_orders : l ≡ 1 → (z : Scan) → z ≡ steps (all_under s bs 0 (nodes_from (row s) k (drop place bs))) y → z ≡ steps (all_under s bs (l - 1) all) x
    nodding_orders e z h =
        let o : 0 ≡ l - 1 = omega arith in
        h ∙ ap (λ (i : ℕ). steps (all_under s bs i (nodes_from (row s) k (drop place bs))) y) o ∙ sym p.left.rest

    nodding_more : 0 < k → (z : Scan) → z ≡ steps (under s bs (l - 1) (node_of (row s) bs place)) y →
        Nodding (row s) (all_under s bs (l - 1)) bs a j x (k - 1) (place + row s) z
    unfolding all_under each under
    nodding_more h z ez = nodding_next (row s) (all_under s bs (l - 1)) bs a j x k place y p h (under s bs (l - 1) (node_of (row s) bs place)) refl z ez

  module _ (i : ℕ) (y : Scan) (p : Nodded (row s) (all_under s bs (l - 1)) bs a j x i y) where
    pub nodded_end : j ≤ i → y ≡ steps (all_under s bs (l - 1) all) x
    unfolding all_under each
    nodded_end h = nodding_none (row s) (all_under s bs (l - 1)) bs a j x (j - i) (a + row s * i) y p refl (omega arith)

    pub nodded_more : i < j → (z : Scan) → z ≡ steps (under s bs (l - 1) (node_of (row s) bs (a + row s * i))) y → Nodded (row s) (all_under s bs (l - 1)) bs a j x (i + 1) z
    nodded_more h z ez = nodded_next (row s) (all_under s bs (l - 1)) bs a j x i z (nodding_more (j - i) (a + row s * i) y p (omega arith) z ez)

-- .. past the nodes at the front that end before the range starts
pub record Begun (s : Sizes) (bs : List ℕ) (l a j : ℕ) (x : Scan) (k place : ℕ) : Type 0 where
  pub listed : Row s (orders_in bs) l (nodes_from (row s) k (drop place bs))
  pub nodes : Nodding (row s) (all_under s bs (l - 1)) bs a j x k place x

module _ (s : Sizes) (bs : List ℕ) (l a j : ℕ) (x : Scan) (known : Known s bs) (low : 1 ≤ l) (range : x.visit.lo ≤ x.visit.hi) where
  abbrev w : ℕ
  w = row s

  begun_passed : (k place : ℕ) → Begun s bs l a j x (suc (suc k)) place → field (place + w) 4 bs ≤ x.visit.lo → Begun s bs l a j x (suc k) (place + w)
  begun_passed k place b t =
      let c : suc (suc k) - 1 ≡ suc k = omega arith in
      let next : Begun s bs l a j x (suc (suc k) - 1) (place + w) = record {
        listed = row_tail s (orders_in bs) l (node_of w bs place) _ (subst (Row s (orders_in bs) l) (nodes_first w bs place (suc (suc k)) (omega arith)) b.listed);
        nodes = nodding_more s bs l a j x (suc (suc k)) place x b.nodes (omega arith) x (sym (nothing_under s bs l place (suc (suc k)) x known low range b.listed (omega arith) t));
      } in
      rw c at next

  begun_front : (k place : ℕ) → Begun s bs l a j x k place →
      Begun s bs l a j x (k - passed_front w bs k place x.visit.lo) (place + w * passed_front w bs k place x.visit.lo)
  unfolding passed_front upto_in
  begun_front zero place b = let e : place + w * 0 ≡ place = omega (arith, mul-zero w) in rw e b
  begun_front (suc zero) place b = let e : place + w * 0 ≡ place = omega (arith, mul-zero w) in rw e b
  begun_front (suc (suc k)) place b = go (λ c. begun_front (suc k) (place + w) c) (ltb x.visit.lo (field (place + w) 4 bs)) refl
    where
      n : ℕ
      n = upto_in w bs k (place + w + w) x.visit.lo

      go : (Begun s bs l a j x (suc k) (place + w) → Begun s bs l a j x (suc k - n) (place + w + w * n)) →
          (t : Bool) → ltb x.visit.lo (field (place + w) 4 bs) ≡ t → Begun s bs l a j x (suc (suc k) - cond t 0 (suc n)) (place + w * cond t 0 (suc n))
      go on true e =
          let c : suc (suc k) - 0 ≡ suc (suc k) = omega arith in
          let h : place + w * 0 ≡ place = omega (arith, mul-zero w) in
          rw (c, h) b
      go on false e =
          let d : suc (suc k) - suc n ≡ suc k - n = omega arith in
          let f : place + w * suc n ≡ place + w + w * n = omega (arith, mul-suc w n) in
          rw (d, f) (on (begun_passed k place b (ltb-false x.visit.lo (field (place + w) 4 bs) e)))

  pub begun : a + w * j ≤ length bs → Row s (orders_in bs) l (nodes_from w j (drop a bs)) → (n : ℕ) → n ≡ passed_front w bs j a x.visit.lo → Begun s bs l a j x (j - n) (a + w * n)
  begun h r n e = rw e (begun_front j a (record { listed = r; nodes = nodding_start w (all_under s bs (l - 1)) bs a j x h }))

-- the count of those nodes
module _ (w : ℕ) (bs : List ℕ) (j a lo : ℕ) where
  pub skipped_none : j ≡ 0 → 0 ≡ passed_front w bs j a lo
  unfolding passed_front
  skipped_none e = rw e

  pub skipped_some : (j ≡ 0 → ⊥) → (r : ℕ) → r ≡ upto_in w bs (j - 1) (a + w) lo → r ≡ passed_front w bs j a lo
  unfolding passed_front
  skipped_some h r e =
      let c : j ≡ suc (j - 1) = omega arith in
      e ∙ ap (λ (i : ℕ). passed_front w bs i a lo) (sym c)

-- CHUNKS
abbrev left_of : Sizes → List ℕ → (l : ℕ) → Order → (i : ℕ) → List Order
left_of s bs l o i = drop (i * s.nodes) (part s (orders_in bs) l o.key)

pub record Going (s : Sizes) (bs : List ℕ) (l : ℕ) (o : Order) (x : Scan) (i : ℕ) (y : Scan) : Type 0 where
  pub above : 1 ≤ l
  pub left : Left (under s bs l o) x (all_under s bs (l - 1) (left_of s bs l o i)) y

module _ (s : Sizes) (bs : List ℕ) (l : ℕ) (o : Order) (x : Scan) where
  -- the node's partition, from its first chunk on
  own : 1 ≤ l → under s bs l o ≡ all_under s bs (l - 1) (left_of s bs l o 0)
  unfolding under all_under spread
  own low =
      let e : suc (l - 1) ≡ l = omega arith in
      ap (λ (i : ℕ). spread s (orders_in bs) i o) (sym e) ∙ rw (e, zero-mul)

  pub going_start : 1 ≤ l → Going s bs l o x 0 x
  unfolding steps
  going_start low = record { above = low; left = left_more _ _ _ _ (left_start (under s bs l o) x) [] _ (own low) x refl }

  module _ (i : ℕ) (y : Scan) (g : Going s bs l o x i y) where
    nothing_left : left_of s bs l o i ≡ [] → y ≡ steps (under s bs l o) x
    unfolding all_under each
    nothing_left e = left_none _ _ _ _ g.left (ap (all_under s bs (l - 1)) e)

    module _ (k : Known s bs) (high : l ≤ beta s) where
      pub going_end : 65536 ≤ i → y ≡ steps (under s bs l o) x
      going_end h = nothing_left (chunk_end s bs k l o.key i g.above high h)

      module _ (r : Option ℕ) (er : r ≡ search_in s bs (record { level = l; first = o.key; number = i })) where
        pub going_none : r ≡ None → y ≡ steps (under s bs l o) x
        going_none e = nothing_left (chunk_none s bs k l o.key i g.above high r er e)

        module _ (b : ℕ) (eb : r ≡ Some b) where
          got : Read s bs l b (piece s bs l o.key i)
          got = chunk_read s bs k l o.key i g.above high r er b eb

          module _ (at n : ℕ) (ea : at ≡ 53 + b * block_long s) (en : n ≡ get_or bs (53 + b * block_long s + 1) 0) where
            many : n ≡ length (piece s bs l o.key i)
            many = en ∙ got.count

            nodes_are : nodes_from (row s) n (drop (at + 8) bs) ≡ map (masked l) (piece s bs l o.key i)
            nodes_are = rw (many, ea) got.nodes

            -- its nodes stand in the table, and one after the other in the list of the level
            pub chunk_met : at + block_long s ≤ 53 + s.blocks * block_long s → (at + 8 + row s * n ≤ length bs) × Row s (orders_in bs) l (nodes_from (row s) n (drop (at + 8) bs))
            chunk_met h = (
              omega (arith, k.shaped.long, k.shaped.width, rows_room (row s) n s.nodes (omega (arith, many, got.few))),
              rw nodes_are (row_piece s (orders_in bs) l o.key s.nodes (i * s.nodes) (orders_up s bs k)),
            )

            module _ (z : Scan) (ez : z ≡ steps (all_under s bs (l - 1) (nodes_from (row s) n (drop (at + 8) bs))) y) where
              opens_same : all_under s bs (l - 1) (nodes_from (row s) n (drop (at + 8) bs)) ≡ all_under s bs (l - 1) (piece s bs l o.key i)
              unfolding all_under
              opens_same =
                  let e : suc (l - 1) ≡ l = omega (arith, g.above) in
                  rw nodes_are (rw e at (each_masked s (orders_in bs) (orders_up s bs k) (l - 1) (piece s bs l o.key i)))

              -- the chunk, and what is behind it
              behind : Left (under s bs l o) x (all_under s bs (l - 1) (drop s.nodes (left_of s bs l o i))) z
              unfolding all_under
              behind =
                  left_more _ _ _ _ g.left (all_under s bs (l - 1) (piece s bs l o.key i)) _
                  (ap (all_under s bs (l - 1)) (sym (take-append-drop s.nodes (left_of s bs l o i)))
                  ∙ each_append (spread s (orders_in bs) (l - 1)) (piece s bs l o.key i) (drop s.nodes (left_of s bs l o i)))
                  z (ez ∙ ap (λ (q : List Order). steps q y) opens_same)

              pub going_stop : n < s.nodes → z ≡ steps (under s bs l o) x
              unfolding all_under each
              going_stop h =
                  let f : length (left_of s bs l o i) ≤ s.nodes = omega (arith, many, length-take s.nodes (left_of s bs l o i)) in
                  left_none _ _ _ _ behind (ap (all_under s bs (l - 1)) (drop_of_length-le (left_of s bs l o i) f))

              pub going_more : Going s bs l o x (i + 1) z
              going_more =
                  let e : i * s.nodes + s.nodes ≡ (i + 1) * s.nodes = rw (add-one, suc-mul) in
                  record { above = g.above; left = rw (drop-drop, e) at behind }
