-- A partition of level 1: its nodes come by one after the other in the loop over its blocks, without a `Seen` for each.
use Rattle.std.proofs.Common.{Option, Some, None}
use mathlib.Core.Path.{◌≡◌, refl, ap, sym, ◌∙◌, subst}
use mathlib.Core.Bool.{Bool, true, false, ◌&&◌, and-true, and_comm, and_assoc, and-eq-true_iff, true≢false}
use mathlib.Core.List.{List}
use Prim.Native.Nat.{ℕ, zero, suc, ◌+◌, ◌*◌, ◌-◌, ◌≤◌, ◌<◌}
use lib.Dec.{ltb, leb, eqb}
use lib.ListN.{length, get_or}
use borrow.Author.Tests.{le-leb, ltb-true, leb-true, leb-false}
use mir.Val.{Fits}
use mir.Syntax.{w32}
use native.Mathlib.Omega.{arith}
use Rattle.sizes.specs.Numbers.{field}
use Rattle.sizes.specs.Sizes.{prime, row}
use Rattle.sizes.specs.Header.{block_long}
use Rattle.sizes.specs.declared.Sizes.{Sizes}
use Rattle.placement.specs.Decode.{node_of}
use Rattle.placement.specs.declared.Order.{Order}
use Rattle.placement.proofs.Laws.Reading.{key_of}
use Rattle.table.specs.declared.Seen.{Seen}
use Rattle.table.specs.Walk.{price_ok, counts, counted, fits_in, enters_ok, entered_seen, node_good, nodes_by, enters_lowest, comes_ok, passed_seen, chunk_spot, opens_of}
use Rattle.table.proofs.Laws.Steps.{counts_parts}
use Rattle.table.proofs.Laws.Turns.{Noding, noding_room, noding_end, noding_gone, noding_wrong, noding_more, Chunking, chunking_wrong, Entering, entering_made, entering_gone, entering_stop, entering_more}

-- the walk of the nodes of a level 1 chunk
abbrev lowest : Sizes → List ℕ → (first left at : ℕ) → (opens : Bool) → Seen → Option Seen
lowest s bs f j a o x = nodes_by (opens_of s bs 0) s bs 1 f j a o x

-- the key of a node that comes by has a next one
pub comes_fits : (s : Sizes) (bs : List ℕ) (a f : ℕ) (o : Bool) (y : ℕ) (t : Bool) → t ≡ comes_ok s f o y (node_of (row s) bs a) → t ≡ true → (k : ℕ) → k ≡ field a 4 bs → Fits w32 (k + 1)
unfolding comes_ok
comes_fits s bs a f o y t et e k ek =
    let n = node_of (row s) bs a in
    let q = price_ok s 1 n && fits_in s 1 f o n in
    let b = (and-eq-true_iff (leb y n.key) (ltb n.key prime && q)).0 (sym et ∙ e) in
    record { fits = omega (arith, ltb-true n.key prime ((and-eq-true_iff (ltb n.key prime) q).0 b.1).0, key_of (row s) bs a, ek) }

-- ONE NODE: what the code asks of it is what the model asks
module _ (s : Sizes) (f : ℕ) (o : Bool) (n : Order) (x : Seen) (some : 1 ≤ x.orders) where
  both_asked : (node_good s 1 f o n && counts n.key x) ≡ comes_ok s f o x.low n
  unfolding node_good counts comes_ok
  both_asked =
      let a = leb x.low n.key in
      let b = ltb n.key prime in
      let c = price_ok s 1 n && fits_in s 1 f o n in
      rw (le-leb 1 x.orders some, and-true) (and_comm c (a && b) ∙ and_assoc a b c)

-- more nodes than orders are to come
too_many : (s : Sizes) (bs : List ℕ) (f j a : ℕ) (o : Bool) (x : Seen) → x.orders < j → lowest s bs f j a o x ≡ None
unfolding nodes_by opens_of counted
too_many s bs f zero a o x h = absurd (omega arith)
too_many s bs f (suc j) a o x h =
    go (node_good s 1 f o (node_of (row s) bs a)) (counts key x) refl refl (too_many s bs f j (a + row s) false (record { low = key + 1; orders = x.orders - 1; chunks = x.chunks }))
  where
    key : ℕ
    key = (node_of (row s) bs a).key

    go : (u v : Bool) → node_good s 1 f o (node_of (row s) bs a) ≡ u → counts key x ≡ v
        → (x.orders - 1 < j → lowest s bs f j (a + row s) false (record { low = key + 1; orders = x.orders - 1; chunks = x.chunks }) ≡ None)
        → lowest s bs f (suc j) a o x ≡ None
    go true true p q ih = rw (p, q) (ih (omega (arith, (counts_parts key x q).2)))
    go true false p q ih = rw (p, q)
    go false v p q ih = rw p

-- THE LOOP over the nodes of a chunk of n: what it keeps when k of them have come by
pub record Lowering (s : Sizes) (bs : List ℕ) (f n a₀ : ℕ) (o₀ : Bool) (y : Seen) (k a : ℕ) (o : Bool) (low : ℕ) : Type 0 where
  pub few : n ≤ y.orders
  pub nodes : Noding (opens_of s bs 0) s bs 1 f n a₀ o₀ (entered_seen y) (n - k) a o (passed_seen k low y)

module _ (s : Sizes) (bs : List ℕ) (f n a₀ : ℕ) (o₀ : Bool) (y : Seen) where
  pub lowering_start : n ≤ y.orders → a₀ + row s * n ≤ length bs → Lowering s bs f n a₀ o₀ y 0 a₀ o₀ y.low
  unfolding entered_seen passed_seen
  lowering_start few room =
      let e : n ≡ n - 0 = omega arith in
      let v : y.orders ≡ y.orders - 0 = omega arith in
      record {
        few = few;
        nodes = record {
          room = subst (λ (i : ℕ). a₀ + row s * i ≤ length bs) e room;
          rest = λ i. lowest s bs f (e i) a₀ o₀ (record { low = y.low; orders = v i; chunks = y.chunks - 1 });
        };
      }

  module _ (k a : ℕ) (o : Bool) (low : ℕ) (h : Lowering s bs f n a₀ o₀ y k a o low) where
    pub lowering_end : n ≤ k → k ≤ n → Some (passed_seen n low y) ≡ lowest s bs f n a₀ o₀ (entered_seen y)
    lowering_end z z' =
        let e : n ≡ k = omega arith in
        ap (λ (j : ℕ). Some (passed_seen j low y)) e ∙ noding_end (opens_of s bs 0) s bs 1 f n a₀ o₀ (entered_seen y) (n - k) a o (passed_seen k low y) h.nodes (omega arith)

    pub lowering_room : k < n → a + row s ≤ length bs
    lowering_room p = noding_room (opens_of s bs 0) s bs 1 f n a₀ o₀ (entered_seen y) (n - k) a o (passed_seen k low y) h.nodes (omega arith)

    module _ (p : k < n) (t : Bool) (et : t ≡ comes_ok s f o low (node_of (row s) bs a)) where
      abbrev m : Order
      m = node_of (row s) bs a

      abbrev x : Seen
      x = passed_seen k low y

      asked : (node_good s 1 f o m && counts m.key x) ≡ t
      unfolding passed_seen
      asked = both_asked s f o m x (omega (arith, h.few)) ∙ sym et

      pub lowering_wrong : t ≡ false → None ≡ lowest s bs f n a₀ o₀ (entered_seen y)
      unfolding opens_of counted
      lowering_wrong e = go (node_good s 1 f o m) (counts m.key x) refl refl (asked ∙ e)
        where
          go : (u v : Bool) → node_good s 1 f o m ≡ u → counts m.key x ≡ v → (u && v) ≡ false → None ≡ lowest s bs f n a₀ o₀ (entered_seen y)
          go true true c d q = absurd (true≢false q)
          go true false c d q = noding_gone (opens_of s bs 0) s bs 1 f n a₀ o₀ (entered_seen y) (n - k) a o x h.nodes (omega arith) m.key (key_of (row s) bs a) (rw d)
          go false v c d q = noding_wrong (opens_of s bs 0) s bs 1 f n a₀ o₀ (entered_seen y) (n - k) a o x h.nodes false (sym c) (omega arith) refl

      pub lowering_more : (w : ℕ) → w ≡ row s → t ≡ true → (v : ℕ) → v ≡ field a 4 bs → Lowering s bs f n a₀ o₀ y (k + 1) (a + w) false (v + 1)
      unfolding opens_of counted passed_seen
      lowering_more w ew e v ev =
          let b = (and-eq-true_iff (node_good s 1 f o m) (counts m.key x)).0 (asked ∙ e) in
          let c : counts v x ≡ true = ap (λ (z : ℕ). counts z x) (ev ∙ sym (key_of (row s) bs a)) ∙ b.1 in
          let d : y.orders - (k + 1) ≡ y.orders - k - 1 = omega arith in
          let j : n - k - 1 ≡ n - (k + 1) = omega arith in
          record {
            few = h.few;
            nodes =
                subst (λ (i : ℕ). Noding (opens_of s bs 0) s bs 1 f n a₀ o₀ (entered_seen y) i (a + w) false (passed_seen (k + 1) (v + 1) y)) j
                (noding_more (opens_of s bs 0) s bs 1 f n a₀ o₀ (entered_seen y) (n - k) a o x h.nodes true (sym b.0) (omega arith) w ew refl v ev (passed_seen (k + 1) (v + 1) y)
                (rw (c, d)));
          }

-- A CHUNK may come next
module _ (b n : ℕ) (y : Seen) (t : Bool) (et : t ≡ enters_lowest b n y) (e : t ≡ true) where
  pub lowest_enters : true ≡ enters_ok b n y
  unfolding enters_lowest
  lowest_enters = sym ((and-eq-true_iff (enters_ok b n y) (leb n y.orders)).0 (sym et ∙ e)).0

  pub lowest_few : n ≤ y.orders
  unfolding enters_lowest
  lowest_few = leb-true n y.orders ((and-eq-true_iff (enters_ok b n y) (leb n y.orders)).0 (sym et ∙ e)).1

-- .. or not
module _ (s : Sizes) (bs : List ℕ) (f : ℕ) (x : Seen) (i : ℕ) (y : Seen) (c : Chunking s bs 1 f x i y) (lt : i < s.blocks) (r : Option ℕ) (er : r ≡ chunk_spot s bs 1 f i) (b : ℕ) (eb : r ≡ Some b)
    (at n : ℕ) (ea : at ≡ 53 + b * block_long s) (en : n ≡ get_or bs (at + 1) 0) where
  pub lowest_refused : (t : Bool) → t ≡ enters_lowest s.nodes n y → t ≡ false → None ≡ opens_of s bs 1 f x
  unfolding enters_lowest entered_seen
  lowest_refused t et e = go (enters_ok s.nodes n y) (leb n y.orders) refl refl (sym et ∙ e)
    where
      go : (u v : Bool) → enters_ok s.nodes n y ≡ u → leb n y.orders ≡ v → (u && v) ≡ false → None ≡ opens_of s bs 1 f x
      go true true p q z = absurd (true≢false z)
      go true false p q z =
          entering_gone s bs 1 f x i y at n (entering_made s bs 1 f x i y c lt r er b eb at n ea en true (sym p) refl)
          (sym (too_many s bs f n (at + 8) (eqb i 0) (entered_seen y) (leb-false n y.orders q)))
      go false v p q z = chunking_wrong s bs 1 f x i y c lt r er b eb at n ea en false (sym p) refl

-- WHAT THE LOOP over its nodes comes to
module _ (s : Sizes) (bs : List ℕ) (f : ℕ) (x : Seen) (i : ℕ) (y : Seen) (at n : ℕ) (h : Entering s bs 1 f x i y at n) (k a : ℕ) (o : Bool) (low : ℕ)
    (j : Lowering s bs f n (at + 8) (eqb i 0) y k a o low) where
  pub lowest_wrong : k < n → (t : Bool) → t ≡ comes_ok s f o low (node_of (row s) bs a) → t ≡ false → None ≡ opens_of s bs 1 f x
  lowest_wrong p t et e = entering_gone s bs 1 f x i y at n h (lowering_wrong s bs f n (at + 8) (eqb i 0) y k a o low j p t et e)

  module _ (z : Seen) (ez : z ≡ passed_seen n low y) (p : n ≤ k) (p' : k ≤ n) where
    whole : Some z ≡ lowest s bs f n (at + 8) (eqb i 0) (entered_seen y)
    whole = ap Some ez ∙ lowering_end s bs f n (at + 8) (eqb i 0) y k a o low j p p'

    pub lowest_stop : n < s.nodes → Some z ≡ opens_of s bs 1 f x
    lowest_stop q = entering_stop s bs 1 f x i y at n h z whole q

    pub lowest_more : s.nodes ≤ n → Chunking s bs 1 f x (i + 1) z
    lowest_more q = entering_more s bs 1 f x i y at n h z whole q
