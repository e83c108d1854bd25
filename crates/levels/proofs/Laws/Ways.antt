-- Laws of the way down on any bytes: the nodes of a chunk, the chunks of a level, the levels.
use Rattle.std.proofs.Common.{Option, Some, None}
use Rattle.std.specs.Option.{unwrap_or, MatchOption}
use mathlib.Core.Path.{◌≡◌, refl, sym, ap, ◌∙◌}
use mathlib.Core.List.{List}
use Prim.Native.Nat.{ℕ, zero, suc, ◌+◌, ◌*◌, ◌-◌, ◌≤◌, ◌<◌}
use native.Mathlib.Nat.{add-zero, mul-zero, mul-suc}
use native.Mathlib.Numerals.{add-one}
use native.Mathlib.Omega.{arith}
use borrow.Author.Tests.{ne_eqb, le-ltb, lt-ltb}
use lib.Dec.{leb}
use lib.ListN.{length}
use lib.Seq.{length-sets}
use Rattle.sizes.specs.Numbers.{big, field}
use Rattle.sizes.specs.Sizes.{row}
use Rattle.sizes.specs.Header.{block_long}
use Rattle.sizes.specs.Hash.{hash_from}
use Rattle.placement.specs.Labels.{label, before, home}
use Rattle.placement.specs.Place.{Shaped, label_in, probe, search_in, Starts, behind}
use Rattle.sizes.specs.declared.Sizes.{Sizes}
use Rattle.sizes.proofs.Laws.Hashes.{hash_below}
use Rattle.sizes.proofs.Laws.HeaderLoops.{rows_room}
use Rattle.placement.proofs.Laws.Cells.{cond_valid}
use Rattle.placement.proofs.Laws.Loops.{search_below}
use Rattle.placement.proofs.Laws.Behind.{starts_home, starts_behind}
use Rattle.levels.specs.declared.Trail.{Trail}
use Rattle.levels.specs.Ways.{Trek, trek, coming, starting, number_in, upto_in, reached_in, found_upto, found_block, trod, Inside, chunks_in, along_in, down_in}

-- one row more
pub rows_next : (w i : ℕ) → w * (i + 1) ≡ w * i + w
rows_next w i = rw add-one (mul-suc w i)

-- THE NODES of a chunk, of w bytes each: so many are not above y as stand before the first that is above
upto_at : (w : ℕ) (bs : List ℕ) (n at y i : ℕ) → i ≤ n → ((k : ℕ) → 0 ≤ k → k < i → field (at + w * k) 4 bs ≤ y) → (i < n → y < field (at + w * i) 4 bs) → i ≡ upto_in w bs n at y
unfolding upto_in
upto_at w bs zero a y i h low high = omega arith
upto_at w bs (suc n) a y zero h low high = rw (lt-ltb y (field a 4 bs) (rw (mul-zero, add-zero) at (high (omega arith))))
upto_at w bs (suc n) a y (suc i) h low high =
    let first : field a 4 bs ≤ y = rw (mul-zero, add-zero) at (low 0 (omega arith) (omega arith)) in
    let next : (k : ℕ) → a + w * suc k ≡ a + w + w * k = λ k. omega (arith, mul-suc w k) in
    rw (le-ltb y (field a 4 bs) first)
    (ap suc (upto_at w bs n (a + w) y i (omega arith) (λ k p l. rw next at (low (suc k) (omega arith) (omega arith))) (λ l. rw next at (high (omega arith)))))

pub upto_found : (w : ℕ) (bs : List ℕ) (n at y : ℕ) (f : Option ℕ) (r : ℕ) → r ≡ unwrap_or f n
    → MatchOption f ((k : ℕ) → 0 ≤ k → k < n → field (at + w * k) 4 bs ≤ y) (λ i. (0 ≤ i) × (i < n) × (y < field (at + w * i) 4 bs) × ((k : ℕ) → 0 ≤ k → k < i → field (at + w * k) 4 bs ≤ y))
    → (r ≡ upto_in w bs n at y) × (r ≤ n)
upto_found w bs n at y None r e low = (e ∙ upto_at w bs n at y n (omega arith) low (λ l. absurd (omega arith)), omega (arith, e))
upto_found w bs n at y (Some i) r e (p, l, high, low) = (e ∙ upto_at w bs n at y i (omega arith) low (λ l. high), omega (arith, e))

-- there is room for the nodes
module _ (s : Sizes) (bs : List ℕ) (h : Shaped s bs) (a : ℕ) (q : a + block_long s ≤ 53 + s.blocks * block_long s) where
  pub reached_room : (c w : ℕ) → c ≤ s.nodes → w ≡ row s → a + 8 + w * c ≤ length bs
  reached_room c w l e = rw e (omega (arith, q, h.long, h.width, rows_room (row s) c s.nodes l))

-- A NUMBER of the path
module _ (o : List ℕ) (c i : ℕ) where
  pub number_long : length (number_in o c i) ≡ length o
  unfolding number_in
  number_long = cond_valid (λ (x : List ℕ). length x ≡ length o) (leb (2 * c + 2) (length o)) (length-sets o (2 * c) (big 2 i)) refl

-- THE CHUNKS of a level: chunk j comes next, and is found from block `start` on
pub record Along (s : Sizes) (bs : List ℕ) (l y c f : ℕ) (o : List ℕ) (j : ℕ) (start : ℕ) (w : Trail) (z : List ℕ) : Type 0 where
  pub within : j ≤ s.blocks
  pub few : w.count ≤ c + j
  pub inside : Inside s bs w.at
  pub long : length z ≡ length o
  pub rest : along_in s bs l y (trek (coming c f) o) ≡ chunks_in s bs l f y (s.blocks - j) j (trek w z)
  pub starts : Starts s bs (label l f j) start

module _ (s : Sizes) (bs : List ℕ) (l y : ℕ) (t : Trail) (o : List ℕ) (g : Shaped s bs) where
  -- what is said of the way when the level is done
  abbrev Gone : (r : Trail) → (z : List ℕ) → Type 0
  Gone r z = (trek r z ≡ along_in s bs l y (trek t o)) × (r.count ≤ t.count + 65535) × Inside s bs r.at

  pub along_start : (start : ℕ) → start ≡ home s (label l t.first 0) → start < s.blocks
      → Along s bs l y t.count t.first o 0 start (coming t.count t.first) o
  unfolding along_in search_in
  along_start start e h =
      let c : s.blocks - 0 ≡ s.blocks = omega arith in
      record { within = omega arith; few = omega arith; inside = tt; long = refl; rest = rw c; starts = starts_home s bs (label l t.first 0) start e h }

  module _ (j start : ℕ) (w : Trail) (z : List ℕ) (p : Along s bs l y t.count t.first o j start w z) where
    stop : chunks_in s bs l t.first y (s.blocks - j) j (trek w z) ≡ trek w z → Gone w z
    unfolding along_in
    stop e = (sym (p.rest ∙ e), omega (arith, p.few, p.within, g.most), p.inside)

    pub along_end : s.blocks ≤ j → Gone w z
    unfolding chunks_in
    along_end h =
        let c : s.blocks - j ≡ 0 = omega arith in
        stop (rw c)

    module _ (h : j < s.blocks) (r : Option ℕ) (ep : r ≡ probe (before s) (label_in (block_long s) bs) s.blocks (label l t.first j) s.blocks start) where
      er : r ≡ search_in s bs (label l t.first j)
      er = ep ∙ p.starts.same

      step : s.blocks - j ≡ suc (s.blocks - (j + 1))
      step = omega arith

      pub along_none : r ≡ None → Gone w z
      unfolding chunks_in found_upto
      along_none e = stop (rw (step, ← er, e))

      module _ (i : ℕ) (e : r ≡ Some i) where
        pub along_below : i < s.blocks
        along_below = search_below s bs _ r i e er g

        -- as `behind` asks
        pub along_behind : (x : ℕ) → x ≡ hash_from 5 5 s.seed t.first → l ≤ 19
            → (i < s.blocks) × (x ≡ hash_from 5 5 s.seed t.first) × (x < 2147483647) × (l ≤ 19) × (j + 1 ≤ 65535)
        along_behind x ex high = (along_below, ex, hash_below s 5 t.first x ex, high, omega (arith, g.most))

        module _ (n : ℕ) (en : n ≡ reached_in s bs i y) where
          pub along_short : n ≡ 0 → Gone w z
          unfolding chunks_in found_upto
          along_short q = stop (rw (step, ← er, e, ← en, q))

          module _ (q : n ≡ 0 → ⊥) (w' : Trail) (z' : List ℕ) (ew : trek w' z' ≡ trod s bs i n (trek w z)) (c : w'.count ≡ w.count + 1) (a : Inside s bs w'.at) where
            -- the output keeps its length
            pub trod_long : length z' ≡ length o
            unfolding trod
            trod_long = ap (λ (x : Trek). length x.path) ew ∙ number_long z w.count i ∙ p.long

            pub along_last : n < s.nodes → Gone w' z'
            unfolding chunks_in found_upto found_block along_in
            along_last b =
                (sym (p.rest ∙ rw (step, ← er, e, ← en, ne_eqb n 0 q, lt-ltb n s.nodes b, ew)), omega (arith, p.few, p.within, g.most), a)

            pub along_more : s.nodes ≤ n → 0 < l → l ≤ 19 → (start' : ℕ) → start' ≡ behind s (label l t.first (j + 1)) i → start' < s.blocks
                → Along s bs l y t.count t.first o (j + 1) start' w' z'
            unfolding chunks_in found_upto found_block
            along_more b some high start' es h' =
                let d : j + 1 ≡ suc j = omega arith in
                record {
                  within = omega arith;
                  few = omega (arith, p.few);
                  inside = a;
                  long = trod_long;
                  rest = p.rest ∙ rw (step, ← er, e, ← en, ne_eqb n 0 q, le-ltb n s.nodes b, ew, d);
                  starts = starts_behind s bs l t.first j i start' some high (omega (arith, g.most)) (sym er ∙ e) es h';
                }

-- THE LEVELS
pub record Down (s : Sizes) (bs : List ℕ) (top l y : ℕ) (o : List ℕ) (k : ℕ) (t : Trail) (z : List ℕ) : Type 0 where
  pub within : k ≤ top
  pub few : t.count ≤ 65535 * (top - k)
  pub inside : Inside s bs t.at
  pub long : length z ≡ length o
  pub rest : down_in s bs l y (top - l) (trek starting o) ≡ down_in s bs l y (k - l) (trek t z)

module _ (s : Sizes) (bs : List ℕ) (top l y : ℕ) (o : List ℕ) where
  pub down_start : Down s bs top l y o top starting o
  down_start = record { within = omega arith; few = omega arith; inside = tt; long = refl; rest = refl }

  module _ (k : ℕ) (t : Trail) (z : List ℕ) (p : Down s bs top l y o k t z) where
    pub down_room : top ≤ 19 → t.count + 65535 ≤ 4294967295
    down_room h = omega (arith, p.few)

    pub down_more : l < k → (t' : Trail) (z' : List ℕ) → trek t' z' ≡ along_in s bs k y (trek t z) → t'.count ≤ t.count + 65535 → Inside s bs t'.at → length z' ≡ length z →
        Down s bs top l y o (k - 1) t' z'
    unfolding down_in
    down_more h t' z' e c a g =
        let d : k - l ≡ suc (k - 1 - l) = omega arith in
        let m : suc (k - 1 - l) + l ≡ k = omega arith in
        record { within = omega (arith, p.within); few = omega (arith, p.few, p.within); inside = a; long = g ∙ p.long; rest = p.rest ∙ rw d (ap (λ (v : ℕ). down_in s bs l y (k - 1 - l) (along_in s bs v y (trek t z))) m ∙ ap (down_in s bs l y (k - 1 - l)) (sym e)) }

    pub down_end : k ≤ l → trek t z ≡ down_in s bs l y (top - l) (trek starting o)
    unfolding down_in
    down_end h =
        let d : k - l ≡ 0 = omega arith in
        sym (p.rest ∙ rw d)
