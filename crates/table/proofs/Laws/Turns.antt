-- The turns of the walk: what the code does next is what the model does next.
use Rattle.std.proofs.Common.{Option, Some, None, option_and_then}
use mathlib.Core.Path.{◌≡◌, refl, ap, sym, ◌∙◌}
use mathlib.Core.Bool.{Bool, true, false, cond}
use mathlib.Core.List.{List}
use Prim.Native.Nat.{ℕ, suc, ◌+◌, ◌*◌, ◌-◌, ◌≤◌, ◌<◌}
use lib.Dec.{ltb, eqb}
use borrow.Author.Tests.{lt-ltb, le-ltb}
use native.Mathlib.Omega.{arith}
use native.Mathlib.Nat.{sub-zero}
use native.Mathlib.Numerals.{add-one}
use lib.ListN.{length, get_or}
use Rattle.sizes.specs.Numbers.{field}
use Rattle.sizes.specs.Sizes.{row}
use Rattle.sizes.specs.Hash.{hash_from}
use Rattle.sizes.specs.Header.{block_long}
use Rattle.placement.specs.Decode.{node_of}
use Rattle.placement.specs.Labels.{label, before, home}
use Rattle.placement.specs.Place.{Shaped, label_in, probe, search_in, Starts, behind, found_at}
use Rattle.sizes.specs.declared.Sizes.{Sizes}
use Rattle.sizes.proofs.Laws.HeaderLoops.{rows_one, rows_room}
use Rattle.placement.proofs.Laws.Behind.{starts_behind}
use Rattle.placement.proofs.Laws.Loops.{search_below, search_none}
use Rattle.placement.proofs.Laws.Reading.{key_of}
use Rattle.table.specs.declared.Seen.{Seen}
use Rattle.table.specs.Walk.{Walkable, enters_ok, entered_seen, ended_seen, node_good, nodes_by, spot, chunk_spot, count_in, chunk_by, chunks_by, opens_of}
use Rattle.table.proofs.Laws.Steps.{enters_parts}

-- NODES: what the loop over the nodes of a chunk keeps, j of them still to come
pub record Noding (d : (key : ℕ) → Seen → Option Seen) (s : Sizes) (bs : List ℕ) (l f j₀ a₀ : ℕ) (o₀ : Bool) (x₀ : Seen) (j a : ℕ) (o : Bool) (x : Seen) : Type 0 where
  pub room : a + row s * j ≤ length bs
  pub rest : nodes_by d s bs l f j₀ a₀ o₀ x₀ ≡ nodes_by d s bs l f j a o x

module _ (d : (key : ℕ) → Seen → Option Seen) (s : Sizes) (bs : List ℕ) (l f j₀ a₀ : ℕ) (o₀ : Bool) (x₀ : Seen) where
  module _ (j a : ℕ) (o : Bool) (x : Seen) (i : Noding d s bs l f j₀ a₀ o₀ x₀ j a o x) where
    pub noding_room : 0 < j → a + row s ≤ length bs
    noding_room p = omega (arith, i.room, rows_one (row s) j p)

    pub noding_end : j ≤ 0 → Some x ≡ nodes_by d s bs l f j₀ a₀ o₀ x₀
    unfolding nodes_by
    noding_end h =
        let e : j ≡ 0 = omega arith in
        sym (i.rest ∙ ap (λ (k : ℕ). nodes_by d s bs l f k a o x) e)

    step : 0 < j → (t : Bool) → node_good s l f o (node_of (row s) bs a) ≡ t
        → nodes_by d s bs l f j₀ a₀ o₀ x₀ ≡ cond t (option_and_then (nodes_by d s bs l f (j - 1) (a + row s) false) (d (node_of (row s) bs a).key x)) None
    unfolding nodes_by
    step p t e =
        let f' : j ≡ suc (j - 1) = omega arith in
        i.rest
        ∙ ap (λ (k : ℕ). nodes_by d s bs l f k a o x) f'
        ∙ ap (λ (b : Bool). cond b (option_and_then (nodes_by d s bs l f (j - 1) (a + row s) false) (d (node_of (row s) bs a).key x)) None) e

    pub noding_gone : 0 < j → (k : ℕ) → k ≡ field a 4 bs → None ≡ d k x → None ≡ nodes_by d s bs l f j₀ a₀ o₀ x₀
    noding_gone p k ek e = go (node_good s l f o (node_of (row s) bs a)) refl
      where
        go : (t : Bool) → node_good s l f o (node_of (row s) bs a) ≡ t → None ≡ nodes_by d s bs l f j₀ a₀ o₀ x₀
        go true q = sym (step p true q ∙ ap (option_and_then (nodes_by d s bs l f (j - 1) (a + row s) false)) (sym (e ∙ ap (λ (z : ℕ). d z x) (ek ∙ sym (key_of (row s) bs a)))))
        go false q = sym (step p false q)

    module _ (t : Bool) (et : t ≡ node_good s l f o (node_of (row s) bs a)) (p : 0 < j) where
      pub noding_wrong : t ≡ false → None ≡ nodes_by d s bs l f j₀ a₀ o₀ x₀
      noding_wrong q = sym (step p false (sym et ∙ q))

      pub noding_more : (w : ℕ) → w ≡ row s → t ≡ true → (k : ℕ) → k ≡ field a 4 bs → (y : Seen) → Some y ≡ d k x → Noding d s bs l f j₀ a₀ o₀ x₀ (j - 1) (a + w) false y
      noding_more w ew q k ek y ey =
          record {
            room = omega (arith, i.room, ew, rows_one (row s) j p);
            rest =
                step p true (sym et ∙ q)
                ∙ ap (option_and_then (nodes_by d s bs l f (j - 1) (a + row s) false)) (sym (ey ∙ ap (λ (z : ℕ). d z x) (ek ∙ sym (key_of (row s) bs a))))
                ∙ ap (λ (z : ℕ). nodes_by d s bs l f (j - 1) (a + z) false y) (sym ew);
          }

-- .. so does one whose next node opens nothing, whatever it opens itself
pub noding_ahead : (d : (key : ℕ) → Seen → Option Seen) (s : Sizes) (bs : List ℕ) (l f j₀ a₀ : ℕ) (o₀ : Bool) (x₀ : Seen) (j a : ℕ) (o : Bool) (x : Seen) → Noding d s bs l f j₀ a₀ o₀ x₀ j a o x
    → (t : Bool) → t ≡ node_good s l f o (node_of (row s) bs a) → 1 < j → (w : ℕ) → w ≡ row s → t ≡ true → (k : ℕ) → k ≡ field (a + w) 4 bs → ((y : Seen) → None ≡ d k y)
    → None ≡ nodes_by d s bs l f j₀ a₀ o₀ x₀
noding_ahead d s bs l f j₀ a₀ o₀ x₀ j a o x i t et h w ew q k ek none = go (d (node_of (row s) bs a).key x) refl
  where
    go : (r : Option Seen) → d (node_of (row s) bs a).key x ≡ r → None ≡ nodes_by d s bs l f j₀ a₀ o₀ x₀
    go None e = noding_gone d s bs l f j₀ a₀ o₀ x₀ j a o x i (omega arith) _ (key_of (row s) bs a) (sym e)
    go (Some y) e =
        let n = noding_more d s bs l f j₀ a₀ o₀ x₀ j a o x i t et (omega arith) w ew q _ (key_of (row s) bs a) y (sym e) in
        noding_gone d s bs l f j₀ a₀ o₀ x₀ (j - 1) (a + w) false y n (omega arith) k ek (none y)

-- CHUNKS
pub record Chunking (s : Sizes) (bs : List ℕ) (l f : ℕ) (x : Seen) (i : ℕ) (y : Seen) : Type 0 where
  pub above : 1 ≤ l
  pub within : i ≤ s.blocks
  pub rest : opens_of s bs l f x ≡ chunks_by (opens_of s bs (l - 1)) s bs l f (s.blocks - i) i y

-- .. once a chunk of n nodes may come next, and once they have come by
abbrev pub entering : Sizes → List ℕ → (l f i at n : ℕ) → Seen → Option Seen
entering s bs l f i at n y = nodes_by (opens_of s bs (l - 1)) s bs l f n (at + 8) (eqb i 0) (entered_seen y)

abbrev pub going_on : Sizes → List ℕ → (l f i n : ℕ) → Seen → Option Seen
going_on s bs l f i n z = cond (ltb n s.nodes) (Some z) (chunks_by (opens_of s bs (l - 1)) s bs l f (s.blocks - (i + 1)) (suc i) z)

pub record Entering (s : Sizes) (bs : List ℕ) (l f : ℕ) (x : Seen) (i : ℕ) (y : Seen) (at n : ℕ) : Type 0 where
  pub above : 1 ≤ l
  pub within : i < s.blocks
  pub rest : opens_of s bs l f x ≡ option_and_then (going_on s bs l f i n) (entering s bs l f i at n y)

module _ (s : Sizes) (bs : List ℕ) (l f : ℕ) (x : Seen) where
  pub chunking_start : 1 ≤ l → Chunking s bs l f x 0 x
  unfolding opens_of
  chunking_start lo =
      let e : l ≡ suc (l - 1) = omega arith in
      record {
        above = lo;
        within = omega arith;
        rest =
            ap (λ (i : ℕ). opens_of s bs i f x) e
            ∙ ap (λ (i : ℕ). chunks_by (opens_of s bs (l - 1)) s bs i f s.blocks 0 x) (sym e)
            ∙ ap (λ (i : ℕ). chunks_by (opens_of s bs (l - 1)) s bs l f i 0 x) (sym (sub-zero s.blocks));
      }

  module _ (i : ℕ) (y : Seen) (c : Chunking s bs l f x i y) where
    pub chunking_end : s.blocks ≤ i → Some y ≡ opens_of s bs l f x
    unfolding chunks_by
    chunking_end h =
        let e : s.blocks - i ≡ 0 = omega arith in
        sym (c.rest ∙ ap (λ (j : ℕ). chunks_by (opens_of s bs (l - 1)) s bs l f j i y) e)

    module _ (lt : i < s.blocks) (r : Option ℕ) (er : r ≡ chunk_spot s bs l f i) where
      turn : opens_of s bs l f x
          ≡ cond (found_at r)
          (option_and_then (going_on s bs l f i (count_in (block_long s) bs (spot r))) (chunk_by (opens_of s bs (l - 1)) s bs l f i (spot r) y))
          (ended_seen i y)
      unfolding chunks_by
      turn =
          let e : s.blocks - i ≡ suc (s.blocks - (i + 1)) = omega arith in
          c.rest ∙ ap (λ (j : ℕ). chunks_by (opens_of s bs (l - 1)) s bs l f j i y) e ∙ rw (← er)

      pub chunking_none : (w : Option Seen) → r ≡ None → w ≡ ended_seen i y → w ≡ opens_of s bs l f x
      unfolding found_at
      chunking_none w e h = h ∙ sym (turn ∙ rw e)

      module _ (b : ℕ) (eb : r ≡ Some b) (at n : ℕ) (ea : at ≡ 53 + b * block_long s) (en : n ≡ get_or bs (at + 1) 0) (t : Bool) (et : t ≡ enters_ok s.nodes n y) where
        inside : (u : Bool) → t ≡ u → opens_of s bs l f x ≡ option_and_then (going_on s bs l f i n) (cond u (entering s bs l f i at n y) None)
        unfolding found_at spot count_in chunk_by
        inside u e =
            let h : get_or bs (53 + b * block_long s + 1) 0 ≡ n = rw (← ea, en) in
            let h' : enters_ok s.nodes n y ≡ u = sym et ∙ e in
            turn ∙ rw (eb, h, h', ← ea)

        pub chunking_wrong : t ≡ false → None ≡ opens_of s bs l f x
        chunking_wrong e = sym (inside false e)

        pub entering_made : t ≡ true → Entering s bs l f x i y at n
        entering_made e = record { above = c.above; within = lt; rest = inside true e }

module _ (s : Sizes) (bs : List ℕ) (l f : ℕ) (x : Seen) (i : ℕ) (y : Seen) (at n : ℕ) (h : Entering s bs l f x i y at n) where
  pub entering_gone : None ≡ entering s bs l f i at n y → None ≡ opens_of s bs l f x
  entering_gone q = sym (h.rest ∙ ap (option_and_then (going_on s bs l f i n)) (sym q))

  module _ (z : Seen) (ez : Some z ≡ entering s bs l f i at n y) where
    pub entering_stop : n < s.nodes → Some z ≡ opens_of s bs l f x
    entering_stop q = sym (h.rest ∙ rw (← ez, lt-ltb n s.nodes q))

    pub entering_more : s.nodes ≤ n → Chunking s bs l f x (i + 1) z
    entering_more q = record { above = h.above; within = omega (arith, h.within); rest = h.rest ∙ rw (← ez, le-ltb n s.nodes q, add-one) }

-- the nodes of a chunk above level 1, as they are called for
pub higher_nodes : (s : Sizes) (bs : List ℕ) (l f n a : ℕ) (o : Bool) (y y' : Seen) (z : Option Seen) → z ≡ nodes_by (opens_of s bs (l - 1)) s bs l f n a o y' → y' ≡ entered_seen y
    → z ≡ nodes_by (opens_of s bs (l - 1)) s bs l f n a o (entered_seen y)
higher_nodes s bs l f n a o y y' z ez ey = ez ∙ ap (nodes_by (opens_of s bs (l - 1)) s bs l f n a o) ey

-- a partition whose search starts at an empty block has no chunk
pub opens_empty : (s : Sizes) (bs : List ℕ) (l f : ℕ) → Shaped s bs → 1 ≤ l → (t : Bool)
    → t ≡ eqb (label_in (block_long s) bs (home s (record { level = l; first = f; number = 0 }))).level 0 → t ≡ true → (x : Seen) → None ≡ opens_of s bs l f x
unfolding chunk_spot ended_seen
opens_empty s bs l f h lo t et e x =
    let none = search_none s bs (record { level = l; first = f; number = 0 }) h lo (sym et ∙ e) in
    chunking_none s bs l f x 0 x (chunking_start s bs l f x lo) h.some None (sym none) None refl refl

-- THE HASH of the next node's key, which the loop over nodes has at hand
pub record Keyed (s : Sizes) (bs : List ℕ) (j a g : ℕ) : Type 0 where
  pub is : 0 < j → g ≡ hash_from 5 5 s.seed (field a 4 bs)

module _ (s : Sizes) (bs : List ℕ) (j a g : ℕ) where
  pub keyed_made : (k : ℕ) → k ≡ field a 4 bs → g ≡ hash_from 5 5 s.seed k → Keyed s bs j a g
  keyed_made k ek e = record { is = λ p. e ∙ ap (hash_from 5 5 s.seed) ek }

  pub keyed_none : j ≤ 0 → Keyed s bs j a g
  keyed_none h = record { is = λ p. absurd (omega arith) }

-- WHAT THE CALLS ASK
pub chunk_found : (s : Sizes) (bs : List ℕ) (l f i : ℕ) (r : Option ℕ) → r ≡ search_in s bs (record { level = l; first = f; number = i }) → r ≡ chunk_spot s bs l f i
unfolding chunk_spot
chunk_found s bs l f i r e = e

pub chunk_below : (s : Sizes) (bs : List ℕ) (l f i : ℕ) (r : Option ℕ) (b : ℕ) → r ≡ Some b → r ≡ chunk_spot s bs l f i → Shaped s bs → b < s.blocks
unfolding chunk_spot
chunk_below s bs l f i r b e er h = search_below s bs _ r b e er h

module _ (b n : ℕ) (y : Seen) (t : Bool) (et : t ≡ enters_ok b n y) (e : t ≡ true) where
  pub enters_some : 1 ≤ n
  enters_some = (enters_parts b n y (sym et ∙ e)).0

  pub enters_chunks : 1 ≤ y.chunks
  enters_chunks = (enters_parts b n y (sym et ∙ e)).2

module _ (s : Sizes) (bs : List ℕ) (w : Walkable s bs) (n : ℕ) (y : Seen) (t : Bool) (et : t ≡ enters_ok s.nodes n y) (e : t ≡ true) where
  pub chunk_room : (at : ℕ) → at + block_long s ≤ 53 + s.blocks * block_long s → at + 8 + row s * n ≤ length bs
  chunk_room at h = omega (arith, w.shaped.long, w.shaped.width, rows_room (row s) n s.nodes (enters_parts s.nodes n y (sym et ∙ e)).1)

-- the search for a chunk of level 1 may start behind the chunk before it, and finds it from wherever it may start
module _ (s : Sizes) (bs : List ℕ) (f : ℕ) where
  pub starting_next : (j i : ℕ) (r : Option ℕ) → r ≡ chunk_spot s bs 1 f j → r ≡ Some i → j + 1 ≤ 65535 → (start : ℕ) → start ≡ behind s (label 1 f (j + 1)) i → start < s.blocks
      → Starts s bs (label 1 f (j + 1)) start
  unfolding chunk_spot
  starting_next j i r er ei few start e h = starts_behind s bs 1 f j i start (omega arith) (omega arith) few (sym er ∙ ei) e h

  pub starting_found : (j start : ℕ) (r : Option ℕ) → Starts s bs (label 1 f j) start → r ≡ probe (before s) (label_in (block_long s) bs) s.blocks (label 1 f j) s.blocks start → r ≡ chunk_spot s bs 1 f j
  unfolding chunk_spot
  starting_found j start r st e = e ∙ st.same
