-- The pass over the blocks: it counts the full ones, and where it is clean the unused bytes are zero.
use Rattle.std.proofs.Common.{Ok, Err, is_ok}
use mathlib.Core.Path.{◌≡◌, refl, sym, ap, ◌∙◌, subst}
use mathlib.Core.Bool.{Bool, true, false, cond, false≢true}
use mathlib.Core.List.{List, ◌∷◌, map}
use Prim.Native.Nat.{ℕ, zero, suc, ◌+◌, ◌*◌, ◌-◌, ◌≤◌, ◌<◌}
use native.Mathlib.Nat.{zero-add, suc-mul, add-zero, zero-mul}
use native.Mathlib.Omega.{arith}
use borrow.Author.Tests.{eq-eqb, ne_eqb, eqb-true, eqb-false}
use lib.Dec.{eqb}
use lib.ListN.{length, get_or, take, drop, replicate}
use lib.Seq.{drop-drop, drop-cons}
use Rattle.sizes.specs.Numbers.{rows_in}
use Rattle.sizes.specs.Sizes.{row}
use Rattle.sizes.specs.Header.{block_long}
use Rattle.placement.specs.Blocks.{Block, empty, holds, how_many}
use Rattle.placement.specs.Chunks.{Chunk}
use Rattle.sizes.specs.Parts.{block_in}
use Rattle.placement.specs.Decode.{chunk_of, block_of, cut, blocks_in}
use Rattle.sizes.specs.declared.Sizes.{Sizes}
use Rattle.sizes.proofs.Laws.Sizes.{and_parts}
use Rattle.sizes.proofs.Laws.HeaderLoops.{rows_room, rows_left}
use Rattle.sizes.proofs.Laws.Bytes.{block_end}
use Rattle.sizes.proofs.Laws.Numbers.{drop_take}
use Rattle.sizes.proofs.Laws.Parts.{get_d_part}
use Rattle.placement.proofs.Laws.Decoding.{Clean, zeros, filled}
use Rattle.table.specs.Check.{zeros_from, used_of, more_of, unused, block_clean, sweep_from, swept}

-- ---- HOW MANY are full

level_byte : (w : ℕ) (bs : List ℕ) (i : ℕ) → 0 < w → get_or (take w (drop (53 + i * w) bs)) 0 0 ≡ get_or bs (53 + i * w) 0
level_byte w bs i h = get_d_part w (53 + i * w) bs 0 h ∙ ap (λ (k : ℕ). get_or bs k 0) (add-zero (53 + i * w))

-- one more block that is not empty
one_more : (m : ℕ) (c : Chunk) (bl : List (Block Chunk)) (l : ℕ) → how_many bl + more_of m l ≡ how_many (cond (eqb l 0) empty (holds c) ∷ bl) + m
unfolding more_of how_many
one_more m c bl l = go (eqb l 0)
  where
    go : (t : Bool) → how_many bl + cond t m (m + 1) ≡ how_many (cond t empty (holds c) ∷ bl) + m
    go true = refl
    go false = omega arith

module _ (r w : ℕ) (bs : List ℕ) (pos : 0 < w) where
  next : (i : ℕ) → drop w (drop (53 + i * w) bs) ≡ drop (53 + suc i * w) bs
  next i =
      let e : 53 + i * w + w ≡ 53 + suc i * w = omega (arith, suc-mul i w) in
      drop-drop w (53 + i * w) bs ∙ ap (λ (k : ℕ). drop k bs) e

  count_from : (k i m n : ℕ) → sweep_from r w bs k i m ≡ Ok n → n ≡ how_many (map (block_of r) (cut w k (drop (53 + i * w) bs))) + m
  unfolding sweep_from rows_in how_many block_of
  count_from zero i m n e =
      let f : m ≡ n = cc in
      omega (arith, f)
  count_from (suc k) i m n e =
      go (count_from k (suc i) (more_of m (get_or bs (53 + i * w) 0)) n) (block_clean r w bs i) e
    where
      l : ℕ
      l = get_or bs (53 + i * w) 0

      x : List ℕ
      x = take w (drop (53 + i * w) bs)

      bl : List (Block Chunk)
      bl = map (block_of r) (cut w k (drop w (drop (53 + i * w) bs)))

      same : how_many (map (block_of r) (cut w k (drop (53 + suc i * w) bs))) ≡ how_many bl
      same = ap (λ (y : List ℕ). how_many (map (block_of r) (cut w k y))) (sym (next i))

      one : how_many bl + more_of m l ≡ how_many (cond (eqb (get_or x 0 0) 0) empty (holds (chunk_of r x)) ∷ bl) + m
      one = one_more m (chunk_of r x) bl l ∙ ap (λ (z : ℕ). how_many (cond (eqb z 0) empty (holds (chunk_of r x)) ∷ bl) + m) (sym (level_byte w bs i pos))

      go : (sweep_from r w bs k (suc i) (more_of m l) ≡ Ok n → n ≡ how_many (map (block_of r) (cut w k (drop (53 + suc i * w) bs))) + more_of m l) → (t : Bool) →
          cond t (sweep_from r w bs k (suc i) (more_of m l)) (Err m) ≡ Ok n → n ≡ how_many (cond (eqb (get_or x 0 0) 0) empty (holds (chunk_of r x)) ∷ bl) + m
      go ih true h = ih h ∙ ap (λ (z : ℕ). z + more_of m l) same ∙ one
      go ih false h = absurd (false≢true (ap is_ok h))

  -- each block is clean
  clean_from : (k i m n : ℕ) → sweep_from r w bs k i m ≡ Ok n → (j : ℕ) → j < k → block_clean r w bs (i + j) ≡ true
  unfolding sweep_from
  clean_from zero i m n e j h = absurd (omega arith)
  clean_from (suc k) i m n e j h = go (clean_from k (suc i) (more_of m (get_or bs (53 + i * w) 0)) n) (block_clean r w bs i) refl e j h
    where
      go : (sweep_from r w bs k (suc i) (more_of m (get_or bs (53 + i * w) 0)) ≡ Ok n → (j : ℕ) → j < k → block_clean r w bs (suc i + j) ≡ true) → (t : Bool) → block_clean r w bs i ≡ t →
          cond t (sweep_from r w bs k (suc i) (more_of m (get_or bs (53 + i * w) 0))) (Err m) ≡ Ok n → (j : ℕ) → j < suc k → block_clean r w bs (i + j) ≡ true
      go ih true q e zero h = rw (add-zero i) q
      go ih true q e (suc j) h =
          let z : suc i + j ≡ i + suc j = omega arith in
          subst (λ (n : ℕ). block_clean r w bs n ≡ true) z (ih e j (omega arith))
      go ih false q e j h = absurd (false≢true (ap is_ok e))

long_is : (s : Sizes) → block_long s ≡ 8 + row s * s.nodes
unfolding block_long
long_is s = refl

long_some : (s : Sizes) → 0 < block_long s
long_some s = omega (arith, long_is s)

-- THE PASS counts the full blocks
pub swept_count : (s : Sizes) (bs : List ℕ) (n : ℕ) → swept s bs ≡ Ok n → n ≡ how_many (blocks_in s bs)
unfolding swept blocks_in
swept_count s bs n e =
    let z : 53 + 0 * block_long s ≡ 53 = omega (arith, zero-mul (block_long s)) in
    count_from (row s) (block_long s) bs (long_some s) s.blocks 0 0 n e ∙ rw z (add-zero (how_many (map (block_of (row s)) (cut (block_long s) s.blocks (drop 53 bs)))))

pub swept_clean : (s : Sizes) (bs : List ℕ) (n : ℕ) → swept s bs ≡ Ok n → (i : ℕ) → i < s.blocks → block_clean (row s) (block_long s) bs i ≡ true
unfolding swept
swept_clean s bs n e i h =
    let z : 0 + i ≡ i = omega arith in
    subst (λ (k : ℕ). block_clean (row s) (block_long s) bs k ≡ true) z (clean_from (row s) (block_long s) bs (long_some s) s.blocks 0 0 n e i h)

-- ---- UNUSED BYTES are zero

zeros_are : (bs : List ℕ) (k a : ℕ) → a + k ≤ length bs → zeros_from bs k a ≡ true → take k (drop a bs) ≡ replicate k 0
unfolding zeros_from
zeros_are bs zero a h e = refl
zeros_are bs (suc k) a h e =
    let p = and_parts (eqb (get_or bs a 0) 0) (zeros_from bs k (suc a)) e in
    let z = eqb-true (get_or bs a 0) 0 p.0 in
    let r = zeros_are bs k (suc a) (omega arith) p.1 in
    rw (drop-cons bs a 0 (omega arith)) (λ i. z i ∷ r i)

zeros_make : (bs : List ℕ) (k a : ℕ) → a + k ≤ length bs → take k (drop a bs) ≡ replicate k 0 → zeros_from bs k a ≡ true
unfolding zeros_from
zeros_make bs zero a h e = refl
zeros_make bs (suc k) a h e =
    let f : get_or bs a 0 ∷ take k (drop (suc a) bs) ≡ 0 ∷ replicate k 0 = rw (drop-cons bs a 0 (omega arith)) at e in
    let z : get_or bs a 0 ≡ 0 = cc in
    rw (eq-eqb (get_or bs a 0) 0 z) (zeros_make bs k (suc a) (omega arith) cc)

-- a block: its bytes are clean where the pass says so, and the other way
module _ (s : Sizes) (bs : List ℕ) (i : ℕ) (long : length bs ≡ 53 + s.blocks * block_long s) (h : i < s.blocks) where
  abbrev w : ℕ
  w = block_long s

  abbrev a : ℕ
  a = 53 + i * w

  abbrev n : ℕ
  n = get_or bs (a + 1) 0

  abbrev x : List ℕ
  x = take w (drop a bs)

  level_is : get_or x 0 0 ≡ get_or bs a 0
  level_is = level_byte w bs i (long_some s)

  count_is : get_or x 1 0 ≡ n
  count_is = get_d_part w a bs 1 (omega (arith, long_is s))

  room : a + w ≤ length bs
  room = omega (arith, long, block_end i s.blocks w h)

  -- the bytes behind m nodes
  behind : (m : ℕ) → m ≤ s.nodes → drop (8 + row s * m) x ≡ take (w - (8 + row s * m)) (drop (a + (8 + row s * m)) bs)
  behind m few =
      let u : ℕ = 8 + row s * m in
      let f : w ≡ u + (w - u) = omega (arith, long_is s, rows_room (row s) m s.nodes few) in
      ap (λ (k : ℕ). drop u (take k (drop a bs))) f ∙ drop_take u (w - u) (drop a bs) ∙ ap (take (w - u)) (drop-drop u a bs)

  behind_long : (m : ℕ) → row s * (s.nodes - m) ≡ w - (8 + row s * m)
  behind_long m = omega (arith, long_is s, rows_left (row s) m s.nodes)

  pub clean_block : block_clean (row s) w bs i ≡ true → (0 < get_or (block_in w bs i) 0 0 → (0 < get_or (block_in w bs i) 1 0) × (get_or (block_in w bs i) 1 0 ≤ s.nodes)) → Clean s (block_in w bs i)
  unfolding block_clean unused used_of block_in
  clean_block e few = go (eqb (get_or bs a 0) 0) refl e
    where
      go : (t : Bool) → eqb (get_or bs a 0) 0 ≡ t → zeros_from bs (w - cond t 0 (8 + row s * n)) (a + cond t 0 (8 + row s * n)) ≡ true → Clean s x
      go true q z =
          let k : w - 0 ≡ w = omega arith in
          zeros (level_is ∙ eqb-true (get_or bs a 0) 0 q) (zeros_are bs w a room (rw (k, add-zero a) at z))
      go false q z =
          let p : 0 < get_or x 0 0 = omega (arith, level_is, eqb-false (get_or bs a 0) 0 q) in
          let v = few p in
          let m : n ≤ s.nodes = omega (arith, count_is, v.1) in
          filled p v.0 v.1 (rw (count_is, behind n m, behind_long n) (zeros_are bs (w - (8 + row s * n)) (a + (8 + row s * n)) (omega (arith, room, long_is s, rows_room (row s) n s.nodes m)) z))

  pub block_cleaned : Clean s (block_in w bs i) → block_clean (row s) w bs i ≡ true
  unfolding block_clean unused used_of block_in
  block_cleaned c = go c
    where
      go : Clean s x → zeros_from bs (w - cond (eqb (get_or bs a 0) 0) 0 (8 + row s * n)) (a + cond (eqb (get_or bs a 0) 0) 0 (8 + row s * n)) ≡ true
      go (zeros e z) =
          let k : w - 0 ≡ w = omega arith in
          rw (eq-eqb (get_or bs a 0) 0 (sym level_is ∙ e), k, add-zero a) (zeros_make bs w a room z)
      go (filled p one few z) =
          let m : n ≤ s.nodes = omega (arith, count_is) in
          rw (ne_eqb (get_or bs a 0) 0 (λ q. omega (arith, q, level_is)))
          (zeros_make bs (w - (8 + row s * n)) (a + (8 + row s * n)) (omega (arith, room, long_is s, rows_room (row s) n s.nodes m)) (rw (count_is, behind n m, behind_long n) at z))

-- .. and where every block is clean the pass is
cleaned_from : (r w : ℕ) (bs : List ℕ) (k i m : ℕ) → ((j : ℕ) → j < k → block_clean r w bs (i + j) ≡ true) → (n : ℕ) × (sweep_from r w bs k i m ≡ Ok n)
unfolding sweep_from
cleaned_from r w bs zero i m h = (m, refl)
cleaned_from r w bs (suc k) i m h =
    let e : block_clean r w bs i ≡ true = rw (add-zero i) at (h 0 (omega arith)) in
    let v = cleaned_from r w bs k (suc i) (more_of m (get_or bs (53 + i * w) 0)) (λ j g. next j (h (suc j) (omega arith))) in
    (v.0, rw e v.1)
  where
    next : (j : ℕ) → block_clean r w bs (i + suc j) ≡ true → block_clean r w bs (suc i + j) ≡ true
    next j e =
        let z : i + suc j ≡ suc i + j = omega arith in
        subst (λ (n : ℕ). block_clean r w bs n ≡ true) z e

pub cleaned : (s : Sizes) (bs : List ℕ) → ((i : ℕ) → i < s.blocks → block_clean (row s) (block_long s) bs i ≡ true) → (n : ℕ) × (swept s bs ≡ Ok n)
unfolding swept
cleaned s bs h = cleaned_from (row s) (block_long s) bs s.blocks 0 0 (λ j g. subst (λ (n : ℕ). block_clean (row s) (block_long s) bs n ≡ true) (sym (zero-add j)) (h j g))
