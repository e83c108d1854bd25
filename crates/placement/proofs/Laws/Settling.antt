-- The insertion by the code, on a list of blocks, is the insertion of the theory.
use Rattle.std.proofs.Common.{◌≡◌, ℕ, zero, suc, ◌+◌, ◌%◌, ◌<◌, Bool, true, false, cond, ◌≢◌, List, length, get_or, set, sym, refl, ap, ◌∙◌, true≢false, add-zero, arith, length-set, get_or-set_other, get_or-set_same, set-set, eq-eqb, ne_eqb, Some}
use native.Mathlib.Decide.{ℕ_discrete}
use lib.Seq.{set_comm}
use Rattle.placement.specs.Blocks.{Block, empty, holds, around, stored, is_free}
use Rattle.sizes.specs.declared.Sizes.{Sizes}
use Rattle.placement.specs.Labels.{before}
use Rattle.placement.specs.Chunks.{Chunk, chunk_before}
use Rattle.placement.specs.Place.{settle, free_in}
use Rattle.placement.specs.declared.Label.{Label}
use Rattle.placement.proofs.Laws.Blocks.{stored_there, stored_elsewhere}
use Rattle.placement.proofs.Laws.Insertion.{insert_from, Carry, carry_on, carry_swap}
use Rattle.placement.proofs.Laws.Labels.{labels_strict, labels_chain}
use Rattle.placement.proofs.Laws.Kinds.{ordered}
use Rattle.placement.proofs.Laws.Maps.{lawful}
use Rattle.placement.proofs.Laws.Bridge.{places}

module _ (s : Sizes) (some : 0 < s.blocks) where
  -- c is carried, k steps before the empty block e
  pub record Ahead (k i e : ℕ) (bs : List (Block Chunk)) : Type 0 where
    pub long : length bs ≡ s.blocks
    pub there : (i + k) % s.blocks ≡ e
    pub free : get_or bs e empty ≡ empty
    pub full : (l : ℕ) → l < k → is_free (around s.blocks bs (i + l)) ≡ false

  abbrev pub Carried : (fuel i : ℕ) → Chunk → List (Block Chunk) → Type 0
  Carried = Carry (ordered (lawful s some))

  module _ (e : ℕ) (inside : e < s.blocks) where
    ahead_on : (k i : ℕ) (bs : List (Block Chunk)) → Ahead (suc k) i e bs → Ahead k (suc i) e bs
    ahead_on k i bs a = record {
      long = a.long;
      there = ap (λ (n : ℕ). n % s.blocks) (omega arith) ∙ a.there;
      free = a.free;
      full = λ l w. ap (λ (n : ℕ). is_free (around s.blocks bs n)) (omega arith) ∙ a.full (suc l) (omega arith);
    }

    -- a chunk stored in another block leaves it so
    ahead_stored : (k j i : ℕ) (bs : List (Block Chunk)) (c : Chunk) → i % s.blocks ≢ e → Ahead k j e bs → Ahead k j e (stored s.blocks bs i (holds c))
    unfolding stored
    ahead_stored k j i bs c ne a = record {
      long = length-set bs (i % s.blocks) (holds c) ∙ a.long;
      there = a.there;
      free = get_or-set_other bs (i % s.blocks) e (holds c) empty (λ u. ne (sym u)) ∙ a.free;
      full = λ l w. full l w (ℕ_discrete ((j + l) % s.blocks) (i % s.blocks));
    }
      where
        full : (l : ℕ) → l < k → Dec ((j + l) % s.blocks ≡ i % s.blocks) → is_free (around s.blocks (stored s.blocks bs i (holds c)) (j + l)) ≡ false
        full l w (yes u) = rw (stored_there s.blocks bs i (j + l) (holds c) some a.long u)
        full l w (no u) = rw (stored_elsewhere s.blocks bs i (j + l) (holds c) u) (a.full l w)

    not_both : (c d : Chunk) → (chunk_before s) d c ≡ true → (chunk_before s) c d ≡ false
    not_both c d h = go ((chunk_before s) c d) refl
      where
        go : (b : Bool) → (chunk_before s) c d ≡ b → (chunk_before s) c d ≡ false
        go false z = z
        go true z = absurd (true≢false (sym (labels_chain s c.label d.label c.label z h) ∙ labels_strict s c.label))

    -- the code keeps the carried chunk in the empty block
    pub settle_theory : (k f i : ℕ) (c : Chunk) (bs : List (Block Chunk)) → Carried f i c bs → Ahead k i e bs
        → settle places (before s) s.blocks k e i (set bs e (holds c)) ≡ insert_from (chunk_before s) f i s.blocks c bs
    unfolding settle insert_from around stored
    settle_theory k zero i c bs y a = absurd (omega (arith, y.near.few))
    settle_theory zero (suc f) i c bs y a =
        let at : i % s.blocks ≡ e = rw add-zero at a.there in
        rw (at, a.free)
    settle_theory (suc k) (suc f) i c bs y a =
        go (around s.blocks bs i) refl (rw add-zero at (a.full 0 (omega arith))) (λ u. settle_theory k f (suc i) c bs u (ahead_on k i bs a))
        (λ d u n. settle_theory k f (suc i) d (stored s.blocks bs i (holds c)) u (ahead_stored k (suc i) i bs c n (ahead_on k i bs a)))
      where
        go : (b : Block Chunk) → around s.blocks bs i ≡ b → is_free b ≡ false
            → (Carried f (suc i) c bs → settle places (before s) s.blocks k e (suc i) (set bs e (holds c)) ≡ insert_from (chunk_before s) f (suc i) s.blocks c bs)
            → ((d : Chunk) → Carried f (suc i) d (stored s.blocks bs i (holds c)) → i % s.blocks ≢ e
            → settle places (before s) s.blocks k e (suc i) (set (stored s.blocks bs i (holds c)) e (holds d)) ≡ insert_from (chunk_before s) f (suc i) s.blocks d (stored s.blocks bs i (holds c)))
            → settle places (before s) s.blocks (suc k) e i (set bs e (holds c)) ≡ insert_from (chunk_before s) (suc f) i s.blocks c bs
        go empty z h on swap = absurd (true≢false h)
        go (holds d) z h on swap = rw (own, other) (by ((chunk_before s) d c) refl)
          where
            ne : i % s.blocks ≢ e
            ne q = true≢false (cc (a.free, z))

            own : get_or (set bs e (holds c)) e empty ≡ holds c
            own = get_or-set_same bs e (holds c) empty (omega (arith, a.long))

            other : get_or (set bs e (holds c)) (i % s.blocks) empty ≡ holds d
            other = get_or-set_other bs e (i % s.blocks) (holds c) empty ne ∙ z

            swapped : set (set (set bs e (holds c)) (i % s.blocks) (holds c)) e (holds d) ≡ set (set bs (i % s.blocks) (holds c)) e (holds d)
            swapped = rw (set_comm bs e (i % s.blocks) (holds c) (holds c) (λ u. ne (sym u)), set-set (set bs (i % s.blocks) (holds c)) e (holds c) (holds d))

            by : (b : Bool) → (chunk_before s) d c ≡ b
                → settle places (before s) s.blocks k e (suc i)
                (cond ((chunk_before s) c d) (set (set (set bs e (holds c)) (i % s.blocks) (holds c)) e (holds d)) (set bs e (holds c)))
                ≡ insert_from (chunk_before s) (suc f) i s.blocks c bs
            by true h = rw (not_both c d h, z, h) (on (carry_on (ordered (lawful s some)) y d z h))
            by false h =
                rw (y.other d (record { at = i; is = z }) h, z, h, swapped) (swap d (carry_swap (ordered (lawful s some)) y d z h) ne)

-- the code finds the first empty block, k steps on
pub free_first : (look : ℕ → Label) (m fuel i k : ℕ) → k < fuel → (look ((i + k) % m)).level ≡ 0
    → ((l : ℕ) → l < k → (look ((i + l) % m)).level ≢ 0) → free_in look m fuel i ≡ Some ((i + k) % m)
unfolding free_in
free_first look m zero i k w z full = absurd (omega arith)
free_first look m (suc f) i zero w z full = rw (add-zero, eq-eqb _ _ (rw add-zero at z))
free_first look m (suc f) i (suc k) w z full =
    let on : (l : ℕ) → i + suc l ≡ suc i + l = λ l. omega arith in
    rw (ne_eqb _ _ (rw add-zero at (full 0 (omega arith))), on k)
    (free_first look m f (suc i) k (omega arith) (rw (on k) at z) (λ l h. rw (on l) at (full (suc l) (omega arith))))
