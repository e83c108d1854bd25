-- The removal by the code, on a list of blocks, is the removal of the theory.
use Rattle.std.proofs.Common.{◌≡◌, ℕ, zero, suc, ◌+◌, ◌-◌, ◌%◌, ◌<◌, ◌≤◌, Bool, true, false, cond, not, ◌&&◌, eqb, leb, List, get_or, set, sym, refl, ap, ◌∙◌, add-zero, mod-lt, mod-eq_of_lt, arith, set-set, ne_eqb, le-leb}
use native.Mathlib.Nat.{mod-add-mod, add-mod_right}
use borrow.Author.Tests.{lt-leb}
use Rattle.placement.specs.Blocks.{Block, empty, holds, around, stored}
use Rattle.sizes.specs.declared.Sizes.{Sizes}
use Rattle.placement.specs.Labels.{home}
use Rattle.placement.specs.Chunks.{Chunk, chunk_home}
use Rattle.placement.specs.Place.{pull, stays_at, distance_of}
use Rattle.sizes.proofs.Laws.Round.{Which, which, less, same, more, steps_to, steps_apart}
use Rattle.placement.proofs.Laws.Blocks.{stored_elsewhere}
use Rattle.placement.proofs.Laws.Insertion.{suc_mod_same}
use Rattle.placement.proofs.Laws.Removal.{pull_from, removed_at, distance_steps}
use Rattle.placement.proofs.Laws.Labels.{home_inside}
use Rattle.placement.proofs.Laws.Bridge.{Good, held, AllGood, places, good_at, good_set}

-- a chunk t steps past the hole e stays exactly where its way from home q does not cross the hole
module _ (m e t j q : ℕ) (he : e < m) (hq : q < m) (pos : 0 < t) (few : t < m) (there : (e + t) % m ≡ j) where
  inside : j < m
  inside = rw (← there) (mod-lt (e + t) (omega arith))

  from_home : (a k : ℕ) → (e + a) % m ≡ q → a + k ≡ t → (q + k) % m ≡ j
  from_home a k u w = rw (← u) (mod-add-mod (e + a) m k ∙ ap (λ (x : ℕ). x % m) (omega arith) ∙ there)

  round_home : (a k : ℕ) → (e + a) % m ≡ q → a + k ≡ t + m → (q + k) % m ≡ j
  round_home a k u w =
      rw (← u) (mod-add-mod (e + a) m k ∙ ap (λ (x : ℕ). x % m) (omega arith) ∙ add-mod_right (e + t) m ∙ there)

  pub stays_crosses : stays_at m e j q ≡ not (leb t (distance_of m q j))
  unfolding stays_at
  stays_crosses =
      let a = steps_to m e he q hq in
      rw (distance_steps m e q a.steps he hq a.few a.there, distance_steps m e j t he inside few there) (by a.steps a.few a.there (which a.steps t))
    where
      some : (a : ℕ) → a < m → (e + a) % m ≡ q → a ≤ t → (not (eqb a 0) && leb a t) ≡ not (leb t (distance_of m q j))
      some zero w u h = rw (distance_steps m q j t hq inside few (from_home 0 t u (omega arith)), le-leb t t (omega arith))
      some (suc a) w u h =
          rw (distance_steps m q j (t - suc a) hq inside (omega arith) (from_home (suc a) (t - suc a) u (omega arith)), ne_eqb (suc a) 0 (omega arith), le-leb (suc a) t h)
          (rw (lt-leb t (t - suc a) (omega arith)))

      by : (a : ℕ) → a < m → (e + a) % m ≡ q → Which a t → (not (eqb a 0) && leb a t) ≡ not (leb t (distance_of m q j))
      by a w u (less h) = some a w u (omega arith)
      by a w u (same h) = some a w u (omega arith)
      by a w u (more h) =
          rw (distance_steps m q j (t + m - a) hq inside (omega arith) (round_home a (t + m - a) u (omega arith)), ne_eqb a 0 (omega arith), lt-leb a t h)
          (rw (le-leb t (t + m - a) (omega arith)))

module _ (s : Sizes) (some : 0 < s.blocks) where
  past_hole : (h t i : ℕ) (x : List (Block Chunk)) → 0 < t → t < s.blocks → i % s.blocks ≡ (h + t) % s.blocks → around s.blocks (stored s.blocks x h empty) (h + t) ≡ get_or x (i % s.blocks) empty
  unfolding around
  past_hole h t i x pos few ei =
      stored_elsewhere s.blocks x h (h + t) empty
      (λ u. omega (arith, steps_apart s.blocks h t 0 few (omega arith) (u ∙ ap (λ (z : ℕ). z % s.blocks) (sym (add-zero h)))))
      ∙ ap (λ (z : ℕ). get_or x z empty) (sym ei)

  moved : (h t e : ℕ) (x : List (Block Chunk)) (b : Block Chunk) → e ≡ h % s.blocks
      → stored s.blocks (set x e b) (h + t) empty ≡ stored s.blocks (stored s.blocks (stored s.blocks x h empty) h b) (h + t) empty
  unfolding stored
  moved h t e x b ee = rw (ee, set-set x (h % s.blocks) empty b)

  test : (h t e i : ℕ) (d : Chunk) → e ≡ h % s.blocks → i % s.blocks ≡ (h + t) % s.blocks → 0 < t → t < s.blocks
      → stays_at s.blocks e (i % s.blocks) (chunk_home s d) ≡ not (leb t (distance_of s.blocks (chunk_home s d) ((h + t) % s.blocks)))
  test h t e i d ee ei pos few =
      rw (ei, ee)
      (stays_crosses s.blocks (h % s.blocks) t ((h + t) % s.blocks) (chunk_home s d) (mod-lt h some) (home_inside s some d.label) pos few (mod-add-mod h s.blocks t))

  cleared : (h e : ℕ) (x : List (Block Chunk)) → e ≡ h % s.blocks → set x e empty ≡ stored s.blocks x h empty
  unfolding stored
  cleared h e x ee = ap (λ (z : ℕ). set x z empty) ee

  -- the code keeps in the hole what it has moved, and the theory empties it
  pub pull_theory : (k h t e i : ℕ) (x : List (Block Chunk)) → AllGood s x → e ≡ h % s.blocks → i % s.blocks ≡ (h + t) % s.blocks → 0 < t → t + k ≤ s.blocks
      → pull places (home s) s.blocks k e i x ≡ pull_from (chunk_home s) k h t s.blocks (stored s.blocks x h empty)
  unfolding pull pull_from
  pull_theory zero h t e i x v ee ei pos few = cleared h e x ee
  pull_theory (suc k) h t e i x v ee ei pos few =
      go (get_or x (i % s.blocks) empty) refl (good_at s v (i % s.blocks))
      (pull_theory k h (suc t) e (suc i) x v ee (next (h + suc t) (omega arith)) (omega arith) (omega arith))
      (λ b g. pull_theory k (h + t) 1 (i % s.blocks) (suc i) (set x e b) (good_set s v e g) ei (next (h + t + 1) (omega arith)) (omega arith) (omega arith))
    where
      next : (j : ℕ) → suc (h + t) ≡ j → suc i % s.blocks ≡ j % s.blocks
      next j w = suc_mod_same s.blocks i (h + t) ei ∙ ap (λ (z : ℕ). z % s.blocks) w

      go : (b : Block Chunk) → get_or x (i % s.blocks) empty ≡ b → Good s b
          → pull places (home s) s.blocks k e (suc i) x ≡ pull_from (chunk_home s) k h (suc t) s.blocks (stored s.blocks x h empty)
          → ((b : Block Chunk) → Good s b → pull places (home s) s.blocks k (i % s.blocks) (suc i) (set x e b) ≡ pull_from (chunk_home s) k (h + t) 1 s.blocks (stored s.blocks (set x e b) (h + t) empty))
          → pull places (home s) s.blocks (suc k) e i x ≡ pull_from (chunk_home s) (suc k) h t s.blocks (stored s.blocks x h empty)
      go empty z g stay move = rw (z, past_hole h t i x pos (omega arith) ei ∙ z) (cleared h e x ee)
      go (holds d) z (held q) stay move =
          rw (z, past_hole h t i x pos (omega arith) ei ∙ z, ne_eqb d.label.level 0 (omega (arith, q.level)), test h t e i d ee ei pos (omega arith))
          (by (leb t (distance_of s.blocks (chunk_home s d) ((h + t) % s.blocks))))
        where
          by : (b : Bool) → pull places (home s) s.blocks k (cond (not b) e (i % s.blocks)) (suc i) (cond (not b) x (set x e (holds d)))
              ≡ cond b
              (pull_from (chunk_home s) k (h + t) 1 s.blocks (stored s.blocks (stored s.blocks (stored s.blocks x h empty) h (holds d)) (h + t) empty))
              (pull_from (chunk_home s) k h (suc t) s.blocks (stored s.blocks x h empty))
          by true = move (holds d) (held q) ∙ ap (λ (y : List (Block Chunk)). pull_from (chunk_home s) k (h + t) 1 s.blocks y) (moved h t e x (holds d) ee)
          by false = stay

  -- THE REMOVAL by the code from the block i
  pub pull_removed : (i : ℕ) (x : List (Block Chunk)) → AllGood s x → i < s.blocks → pull places (home s) s.blocks (s.blocks - 1) i (i + 1) x ≡ removed_at (chunk_home s) s.blocks i x
  unfolding removed_at
  pull_removed i x v h = pull_theory (s.blocks - 1) i 1 i (i + 1) x v (sym (mod-eq_of_lt h)) refl (omega arith) (omega arith)
