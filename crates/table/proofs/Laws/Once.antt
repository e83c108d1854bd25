-- Chunks that all stand, in as many full blocks as there are chunks: each stands once.
use mathlib.Core.Path.{◌≡◌, refl, sym, ap, ◌∙◌}
use mathlib.Core.Bool.{Bool, true, false}
use mathlib.Core.List.{List}
use mathlib.Core.Logic.{◌⊎◌, inl, inr}
use Prim.Native.Nat.{ℕ, zero, ◌<◌}
use native.Mathlib.Nat.{mod-eq_of_lt}
use native.Mathlib.Omega.{arith}
use borrow.Author.Tests.{eqb-true, eqb-false}
use lib.Dec.{eqb}
use lib.ListN.{length}
use Rattle.placement.specs.Blocks.{Among, Block, empty, holds, around, stored, Stands, how_many}
use Rattle.placement.specs.Chunks.{Chunk}
use Rattle.placement.proofs.Laws.Blocks.{stored_long, stored_elsewhere}
use Rattle.placement.proofs.Laws.Store.{before_store}
use Rattle.placement.proofs.Laws.Placed.{Rising, store_count}
use Rattle.skiplist.proofs.Laws.Rising.{lower_chunk}
use Rattle.skiplist.proofs.Laws.Rules.{fewer}

module _ (m : ℕ) (some : zero < m) where
  pub once : (cs : List Chunk) (bs : List (Block Chunk)) → length bs ≡ m → Rising lower_chunk cs → ((c : Chunk) → Among c cs → Stands m bs c) → how_many bs ≡ length cs →
      (c : Chunk) (i j : ℕ) → i < m → j < m → around m bs i ≡ holds c → around m bs j ≡ holds c → i ≡ j
  once cs bs p u all n c i j hi hj ei ej = go (eqb i j) refl
    where
      less : List (Block Chunk)
      less = stored m bs j empty

      go : (t : Bool) → eqb i j ≡ t → i ≡ j
      go true e = eqb-true i j e
      go false e =
          absurd (omega (arith, fewer m some cs less (stored_long m bs j empty p) u (λ d a. other d (before_store m bs j p some empty d (all d a))), store_count m bs j (holds c) empty p some ej, n))
        where
          still : around m less i ≡ holds c
          still = stored_elsewhere m bs j i empty (λ q. eqb-false i j e (sym (mod-eq_of_lt hi) ∙ q ∙ mod-eq_of_lt hj)) ∙ ei

          other : (d : Chunk) → (around m bs j ≡ holds d) ⊎ Stands m less d → Stands m less d
          other d (inl q) = let z : c ≡ d = cc in record { at = i; is = still ∙ ap holds z }
          other d (inr w) = w
