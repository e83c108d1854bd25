-- The map of an image, level by level; and one level of a table on its way.
use mathlib.Core.Path.{◌≡◌, refl, sym, ap, ◌∙◌}
use mathlib.Core.Bool.{Bool, true, false}
use mathlib.Core.List.{List, map}
use Prim.Native.Nat.{ℕ, zero, suc, ◌+◌, ◌*◌, ◌-◌, ◌≤◌, ◌<◌}
use native.Mathlib.Nat.{zero-add, add-zero, add-suc}
use native.Mathlib.Omega.{arith}
use borrow.Author.Tests.{eqb-true, eqb-false}
use lib.Dec.{eqb}
use lib.ListN.{length, take, drop}
use Rattle.sizes.specs.Sizes.{beta}
use Rattle.sizes.specs.Header.{header}
use Rattle.placement.specs.Maps.{Map, map_of, Table}
use Rattle.sizes.specs.declared.Sizes.{Sizes}
use Rattle.placement.specs.declared.Order.{Order}
use Rattle.skiplist.specs.Lists.{masked, chunks}
use Rattle.skiplist.proofs.Laws.Parts.{Up, part}
use Rattle.skiplist.proofs.Laws.Count.{count, counts}
use Rattle.levels.specs.Edit.{Pieces}
use Rattle.levels.proofs.Laws.Growing.{level_nodes}
use Rattle.table.proofs.Laws.Counted.{counts_snoc}
use Rattle.edits.specs.Change.{Between}

module _ (s : Sizes) (os : List Order) (b : 0 < s.nodes) (u : Up 1 os) (k : ℕ) (pos : 0 < k) (low : k ≤ beta s) where
  pub from_pieces : (F : Map) (f : ℕ) (ns : List Order) → part s os k f ≡ ns → Pieces F s.nodes k f 0 (map (masked k) ns) → (i : ℕ) → F k f i ≡ map_of (chunks s os) k f i
  unfolding Pieces
  from_pieces F f ns e h i =
      rw (zero-add i) at (h i) ∙ ap (λ (z : List Order). take s.nodes (drop (i * s.nodes) (map (masked k) z))) (sym e) ∙ sym (level_nodes s os b u k pos low f i)

-- two sets of orders that have the same partition there
pub same_part : (s : Sizes) (os qs : List Order) → 0 < s.nodes → Up 1 os → Up 1 qs → (k f : ℕ) → 0 < k → k ≤ beta s → part s os k f ≡ part s qs k f →
    (i : ℕ) → map_of (chunks s os) k f i ≡ map_of (chunks s qs) k f i
same_part s os qs b u v k f pos low e i =
    level_nodes s os b u k pos low f i
    ∙ ap (λ (z : List Order). take s.nodes (drop (i * s.nodes) (map (masked k) z))) e
    ∙ sym (level_nodes s qs b v k pos low f i)

pub pred_suc : (j : ℕ) → suc j - 1 ≡ j
pred_suc j = omega arith

pub counts_one : (k : ℕ) (s : Sizes) (os : List Order) → counts (suc k) 1 s os ≡ counts k 1 s os + count s (suc k) os
counts_one k s os =
    let e : 1 + k ≡ suc k = omega arith in
    rw e at (counts_snoc k 1 s os)

-- .. and where the levels above k are the same
pub counts_kept : (s : Sizes) (old new : List Order) (k n : ℕ) → ((l : ℕ) → k < l → l ≤ k + n → count s l old ≡ count s l new)
    → counts (k + n) 1 s old + counts k 1 s new ≡ counts (k + n) 1 s new + counts k 1 s old
counts_kept s old new k zero h = rw (add-zero k) (omega arith)
counts_kept s old new k (suc n) h =
    rw (add-suc k n)
    (omega (arith, counts_one (k + n) s old, counts_one (k + n) s new, counts_kept s old new k n (λ l a b. h l a (omega arith)), h (suc (k + n)) (omega arith) (omega arith)))

-- ONE LEVEL DONE: the map changed there only, and is there that of the new orders
module _ (s : Sizes) (old new : List Order) (j : ℕ) (bs : List ℕ) (b : Between s old new (suc j) bs) where
  pub level_done : (G : Map) (n : ℕ) (bs' : List ℕ) → Table s G n (header s (length old)) bs' → ((l g i : ℕ) → (l ≡ suc j → ⊥) → G l g i ≡ b.map l g i) →
      ((g i : ℕ) → G (suc j) g i ≡ map_of (chunks s new) (suc j) g i) → n + count s (suc j) old ≡ b.full + count s (suc j) new → Between s old new j bs'
  level_done G n bs' t e h c = record {
    map = G;
    full = n;
    table = t;
    above = λ l f i q. go l f i q (eqb l (suc j)) refl;
    upto = λ l f i q. e l f i (λ z. omega arith) ∙ b.upto l f i (omega arith);
    count = omega (arith, b.count, counts_one j s old, counts_one j s new);
  }
    where
      go : (l f i : ℕ) → j < l → (t : Bool) → eqb l (suc j) ≡ t → G l f i ≡ map_of (chunks s new) l f i
      go l f i q true z = rw (eqb-true l (suc j) z) (h f i)
      go l f i q false z = e l f i (eqb-false l (suc j) z) ∙ b.above l f i (omega (arith, eqb-false l (suc j) z))
