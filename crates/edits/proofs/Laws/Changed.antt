-- A level of a table on its way is done once its changed partitions are those of the new orders.
use mathlib.Core.Path.{◌≡◌, refl, sym, ◌∙◌}
use mathlib.Core.Bool.{Bool, true, false}
use mathlib.Core.List.{List, map}
use Prim.Native.Nat.{ℕ, suc, ◌+◌, ◌≤◌, ◌<◌}
use native.Mathlib.Omega.{arith}
use borrow.Author.Tests.{eqb-true, eqb-false}
use lib.Dec.{eqb}
use lib.ListN.{length, length-map}
use Rattle.sizes.specs.Sizes.{beta}
use Rattle.sizes.specs.Header.{header}
use Rattle.placement.specs.Maps.{map_of}
use Rattle.sizes.specs.declared.Sizes.{Sizes}
use Rattle.placement.specs.declared.Order.{Order}
use Rattle.skiplist.specs.Lists.{masked, chunks}
use Rattle.skiplist.proofs.Laws.Parts.{Up, part}
use Rattle.skiplist.proofs.Laws.Count.{pieces, count}
use Rattle.levels.specs.Edit.{Elsewhere, ElsewhereBoth, ComesIn, Splits}
use Rattle.edits.specs.Change.{Between}
use Rattle.edits.proofs.Laws.WayLevels.{from_pieces, same_part, level_done}

module _ (s : Sizes) (old new : List Order) (nodes : 0 < s.nodes) (u : Up 1 old) (v : Up 1 new) (j : ℕ) (low : suc j ≤ beta s) (bs : List ℕ) (b : Between s old new (suc j) bs) (bs' : List ℕ) where
  -- one partition
  pub one_changed : (f : ℕ) (ps qs : List Order) → ComesIn s b.map b.full (header s (length old)) bs' (suc j) f (map (masked (suc j)) ps) (map (masked (suc j)) qs) →
      part s new (suc j) f ≡ qs → ((g : ℕ) → (f ≡ g → ⊥) → part s old (suc j) g ≡ part s new (suc j) g) →
      count s (suc j) new + pieces s.nodes (length ps) ≡ count s (suc j) old + pieces s.nodes (length qs) → Between s old new j bs'
  unfolding Elsewhere
  one_changed f ps qs c e h n =
      level_done s old new j bs b c.map c.full bs' c.table (λ l g i q. c.elsewhere l g i (λ z a. q z)) (λ g i. go g i (eqb f g) refl)
      (omega (arith, n, rw (length-map ps (masked (suc j)), length-map qs (masked (suc j))) at c.count))
    where
      go : (g i : ℕ) (t : Bool) → eqb f g ≡ t → c.map (suc j) g i ≡ map_of (chunks s new) (suc j) g i
      go g i true z = rw (← eqb-true f g z) (from_pieces s new nodes v (suc j) (omega arith) low c.map f qs e c.there i)
      go g i false z =
          c.elsewhere (suc j) g i (λ a y. eqb-false f g z (sym y)) ∙ b.upto (suc j) g i (omega arith) ∙ same_part s old new nodes u v (suc j) g (omega arith) low (h g (eqb-false f g z)) i

  -- two of them
  pub two_changed : (f f' n : ℕ) (ps qs : List Order) → Splits s b.map b.full (header s (length old)) bs' (suc j) f f' (map (masked (suc j)) ps) (map (masked (suc j)) qs) n →
      part s new (suc j) f ≡ ps → part s new (suc j) f' ≡ qs → ((g : ℕ) → (f ≡ g → ⊥) → (f' ≡ g → ⊥) → part s old (suc j) g ≡ part s new (suc j) g) →
      count s (suc j) new + n ≡ count s (suc j) old + pieces s.nodes (length ps) + pieces s.nodes (length qs) → Between s old new j bs'
  unfolding ElsewhereBoth
  two_changed f f' n ps qs c e d h m =
      level_done s old new j bs b c.map c.full bs' c.table (λ l g i q. c.elsewhere l g i (λ z a. q z) (λ z a. q z)) (λ g i. go g i (eqb f g) refl (eqb f' g) refl)
      (omega (arith, m, rw (length-map ps (masked (suc j)), length-map qs (masked (suc j))) at c.count))
    where
      go : (g i : ℕ) (t : Bool) → eqb f g ≡ t → (r : Bool) → eqb f' g ≡ r → c.map (suc j) g i ≡ map_of (chunks s new) (suc j) g i
      go g i true z r y = rw (← eqb-true f g z) (from_pieces s new nodes v (suc j) (omega arith) low c.map f ps e c.left_there i)
      go g i false z true y = rw (← eqb-true f' g y) (from_pieces s new nodes v (suc j) (omega arith) low c.map f' qs d c.right_there i)
      go g i false z false y =
          c.elsewhere (suc j) g i (λ a q. eqb-false f g z (sym q)) (λ a q. eqb-false f' g y (sym q))
          ∙ b.upto (suc j) g i (omega arith)
          ∙ same_part s old new nodes u v (suc j) g (omega arith) low (h g (eqb-false f g z) (eqb-false f' g y)) i
