-- The node of a held key of level 1: the way down to the key ends at it, at the head of a partition of its own or behind the nodes below it; with its
-- quantities and price replaced there, the table is the image of the orders with these.
use Rattle.std.proofs.Common.{Option, Some}
use Rattle.std.specs.Option.{IsSomeAnd}
use mathlib.Core.Path.{◌≡◌, refl, sym, ap, ◌∙◌, subst}
use mathlib.Core.Bool.{Bool, true, false}
use mathlib.Core.List.{List, [], ◌∷◌, ◌++◌, append_assoc}
use Prim.Native.Nat.{ℕ, suc, ◌-◌, ◌≤◌, ◌<◌}
use native.Mathlib.Omega.{arith}
use borrow.Author.Tests.{eqb-true, eqb-false, lt-ltb}
use lib.Dec.{eqb}
use lib.ListN.{length, length-append}
use lib.Seq.{sets}
use Rattle.sizes.specs.Sizes.{beta, row}
use Rattle.sizes.specs.Hash.{level}
use Rattle.sizes.specs.declared.Sizes.{Sizes}
use Rattle.placement.specs.Chunks.{node_bytes}
use Rattle.placement.specs.declared.Order.{Order}
use Rattle.sizes.proofs.Laws.Round.{Which, which, less, same, more}
use Rattle.sizes.proofs.Laws.Sizes.{limits}
use Rattle.skiplist.specs.Lists.{first_key}
use Rattle.skiplist.specs.Image.{image}
use Rattle.skiplist.proofs.Laws.Parts.{below, up_front, part}
use Rattle.skiplist.proofs.Laws.Nodes.{below_more}
use Rattle.skiplist.proofs.Laws.Descent.{below_both, start_top, head_high, head_low}
use Rattle.skiplist.proofs.Laws.Edits.{beta_least, level_least, head_part, tail_part, head_part_first, part_in, part_left, part_right, part_other}
use Rattle.table.proofs.Laws.MaskedKeys.{head_most, tail_most}
use Rattle.levels.specs.Edit.{Way}
use Rattle.levels.specs.Ways.{Trek, trek, starting, down_in, way_down}
use Rattle.levels.proofs.Laws.Leading.{Seated}
use Rattle.levels.proofs.Laws.Arriving.{arrives}
use Rattle.levels.proofs.Laws.Changing.{replace_at}
use Rattle.edits.specs.Change.{Setting}
use Rattle.edits.proofs.Laws.Settings.{all_up, front_below, behind_up, key_pos, few_orders, part_beside}
use Rattle.edits.proofs.Laws.Swaps.{swapped}

module _ (s : Sizes) (xs : List Order) (y o : Order) (zs : List Order) (e : y.key ≡ o.key) (w : Setting s xs y zs) (v : Setting s xs o zs) (bs : List ℕ)
    (i : bs ≡ image s (xs ++ y ∷ zs)) (place : ℕ) (at : (way_down s bs (beta s) 0 o.key).at ≡ Some place) where
  -- WHERE IT STANDS: it is the last of the orders not above its key
  cut : Way s bs (suc o.key) (xs ++ y ∷ []) zs
  unfolding below
  cut =
      let a : (xs ++ y ∷ []) ++ zs ≡ xs ++ y ∷ zs = append_assoc xs (y ∷ []) zs in
      record {
        good = w.sizes;
        orders = rw a w.good;
        fit = rw a w.fit;
        is = rw a i;
        low = below_both (suc o.key) xs (y ∷ []) (below_more y.key (suc o.key) xs (omega (arith, e)) (front_below s xs y zs w)) (rw (lt-ltb y.key (suc o.key) (omega (arith, e))));
        high = rw e at (behind_up s xs y zs w);
        pos = omega arith;
      }

  seat : Seated s bs 1 (first_key (head_part s 1 (xs ++ y ∷ []))) (length (head_part s 1 (xs ++ y ∷ [])) - 1) place
  unfolding way_down
  seat =
      let up = up_front (xs ++ y ∷ []) zs 1 (rw (append_assoc xs (y ∷ []) zs) (all_up s xs y zs w)) in
      let a = arrives s bs o.key (xs ++ y ∷ []) zs cut (beta s) (omega arith) starting (sym (start_top s (xs ++ y ∷ []) up)) (0 ∷ []) in
      let top : beta s - 0 ≡ beta s = omega arith in
      let is : Some place ≡ a.trail.at = sym at ∙ ap (λ (n : ℕ). (down_in s bs 0 o.key n (trek starting (0 ∷ []))).trail.at) top ∙ ap (λ (x : Trek). x.trail.at) a.is in
      subst (λ (p : Option ℕ). IsSomeAnd p (Seated s bs 1 (first_key (head_part s 1 (xs ++ y ∷ []))) (length (head_part s 1 (xs ++ y ∷ [])) - 1))) (sym is) (a.ended (omega (arith, beta_least s))).seat

  two : 2 ≤ s.nodes
  two = (limits s w.sizes).nodes_least

  -- AT THE HEAD of its own partition
  high_done : 1 < level s o.key → sets bs place (node_bytes (row s) o) ≡ image s (xs ++ o ∷ zs)
  unfolding first_key
  high_done h =
      swapped s xs y o zs e w v o.key 0 [] (tail_part s 1 zs) bs (sets bs place (node_bytes (row s) o)) (replace_at s o.key 0 o bs two place there) i refl
      (omega (arith, tail_most s 1 zs, few_orders s xs o zs v))
      (subst (λ (g : ℕ). part s (xs ++ y ∷ zs) 1 g ≡ y ∷ tail_part s 1 zs) e (part_right s 1 xs y zs (all_up s xs y zs w) up_y))
      (part_right s 1 xs o zs (all_up s xs o zs v) h) (λ g n. go g n (eqb (first_key (head_part s 1 xs)) g) refl)
    where
      up_y : 1 < level s y.key
      up_y = rw e h

      there : Seated s bs 1 o.key 0 place
      there = rw (head_high s xs y up_y, e) at seat

      go : (g : ℕ) → (o.key ≡ g → ⊥) → (t : Bool) → eqb (first_key (head_part s 1 xs)) g ≡ t → part s (xs ++ y ∷ zs) 1 g ≡ part s (xs ++ o ∷ zs) 1 g
      go g n true z = rw (← eqb-true (first_key (head_part s 1 xs)) g z) (part_left s 1 xs y zs (all_up s xs y zs w) up_y ∙ sym (part_left s 1 xs o zs (all_up s xs o zs v) h))
      go g n false z =
          part_other s 1 xs y zs (all_up s xs y zs w) g (eqb-false (first_key (head_part s 1 xs)) g z) (λ q. n (sym e ∙ q))
          ∙ sym (part_other s 1 xs o zs (all_up s xs o zs v) g (eqb-false (first_key (head_part s 1 xs)) g z) n)

  -- BEHIND the nodes below it
  low_done : level s o.key ≡ 1 → sets bs place (node_bytes (row s) o) ≡ image s (xs ++ o ∷ zs)
  low_done h =
      swapped s xs y o zs e w v (first_key (head_part s 1 xs)) (length (head_part s 1 xs)) (head_part s 1 xs) (tail_part s 1 zs) bs (sets bs place (node_bytes (row s) o))
      (replace_at s (first_key (head_part s 1 xs)) (length (head_part s 1 xs)) o bs two place there) i refl
      (simp length-append (omega (arith, head_most s 1 xs, tail_most s 1 zs, few_orders s xs o zs v)))
      (part_in s 1 xs y zs (all_up s xs y zs w) at_y) (part_in s 1 xs o zs (all_up s xs o zs v) h)
      (λ g n. part_beside s xs y zs w 1 g at_y n ∙ sym (part_beside s xs o zs v 1 g h n))
    where
      at_y : level s y.key ≡ 1
      at_y = ap (level s) e ∙ h

      there : Seated s bs 1 (first_key (head_part s 1 xs)) (length (head_part s 1 xs)) place
      there =
          let n : length (head_part s 1 xs ++ y ∷ []) - 1 ≡ length (head_part s 1 xs) = omega (arith, length-append (head_part s 1 xs) (y ∷ [])) in
          rw (n, head_part_first s 1 xs (y ∷ [])) at (rw (head_low s xs y (key_pos s xs y zs w) at_y) at seat)

  pub held_done : sets bs place (node_bytes (row s) o) ≡ image s (xs ++ o ∷ zs)
  held_done = go (which 1 (level s o.key))
    where
      go : Which 1 (level s o.key) → sets bs place (node_bytes (row s) o) ≡ image s (xs ++ o ∷ zs)
      go (less h) = high_done h
      go (same h) = low_done (sym h)
      go (more h) = absurd (omega (arith, h, level_least s o.key))
