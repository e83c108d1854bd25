-- What an order among others tells: keys rise, numbers are small; and how the partitions of a level change by it.
use mathlib.Core.Path.{◌≡◌, sym, ◌∙◌}
use mathlib.Core.Bool.{true}
use mathlib.Core.List.{List, [], ◌∷◌, ◌++◌}
use Prim.Native.Nat.{ℕ, suc, ◌+◌, ◌≤◌, ◌<◌}
use native.Mathlib.Omega.{arith}
use borrow.Author.Tests.{ne_eqb, eq-eqb, le-ltb}
use lib.ListN.{length, length-append}
use Rattle.sizes.specs.Sizes.{row}
use Rattle.sizes.specs.Hash.{level}
use Rattle.placement.specs.Maps.{Fine}
use Rattle.sizes.specs.declared.Sizes.{Sizes}
use Rattle.placement.specs.declared.Order.{Order}
use Rattle.sizes.proofs.Laws.Sizes.{limits}
use Rattle.skiplist.specs.Lists.{first_key, chunks}
use Rattle.skiplist.specs.Image.{image, orders_good, fits}
use Rattle.skiplist.proofs.Laws.Parts.{Up, up_past, good_up, up_out, up_front, below, below_here, part, without_here}
use Rattle.skiplist.proofs.Laws.Shapes.{held_absent, up_behind, part_none}
use Rattle.skiplist.proofs.Laws.Kept.{good_without, fits_parts, fits_fewer}
use Rattle.skiplist.proofs.Laws.Sound.{fine_good}
use Rattle.skiplist.proofs.Laws.Third.{good_at}
use Rattle.skiplist.proofs.Laws.Edits.{head_part, part_with, with_part}
use Rattle.levels.specs.Edit.{Way}
use Rattle.edits.specs.Change.{Setting}
use Rattle.table.proofs.Laws.MaskedKeys.{head_first_below}

module _ (s : Sizes) (xs : List Order) (o : Order) (zs : List Order) (w : Setting s xs o zs) where
  pub all_up : Up 1 (xs ++ o ∷ zs)
  all_up = good_up s 1 (xs ++ o ∷ zs) w.good

  pub less_up : Up 1 (xs ++ zs)
  less_up = up_out xs o zs 1 all_up

  pub front_up : Up 1 xs
  front_up = up_front xs zs 1 less_up

  pub front_below : below o.key xs ≡ true
  front_below = below_here xs o zs 1 all_up

  pub behind_up : Up (suc o.key) zs
  behind_up = up_behind xs o zs 1 all_up

  pub key_pos : 0 < o.key
  key_pos = up_past xs o zs 1 all_up

  pub order_fine : Fine (row s) o
  order_fine = let g = good_at s xs o zs 1 w.good in fine_good s o g.key g.quantity

  pub some_nodes : 0 < s.nodes
  some_nodes = (limits s w.sizes).nodes_some

  pub few_orders : length xs + length zs < 65535
  few_orders = omega (arith, (limits s w.sizes).orders_most, rw length-append at (fits_parts s (xs ++ o ∷ zs) w.fit).few)

  pub room_all : length (chunks s (xs ++ o ∷ zs)) ≤ s.blocks
  room_all = (fits_parts s (xs ++ o ∷ zs) w.fit).room

  pub less_good : orders_good s 1 (xs ++ zs) ≡ true
  less_good = rw (without_here xs o zs 1 all_up) at (good_without s 1 o.key (xs ++ o ∷ zs) w.good)

  pub less_fit : fits s (xs ++ zs) ≡ true
  less_fit = fits_fewer s xs o zs some_nodes key_pos w.fit

  -- the way down to the order in an image
  pub held_way : (bs : List ℕ) (k : ℕ) → bs ≡ image s (xs ++ o ∷ zs) → o.key ≡ k → Way s bs k xs (o ∷ zs)
  held_way bs k i e =
      rw (← e) (record { good = w.sizes; orders = w.good; fit = w.fit; is = i; low = front_below; high = (omega arith, behind_up); pos = key_pos })

  pub first_low : (k : ℕ) → first_key (head_part s k xs) < o.key
  first_low k = head_first_below s k o.key xs key_pos front_below

  -- the key heads nothing where it is not held
  pub less_none : (k : ℕ) → part s (xs ++ zs) k o.key ≡ []
  less_none k = part_none s (xs ++ zs) k o.key less_up key_pos (held_absent o.key xs zs front_below behind_up)

  -- at the key's own level only the partition that it comes into changes
  pub part_beside : (k g : ℕ) → level s o.key ≡ k → (first_key (head_part s k xs) ≡ g → ⊥) → part s (xs ++ o ∷ zs) k g ≡ part s (xs ++ zs) k g
  unfolding with_part
  part_beside k g e n = part_with s k xs o zs all_up g ∙ rw (le-ltb k (level s o.key) (omega arith), eq-eqb k (level s o.key) (sym e), ne_eqb (first_key (head_part s k xs)) g n)
