-- One level of an enter: at the key's level the key comes into a partition, below it the key starts one.
use mathlib.Core.Path.{◌≡◌, sym}
use mathlib.Core.List.{List, [], ◌∷◌, ◌++◌, map, map-append}
use Prim.Native.Nat.{ℕ, zero, suc, ◌+◌, ◌≤◌, ◌<◌}
use native.Mathlib.Nat.{add-suc}
use native.Mathlib.Omega.{arith}
use lib.ListN.{length, length-append, length-map}
use Rattle.sizes.specs.Sizes.{beta}
use Rattle.sizes.specs.Hash.{level}
use Rattle.sizes.specs.Header.{header}
use Rattle.sizes.specs.declared.Sizes.{Sizes}
use Rattle.placement.specs.declared.Order.{Order}
use Rattle.skiplist.specs.Lists.{masked, first_key}
use Rattle.skiplist.proofs.Laws.Parts.{up_from, part}
use Rattle.skiplist.proofs.Laws.Descent.{tail_above}
use Rattle.skiplist.proofs.Laws.Count.{count, count_same, count_high, counts_more}
use Rattle.skiplist.proofs.Laws.Edits.{level_most, head_part, tail_part, head_part_long, part_at, part_in, part_left, part_right, part_other}
use Rattle.levels.specs.declared.Spot.{Spot}
use Rattle.levels.specs.Edit.{Pieces, Scans, EntersIn, EntersBelow}
use Rattle.edits.specs.declared.changes.Change.TheVariants.{Enter}
use Rattle.edits.specs.Change.{Setting, Between, Turn}
use Rattle.table.proofs.Laws.MaskedKeys.{head_most, tail_most}
use Rattle.edits.proofs.Laws.WayLevels.{pred_suc, counts_one}
use Rattle.edits.proofs.Laws.Changed.{one_changed, two_changed}
use Rattle.edits.proofs.Laws.Settings.{all_up, less_up, behind_up, key_pos, order_fine, some_nodes, few_orders, room_all, first_low, less_none, part_beside}
use Rattle.edits.proofs.Laws.WaySpots.{length_both, Spotted, there, seen, room, next_first}

module _ (s : Sizes) (xs : List Order) (o : Order) (zs : List Order) (w : Setting s xs o zs) (j : ℕ) (low : suc j ≤ beta s) where
  few : length (head_part s (suc j) xs) + length (tail_part s (suc j) zs) ≤ 65536
  few = omega (arith, head_most s (suc j) xs, tail_most s (suc j) zs, few_orders s xs o zs w)

  module _ (bs : List ℕ) (b : Between s (xs ++ zs) (xs ++ o ∷ zs) (suc j) bs) where
    -- a partition with its nodes
    nodes : (f : ℕ) (ns : List Order) → part s (xs ++ zs) (suc j) f ≡ ns → Pieces b.map s.nodes (suc j) f 0 (map (masked (suc j)) ns)
    nodes = there s xs o zs w j low (xs ++ zs) (xs ++ o ∷ zs) (less_up s xs o zs w) bs b

    -- there are blocks for what the level has more
    spare : b.full + count s (suc j) (xs ++ o ∷ zs) ≤ s.blocks + count s (suc j) (xs ++ zs)
    spare =
        omega (
          arith,
          b.count,
          counts_one j s (xs ++ zs),
          counts_one j s (xs ++ o ∷ zs),
          counts_more j 1 s xs o zs (key_pos s xs o zs w) (some_nodes s xs o zs w),
          room_all s xs o zs w,
        )

    module _ (x : Spot) (sc : Scans s bs (suc j) (first_key (head_part s (suc j) xs)) o.key x) where
      spot : Spotted x (head_part s (suc j) xs) (tail_part s (suc j) zs)
      spot =
          seen s xs o zs w j low (xs ++ zs) (xs ++ o ∷ zs) (less_up s xs o zs w) bs b x (tail_part s (suc j) zs) (part_at s (suc j) xs zs (less_up s xs o zs w))
          (tail_above s (suc j) o.key zs (up_from zs (omega arith) (behind_up s xs o zs w))) sc

      -- at the key's level
      pub enter_inside : (bs' : List ℕ) → level s o.key ≡ suc j → EntersIn s (suc j) (first_key (head_part s (suc j) xs)) x o bs bs' →
          (x.last ≡ first_key (head_part s j xs)) × Between s (xs ++ zs) (xs ++ o ∷ zs) j bs'
      unfolding EntersIn
      enter_inside bs' h p =
          let ps = head_part s (suc j) xs in
          let qs = tail_part s (suc j) zs in
          let same = count_same s (suc j) xs o zs (key_pos s xs o zs w) h in
          let c = p b.map b.full (header s (length (xs ++ zs))) (map (masked (suc j)) ps) (map (masked (suc j)) qs) b.table
          (room s xs o zs w j low x qs spot o (order_fine s xs o zs w) few)
          (rw map-append at (nodes (first_key ps) (ps ++ qs) (part_at s (suc j) xs zs (less_up s xs o zs w))))
          (rw (length_both (suc j) ps qs) (omega (arith, spare))) in (
            next_first s xs o zs w j low x qs spot,
            one_changed s (xs ++ zs) (xs ++ o ∷ zs) (some_nodes s xs o zs w) (less_up s xs o zs w) (all_up s xs o zs w) j low bs b bs' (first_key ps) (ps ++ qs) (ps ++ o ∷ qs)
                (rw (map-append (masked (suc j)) ps qs, map-append (masked (suc j)) ps (o ∷ qs)) c)
                (part_in s (suc j) xs o zs (all_up s xs o zs w) h) (λ g n. sym (part_beside s xs o zs w (suc j) g h n))
                (rw (length-append ps qs, length-append ps (o ∷ qs), add-suc (length ps) (length qs)) same),
          )

      -- below it
      pub enter_under : (bs' : List ℕ) → suc j < level s o.key → EntersBelow s (suc j) (first_key (head_part s (suc j) xs)) x o bs bs' →
          (x.last ≡ first_key (head_part s j xs)) × Between s (xs ++ zs) (xs ++ o ∷ zs) j bs'
      unfolding EntersBelow
      enter_under bs' h p =
          let ps = head_part s (suc j) xs in
          let qs = tail_part s (suc j) zs in
          let more = count_high s (suc j) xs o zs (key_pos s xs o zs w) h in
          let c = p b.map b.full (header s (length (xs ++ zs))) (map (masked (suc j)) ps) (map (masked (suc j)) qs) b.table
          (room s xs o zs w j low x qs spot o (order_fine s xs o zs w) few)
          (rw map-append at (nodes (first_key ps) (ps ++ qs) (part_at s (suc j) xs zs (less_up s xs o zs w))))
          (λ z. omega (arith, first_low s xs o zs w (suc j))) (nodes o.key [] (less_none s xs o zs w (suc j)))
          (rw (length-map ps (masked (suc j))) (head_part_long s (suc j) xs))
          (rw (length_both (suc j) ps qs, length-map ps (masked (suc j)), length-map qs (masked (suc j))) (omega (arith, spare))) in (
            next_first s xs o zs w j low x qs spot,
            two_changed s (xs ++ zs) (xs ++ o ∷ zs) (some_nodes s xs o zs w) (less_up s xs o zs w) (all_up s xs o zs w) j low bs b bs' (first_key ps) o.key _ ps (o ∷ qs) c
                (part_left s (suc j) xs o zs (all_up s xs o zs w) h) (part_right s (suc j) xs o zs (all_up s xs o zs w) h)
                (λ g n m. sym (part_other s (suc j) xs o zs (all_up s xs o zs w) g n m)) (rw (length_both (suc j) ps qs) more),
          )

-- THE TURN, as `change_level` has it
module _ (s : Sizes) (l f : ℕ) (o : Order) (bs : List ℕ) (x : Spot) where
  pub enter_turn_in : (k : ℕ) (bs' : List ℕ) → Scans s bs k f o.key x → k ≡ l → EntersIn s k f x o bs bs' → Turn s k l f (Enter o) bs bs' x.last
  unfolding Turn
  enter_turn_in zero bs' sc h p xs y zs w co e pos le fe b = absurd (omega arith)
  enter_turn_in (suc j) bs' sc h p xs y zs w co e pos le fe b =
      rw (pred_suc j) (enter_inside s xs y zs w j (omega (arith, e, le, level_most s y.key)) bs b x (rw (fe, ← co) at sc) bs' (omega (arith, e, h)) (rw (fe, ← co) at p))

  pub enter_turn_below : (k : ℕ) (bs' : List ℕ) → Scans s bs k f o.key x → (k ≡ l → ⊥) → EntersBelow s k f x o bs bs' → Turn s k l f (Enter o) bs bs' x.last
  unfolding Turn
  enter_turn_below zero bs' sc h p xs y zs w co e pos le fe b = absurd (omega arith)
  enter_turn_below (suc j) bs' sc h p xs y zs w co e pos le fe b =
      rw (pred_suc j) (enter_under s xs y zs w j (omega (arith, e, le, level_most s y.key)) bs b x (rw (fe, ← co) at sc) bs' (omega (arith, e, le, h)) (rw (fe, ← co) at p))
