-- One level of a cancel: at the key's level the key goes out of a partition, below it the partition that it starts joins the one before.
use mathlib.Core.Path.{◌≡◌, refl, sym, ap, ◌∙◌}
use mathlib.Core.List.{List, [], ◌∷◌, ◌++◌, map, map-append, append-nil}
use Prim.Native.Nat.{ℕ, zero, suc, ◌+◌, ◌≤◌, ◌<◌}
use native.Mathlib.Nat.{add-suc}
use native.Mathlib.Omega.{arith}
use lib.ListN.{length, length-append, length-map}
use Rattle.sizes.specs.Sizes.{beta, row}
use Rattle.sizes.specs.Hash.{level}
use Rattle.sizes.specs.Header.{header}
use Rattle.sizes.specs.declared.Sizes.{Sizes}
use Rattle.placement.specs.declared.Order.{Order}
use Rattle.skiplist.specs.Lists.{masked, first_key}
use Rattle.skiplist.proofs.Laws.Parts.{Up, part, below}
use Rattle.skiplist.proofs.Laws.Descent.{tail_above}
use Rattle.skiplist.proofs.Laws.Count.{pieces, count_same, count_high}
use Rattle.skiplist.proofs.Laws.Edits.{level_most, head_part, tail_part, head_part_long, part_at, part_in, part_left, part_right, part_other}
use Rattle.levels.specs.declared.Spot.{Spot}
use Rattle.levels.specs.Edit.{Pieces, Scans, CancelsIn, CancelsBelow}
use Rattle.edits.specs.declared.changes.Change.TheVariants.{Cancel}
use Rattle.edits.specs.Change.{Setting, Between, Turn}
use Rattle.table.proofs.Laws.MaskedKeys.{head_most, tail_most, up_masked}
use Rattle.edits.proofs.Laws.WayLevels.{pred_suc}
use Rattle.edits.proofs.Laws.Changed.{one_changed, two_changed}
use Rattle.levels.proofs.Laws.Levels.{fine_masked}
use Rattle.levels.proofs.Laws.Chunking.{pieces_none}
use Rattle.edits.proofs.Laws.Settings.{all_up, less_up, behind_up, key_pos, order_fine, some_nodes, few_orders, first_low, less_none, part_beside}
use Rattle.edits.proofs.Laws.WaySpots.{length_more, there, seen, room, next_first}

module _ (s : Sizes) (xs : List Order) (o : Order) (zs : List Order) (w : Setting s xs o zs) (j : ℕ) (low : suc j ≤ beta s) where
  few : length (head_part s (suc j) xs) + suc (length (tail_part s (suc j) zs)) ≤ 65536
  few = omega (arith, head_most s (suc j) xs, tail_most s (suc j) zs, few_orders s xs o zs w)

  behind : Up (suc o.key) (tail_part s (suc j) zs)
  behind = tail_above s (suc j) (suc o.key) zs (behind_up s xs o zs w)

  module _ (bs : List ℕ) (b : Between s (xs ++ o ∷ zs) (xs ++ zs) (suc j) bs) where
    -- a partition with its nodes
    nodes : (f : ℕ) (ns : List Order) → part s (xs ++ o ∷ zs) (suc j) f ≡ ns → Pieces b.map s.nodes (suc j) f 0 (map (masked (suc j)) ns)
    nodes = there s xs o zs w j low (xs ++ o ∷ zs) (xs ++ zs) (all_up s xs o zs w) bs b

    module _ (x : Spot) (sc : Scans s bs (suc j) (first_key (head_part s (suc j) xs)) o.key x) where
      -- at the key's level
      pub cancel_inside : (bs' : List ℕ) → level s o.key ≡ suc j → CancelsIn s (suc j) (first_key (head_part s (suc j) xs)) x bs bs' →
          (x.last ≡ first_key (head_part s j xs)) × Between s (xs ++ o ∷ zs) (xs ++ zs) j bs'
      unfolding CancelsIn
      cancel_inside bs' h p =
          let ps = head_part s (suc j) xs in
          let qs = tail_part s (suc j) zs in
          let e = part_in s (suc j) xs o zs (all_up s xs o zs w) h in
          let v = seen s xs o zs w j low (xs ++ o ∷ zs) (xs ++ zs) (all_up s xs o zs w) bs b x (o ∷ qs) e (omega arith, behind) sc in
          let c = p b.map b.full (header s (length (xs ++ o ∷ zs))) (map (masked (suc j)) ps) (masked (suc j) o) (map (masked (suc j)) qs) b.table
          (room s xs o zs w j low x (o ∷ qs) v (masked (suc j) o) (fine_masked (row s) (suc j) o (order_fine s xs o zs w)) few)
          (rw map-append at (nodes (first_key ps) (ps ++ o ∷ qs) e)) (rw (length-map ps (masked (suc j))) (head_part_long s (suc j) xs)) in (
            next_first s xs o zs w j low x (o ∷ qs) v,
            one_changed s (xs ++ o ∷ zs) (xs ++ zs) (some_nodes s xs o zs w) (all_up s xs o zs w) (less_up s xs o zs w) j low bs b bs' (first_key ps) (ps ++ o ∷ qs) (ps ++ qs)
                (rw (map-append (masked (suc j)) ps qs, map-append (masked (suc j)) ps (o ∷ qs)) c)
                (part_at s (suc j) xs zs (less_up s xs o zs w)) (λ g n. part_beside s xs o zs w (suc j) g h n)
                (rw (length-append ps qs, length-append ps (o ∷ qs), add-suc (length ps) (length qs)) (sym (count_same s (suc j) xs o zs (key_pos s xs o zs w) h))),
          )

      -- below it
      own_size : (y : Spot) → suc j < level s o.key → Scans s bs (suc j) o.key o.key y → y.size ≡ suc (length (tail_part s (suc j) zs))
      unfolding Scans below
      own_size y h own =
          let qs = tail_part s (suc j) zs in
          ap (λ (z : Spot). z.size)
          (own b.map b.full (header s (length (xs ++ o ∷ zs))) [] (map (masked (suc j)) (o ∷ qs)) b.table (omega arith)
          (nodes o.key (o ∷ qs) (part_right s (suc j) xs o zs (all_up s xs o zs w) h)) refl (up_masked (suc j) o.key (o ∷ qs) (omega arith, behind)))
          ∙ length-map (o ∷ qs) (masked (suc j))

      pub cancel_under : (y : Spot) (bs' : List ℕ) → suc j < level s o.key → Scans s bs (suc j) o.key o.key y →
          CancelsBelow s (suc j) (first_key (head_part s (suc j) xs)) o.key x.below y.size bs bs' →
          (x.last ≡ first_key (head_part s j xs)) × Between s (xs ++ o ∷ zs) (xs ++ zs) j bs'
      unfolding CancelsBelow
      cancel_under y bs' h own p =
          let ps = head_part s (suc j) xs in
          let qs = tail_part s (suc j) zs in
          let e = part_left s (suc j) xs o zs (all_up s xs o zs w) h in
          let v = seen s xs o zs w j low (xs ++ o ∷ zs) (xs ++ zs) (all_up s xs o zs w) bs b x [] (e ∙ sym (append-nil ps)) tt sc in
          let n : length (map (masked (suc j)) ps ++ masked (suc j) o ∷ map (masked (suc j)) qs) ≤ 65536 = rw (length_more (suc j) ps o qs) (omega (arith, few)) in
          let c = p b.map b.full (header s (length (xs ++ o ∷ zs))) (map (masked (suc j)) ps) (masked (suc j) o) (map (masked (suc j)) qs) b.table (omega arith)
          (omega (arith, first_low s xs o zs w (suc j), (order_fine s xs o zs w).key)) (λ z. omega (arith, first_low s xs o zs w (suc j))) n
          (v.below ∙ sym (length-map ps (masked (suc j)))) (own_size y h own ∙ ap suc (sym (length-map qs (masked (suc j)))))
          (rw (length-map ps (masked (suc j))) (head_part_long s (suc j) xs)) (nodes (first_key ps) ps e)
          (nodes o.key (o ∷ qs) (part_right s (suc j) xs o zs (all_up s xs o zs w) h)) in (
            next_first s xs o zs w j low x [] v,
            two_changed s (xs ++ o ∷ zs) (xs ++ zs) (some_nodes s xs o zs w) (all_up s xs o zs w) (less_up s xs o zs w) j low bs b bs' (first_key ps) o.key
                (pieces s.nodes (length (map (masked (suc j)) ps)) + pieces s.nodes (suc (length (map (masked (suc j)) qs)))) (ps ++ qs) []
                (rw (map-append (masked (suc j)) ps qs) c)
                (part_at s (suc j) xs zs (less_up s xs o zs w)) (less_none s xs o zs w (suc j)) (λ g n m. part_other s (suc j) xs o zs (all_up s xs o zs w) g n m)
                (rw (length-append ps qs, length-map ps (masked (suc j)), length-map qs (masked (suc j))) (omega (arith, count_high s (suc j) xs o zs (key_pos s xs o zs w) h, pieces_none s.nodes))),
          )

-- THE TURN, as `change_level` has it
module _ (s : Sizes) (l f y : ℕ) (bs : List ℕ) (x : Spot) where
  pub cancel_turn_in : (k : ℕ) (bs' : List ℕ) → Scans s bs k f y x → k ≡ l → CancelsIn s k f x bs bs' → Turn s k l f (Cancel y) bs bs' x.last
  unfolding Turn
  cancel_turn_in zero bs' sc h p xs o zs w ye e pos le fe b = absurd (omega arith)
  cancel_turn_in (suc j) bs' sc h p xs o zs w ye e pos le fe b =
      rw (pred_suc j) (cancel_inside s xs o zs w j (omega (arith, e, le, level_most s o.key)) bs b x (rw (fe, ← ye) at sc) bs' (omega (arith, e, h)) (rw fe at p))

  pub cancel_turn_below : (k : ℕ) (v : Spot) (bs' : List ℕ) → Scans s bs k f y x → (k ≡ l → ⊥) → Scans s bs k y y v → CancelsBelow s k f y x.below v.size bs bs' → Turn s k l f (Cancel y) bs bs' x.last
  unfolding Turn
  cancel_turn_below zero v bs' sc h own p xs o zs w ye e pos le fe b = absurd (omega arith)
  cancel_turn_below (suc j) v bs' sc h own p xs o zs w ye e pos le fe b =
      rw (pred_suc j) (cancel_under s xs o zs w j (omega (arith, e, le, level_most s o.key)) bs b x (rw (fe, ← ye) at sc) v bs' (omega (arith, e, le, h)) (rw (← ye) at own) (rw (fe, ← ye) at p))
