-- An amend: the quantities and the price of a node of level 1 change, and nothing else.
use mathlib.Core.Path.{◌≡◌, refl, sym, ap, ◌∙◌, subst}
use mathlib.Core.Bool.{Bool, true, false, cond}
use mathlib.Core.List.{List, ◌∷◌, ◌++◌, map, map-append}
use Prim.Native.Nat.{ℕ, ◌*◌, ◌≤◌, ◌<◌}
use native.Mathlib.Omega.{arith}
use borrow.Author.Tests.{ne_eqb}
use lib.Dec.{ltb, eqb}
use lib.ListN.{length, take, drop, length-append}
use Rattle.sizes.specs.Sizes.{beta}
use Rattle.sizes.specs.Hash.{level}
use Rattle.sizes.specs.Header.{header}
use Rattle.sizes.specs.declared.Sizes.{Sizes}
use Rattle.placement.specs.declared.Order.{Order}
use Rattle.skiplist.specs.Lists.{masked, first_key}
use Rattle.skiplist.specs.Image.{image}
use Rattle.skiplist.proofs.Laws.Parts.{Up, part}
use Rattle.skiplist.proofs.Laws.Masks.{masked_one}
use Rattle.skiplist.proofs.Laws.Keys.{count_swap}
use Rattle.skiplist.proofs.Laws.Edits.{beta_least, head_part, tail_part, part_with, with_part}
use Rattle.edits.specs.Change.{Setting, Between}
use Rattle.levels.proofs.Laws.Growing.{level_nodes, as_pieces}
use Rattle.levels.proofs.Laws.Changing.{Replaces}
use Rattle.edits.proofs.Laws.Changed.{one_changed}
use Rattle.edits.proofs.Laws.Settings.{all_up, key_pos, order_fine, some_nodes}
use Rattle.edits.proofs.Laws.Ways.{way_start, way_even}

module _ (s : Sizes) (xs : List Order) (y o : Order) (zs : List Order) (e : y.key ≡ o.key) where
  -- above level 1 the nodes have the key only
  masked_swap : (l : ℕ) → 1 < l → masked l y ≡ masked l o
  unfolding masked
  masked_swap l h = rw (ne_eqb l 1 (omega arith)) (λ i. record { key = e i; total = 0; displayed = 0; price = 0 })

  pub part_swap : (l g : ℕ) → 1 < l → Up 1 (xs ++ y ∷ zs) → Up 1 (xs ++ o ∷ zs) → map (masked l) (part s (xs ++ y ∷ zs) l g) ≡ map (masked l) (part s (xs ++ o ∷ zs) l g)
  unfolding with_part
  part_swap l g h u v =
      ap (map (masked l)) (part_with s l xs y zs u g)
      ∙ rw (ap (λ (z : ℕ). ltb l (level s z)) e, ap (λ (z : ℕ). eqb l (level s z)) e, ap (λ (z : ℕ). eqb z g) e)
      (at (ltb l (level s o.key)) (eqb l (level s o.key)) (eqb o.key g) (eqb (first_key (head_part s l xs)) g))
      ∙ sym (ap (map (masked l)) (part_with s l xs o zs v g))
    where
      at : (a b c d : Bool) →
          map (masked l)
          (cond a (cond c (y ∷ tail_part s l zs) (cond d (head_part s l xs) (part s (xs ++ zs) l g)))
          (cond b (cond d (head_part s l xs ++ y ∷ tail_part s l zs) (part s (xs ++ zs) l g)) (part s (xs ++ zs) l g)))
          ≡ map (masked l)
          (cond a (cond c (o ∷ tail_part s l zs) (cond d (head_part s l xs) (part s (xs ++ zs) l g)))
          (cond b (cond d (head_part s l xs ++ o ∷ tail_part s l zs) (part s (xs ++ zs) l g)) (part s (xs ++ zs) l g)))
      at true b true d = ap (λ (z : Order). z ∷ map (masked l) (tail_part s l zs)) (masked_swap l h)
      at true b false d = refl
      at false true c true =
          map-append (masked l) (head_part s l xs) (y ∷ tail_part s l zs)
          ∙ ap (λ (z : Order). map (masked l) (head_part s l xs) ++ z ∷ map (masked l) (tail_part s l zs)) (masked_swap l h)
          ∙ sym (map-append (masked l) (head_part s l xs) (o ∷ tail_part s l zs))
      at false true c false = refl
      at false false c d = refl

  module _ (w : Setting s xs y zs) (v : Setting s xs o zs) where
    -- nothing is to do above level 1
    swap_start : Between s (xs ++ y ∷ zs) (xs ++ o ∷ zs) 1 (image s (xs ++ y ∷ zs))
    swap_start =
        way_start s (xs ++ y ∷ zs) (xs ++ o ∷ zs) w.good v.good w.sizes w.fit 1 (omega (arith, beta_least s))
        (λ l f i q low.
        level_nodes s (xs ++ y ∷ zs) (some_nodes s xs y zs w) (all_up s xs y zs w) l (omega arith) low f i
        ∙ ap (λ (ns : List Order). take s.nodes (drop (i * s.nodes) ns)) (part_swap l f q (all_up s xs y zs w) (all_up s xs o zs v))
        ∙ sym (level_nodes s (xs ++ o ∷ zs) (some_nodes s xs o zs v) (all_up s xs o zs v) l (omega arith) low f i))
        (λ l q low. count_swap s xs y o zs e (key_pos s xs y zs w) l)

    -- the node stands between ps and qs in partition f of level 1
    pub swapped : (f m : ℕ) (ps qs : List Order) (bs bs' : List ℕ) → Replaces s f m o bs bs' → bs ≡ image s (xs ++ y ∷ zs) → m ≡ length ps → length (ps ++ y ∷ qs) ≤ 65536 →
        part s (xs ++ y ∷ zs) 1 f ≡ ps ++ y ∷ qs → part s (xs ++ o ∷ zs) 1 f ≡ ps ++ o ∷ qs →
        ((g : ℕ) → (f ≡ g → ⊥) → part s (xs ++ y ∷ zs) 1 g ≡ part s (xs ++ o ∷ zs) 1 g) → bs' ≡ image s (xs ++ o ∷ zs)
    unfolding Replaces
    swapped f m ps qs bs bs' r i n few a c h =
        let low : 1 ≤ beta s = omega (arith, beta_least s) in
        let t = subst (λ (x : List ℕ). Between s (xs ++ y ∷ zs) (xs ++ o ∷ zs) 1 x) (sym i) swap_start in
        let k = r t.map t.full (header s (length (xs ++ y ∷ zs))) ps y qs t.table (order_fine s xs o zs v) n
        (rw (masked_one (ps ++ y ∷ qs)) at
        (as_pieces s (xs ++ y ∷ zs) (some_nodes s xs y zs w) (all_up s xs y zs w) 1 (omega arith) low t.map f (ps ++ y ∷ qs) a (λ j. t.upto 1 f j (omega arith)))) in
        way_even s (xs ++ y ∷ zs) (xs ++ o ∷ zs) w.good v.good v.fit bs'
        (one_changed s (xs ++ y ∷ zs) (xs ++ o ∷ zs) (some_nodes s xs y zs w) (all_up s xs y zs w) (all_up s xs o zs v) 0 low bs t bs' f (ps ++ y ∷ qs) (ps ++ o ∷ qs)
        (rw (masked_one (ps ++ y ∷ qs), masked_one (ps ++ o ∷ qs)) k) c h
        (simp length-append (omega (arith, count_swap s xs y o zs e (key_pos s xs y zs w) 1))))
        (simp length-append)
