-- The way down to a key: orders cut behind it, the partitions that are open there, and the blocks where their chunks stand.
use Rattle.std.proofs.Common.{Some}
use mathlib.Core.Path.{◌≡◌, refl, sym, ap, ◌∙◌, subst}
use mathlib.Core.Bool.{true, true≢false}
use mathlib.Core.List.{List, [], ◌∷◌, ◌++◌}
use Prim.Native.Nat.{ℕ, zero, suc, ◌%◌, ◌<◌}
use native.Mathlib.Nat.{mod-eq_of_lt}
use native.Mathlib.Omega.{arith}
use borrow.Author.Tests.{ltb-true, le-leb, lt-leb}
use lib.Dec.{ltb}
use lib.ListN.{length, get_or}
use Rattle.sizes.specs.declared.Sizes.{Sizes}
use Rattle.placement.specs.Blocks.{Block, empty, holds, around}
use Rattle.placement.specs.Chunks.{Chunk}
use Rattle.placement.specs.Maps.{Map, Table, nodes_of, labelled}
use Rattle.placement.specs.Place.{search_in}
use Rattle.placement.specs.declared.Order.{Order}
use Rattle.placement.specs.declared.Label.{Label}
use Rattle.placement.proofs.Laws.Blocks.{around_inside}
use Rattle.placement.proofs.Laws.Labels.{LabelIs, is, isnt, label_is, is_same}
use Rattle.placement.proofs.Laws.Maps.{lawful}
use Rattle.placement.proofs.Laws.Kinds.{one_place}
use Rattle.placement.proofs.Laws.Tables.{found_there}
use Rattle.sizes.proofs.Laws.Sizes.{some_blocks}
use Rattle.skiplist.specs.Lists.{front, at_least, list_at, first_key, last_from, pieces}
use Rattle.skiplist.specs.Questions.{between}
use Rattle.skiplist.specs.Paths.{greatest, nodes_upto, labels_from, path_labels, stands_in}
use Rattle.skiplist.proofs.Laws.Parts.{Up, up_from, up_front, and_left, and_right, at_least_append, at_least_up, below, below_here}
use Rattle.skiplist.proofs.Laws.Edits.{head_part, tail_part, part_at}
use Rattle.skiplist.proofs.Laws.Descent.{first_opened, below_at_least, head_below, tail_above}
use Rattle.skiplist.proofs.Laws.Shapes.{Place, there, absent, place, up_behind}

-- THE CUT: what is not above y, and what is
pub data Cut (y : ℕ) (os : List Order) : Type 0 where
  cut : (xs zs : List Order) → os ≡ xs ++ zs → below (suc y) xs ≡ true → Up (suc y) zs → Cut y os

pub cut_at : (y : ℕ) (os : List Order) → Up 1 os → Cut y os
cut_at y os u = go (place (suc y) 1 os u)
  where
    go : Place (suc y) os → Cut y os
    go (there xs o zs q h) =
        let v : Up 1 (xs ++ o ∷ zs) = subst (Up 1) q u in
        cut xs (o ∷ zs) q (rw h at (below_here xs o zs 1 v)) (omega arith, up_behind xs o zs 1 v)
    go (absent xs zs q f g) = cut xs zs q f (up_from zs (omega arith) g)

pub by_cut : (P : List Order → Type 0) (y : ℕ) (os : List Order) → Up 1 os → ((xs zs : List Order) → Up 1 (xs ++ zs) → below (suc y) xs ≡ true → Up (suc y) zs → P (xs ++ zs)) → P os
by_cut P y os u h = go (cut_at y os u)
  where
    go : Cut y os → P os
    go (cut xs zs q f g) = subst P (sym q) (h xs zs (subst (Up 1) q u) f g)

pub between_cut : (y : ℕ) (xs zs : List Order) → below (suc y) xs ≡ true → Up (suc y) zs → between 0 y (xs ++ zs) ≡ xs
unfolding between below
between_cut y [] [] e u = refl
between_cut y [] (z ∷ zs) e u = rw (le-leb 0 z.key (omega arith), lt-leb z.key y u.0) (between_cut y [] zs refl (up_from zs (omega (arith, u.0)) u.1))
between_cut y (x ∷ xs) zs e u =
    rw (
      le-leb 0 x.key (omega arith),
      le-leb x.key y (omega (arith, ltb-true x.key (suc y) (and_left (ltb x.key (suc y)) (below (suc y) xs) e))),
      between_cut y xs zs (and_right (ltb x.key (suc y)) (below (suc y) xs) e) u,
    )

-- THE WAY DOWN, where the orders are cut: at each level the partition that is open there
module _ (s : Sizes) (y : ℕ) (xs zs : List Order) (u : Up 1 (xs ++ zs)) (f : below (suc y) xs ≡ true) (g : Up (suc y) zs) where
  pub greatest_is : (k : ℕ) → greatest s (xs ++ zs) y (suc k) ≡ first_key (head_part s k xs)
  unfolding greatest list_at front last_from head_part first_key between
  greatest_is k =
      rw (at_least_append s (suc k) xs zs, le-leb 0 y (omega arith), between_cut y (at_least s (suc k) xs) (at_least s (suc k) zs) (below_at_least s (suc k) (suc y) xs f) (at_least_up s (suc k) (suc y) zs g))
      (sym (first_opened s k (front ∷ []) xs (omega arith) (up_front xs zs 1 u)))

  pub upto_is : (k : ℕ) → nodes_upto s (xs ++ zs) y k ≡ head_part s k xs
  unfolding nodes_upto
  upto_is k =
      rw (greatest_is k, part_at s k xs zs u)
      (between_cut y (head_part s k xs) (tail_part s k zs) (head_below s k (suc y) xs (omega arith) f) (tail_above s k (suc y) zs g))

  pub path_step : (k : ℕ) →
      path_labels s (xs ++ zs) y (suc k)
      ≡ labels_from (pieces s.nodes (length (head_part s (suc k) xs))) (suc k) (first_key (head_part s (suc k) xs)) 0 ++ path_labels s (xs ++ zs) y k
  unfolding path_labels
  path_step k = rw (upto_is (suc k), greatest_is (suc k))

-- THE BLOCK of a chunk: the only one that has its label
pub stands_at : (bl : List (Block Chunk)) (w : Label) (i : ℕ) (c : Chunk) → get_or bl i empty ≡ holds c → c.label ≡ w →
    ((j : ℕ) (d : Chunk) → get_or bl j empty ≡ holds d → d.label ≡ w → j ≡ i) → stands_in bl w ≡ i
unfolding stands_in
stands_at [] w i c e p only = absurd (true≢false cc)
stands_at (empty ∷ bl) w zero c e p only = absurd (true≢false cc)
stands_at (empty ∷ bl) w (suc i) c e p only = ap suc (stands_at bl w i c e p (λ j d h q. omega (arith, only (suc j) d h q)))
stands_at (holds b ∷ bl) w zero c e p only = rw (is_same b.label w (cc))
stands_at (holds b ∷ bl) w (suc i) c e p only = go (label_is b.label w) (stands_at bl w i c e p (λ j d h q. omega (arith, only (suc j) d h q)))
  where
    go : LabelIs b.label w → stands_in bl w ≡ i → stands_in (holds b ∷ bl) w ≡ suc i
    go (is z q) ih = absurd (omega (arith, only 0 b refl q))
    go (isnt z n) ih = rw z (ap suc ih)

pub inside : (bl : List (Block Chunk)) (j : ℕ) (c : Chunk) → get_or bl j empty ≡ holds c → j < length bl
inside [] j c e = absurd (true≢false cc)
inside (b ∷ bl) zero c e = omega arith
inside (b ∷ bl) (suc j) c e = omega (arith, inside bl j c e)

module _ (s : Sizes) (F : Map) (n : ℕ) (hd bs : List ℕ) (t : Table s F n hd bs) where
  -- by rule 3 no other block has the label
  pub stands_there : (c : Chunk) (i : ℕ) → around s.blocks t.blocks i ≡ holds c → stands_in t.blocks c.label ≡ i % s.blocks
  unfolding around
  stands_there c i e = stands_at t.blocks c.label (i % s.blocks) c e refl (λ j d g q. only j d q g (omega (arith, inside t.blocks j d g, t.keeps.long)))
    where
      only : (j : ℕ) (d : Chunk) → d.label ≡ c.label → get_or t.blocks j empty ≡ holds d → j < s.blocks → j ≡ i % s.blocks
      only j d q g l =
          sym (mod-eq_of_lt l)
          ∙ one_place (lawful s (some_blocks s t.good)) t.blocks t.keeps.rule_3 c d i j e (around_inside s.blocks t.blocks j l ∙ g) (sym q)

  pub found_stands : (w : Label) (i : ℕ) → 0 < w.level → search_in s bs w ≡ Some i → stands_in t.blocks w ≡ i
  found_stands w i pos e = let f = found_there s F n hd bs t w i pos e in stands_there (labelled w (nodes_of F w)) i f.1 ∙ mod-eq_of_lt f.0
