-- The chunks of no orders: the front alone at each level.
use Rattle.std.proofs.Common.{Option}
use mathlib.Core.Path.{◌≡◌, refl, ap, ◌∙◌, subst}
use mathlib.Core.Logic.{◌≢◌}
use mathlib.Core.Bool.{Bool, true, false, ◌&&◌, cond, true≢false}
use mathlib.Core.List.{List, [], ◌∷◌}
use Prim.Native.Nat.{ℕ, zero, suc, ◌+◌, ◌*◌, ◌≤◌, ◌<◌}
use native.Mathlib.Omega.{arith}
use lib.Dec.{leb, eqb}
use borrow.Author.Tests.{leb-true, leb-false, eqb-true, eqb-false, le-leb, lt-leb}
use lib.ListN.{length, take, drop, replicate}
use Rattle.sizes.specs.Numbers.{big, rows}
use Rattle.sizes.specs.Sizes.{row}
use Rattle.sizes.specs.Header.{block_long}
use Rattle.placement.specs.Chunks.{node_bytes, nodes_bytes}
use Rattle.placement.specs.Labels.{label, same_label, home}
use Rattle.placement.specs.Place.{Shaped, label_in, free_in, inserted}
use Rattle.placement.specs.Maps.{Map, with_nodes, with_chunk, map_of, nodes_of, labelled, Holdable, Table}
use Rattle.sizes.specs.declared.Sizes.{Sizes}
use Rattle.placement.specs.declared.Label.{Label}
use Rattle.placement.proofs.Laws.Loops.{shaped_same}
use Rattle.placement.proofs.Laws.Tables.{insert_keeps}
use Rattle.skiplist.specs.Lists.{front}
use Rattle.skiplist.proofs.Laws.Sound.{none_fine}
use Rattle.table.specs.Make.{fronts_map, Fronts}

abbrev front_label : ℕ → Label
front_label l = label l 0 0

-- one level more
front_more : (n l f i : ℕ) → with_nodes (front_label (suc n)) (front ∷ []) (fronts_map n) l f i ≡ fronts_map (suc n) l f i
unfolding with_chunk same_label fronts_map
front_more n l f i = go (eqb (suc n) l) refl (leb l n) refl
  where
    go : (t : Bool) → eqb (suc n) l ≡ t → (u : Bool) → leb l n ≡ u
        → cond (t && (eqb 0 f && eqb 0 i)) (front ∷ []) (cond ((leb 1 l && u) && (eqb 0 f && eqb 0 i)) (front ∷ []) []) ≡ cond ((leb 1 l && leb l (suc n)) && (eqb 0 f && eqb 0 i)) (front ∷ []) []
    go true p true q = absurd (omega (arith, eqb-true (suc n) l p, leb-true l n q))
    go true p false q =
        let e = eqb-true (suc n) l p in
        rw (le-leb 1 l (omega arith), le-leb l (suc n) (omega arith))
    go false p true q = rw (le-leb l (suc n) (omega (arith, leb-true l n q)))
    go false p false q =
        let ne = eqb-false (suc n) l p in
        rw (lt-leb l (suc n) (omega (arith, leb-false l n q, ne)))

-- no level
front_none : (l f i : ℕ) → map_of [] l f i ≡ fronts_map 0 l f i
unfolding map_of fronts_map
front_none zero f i = refl
front_none (suc l) f i = rw (le-leb 1 (suc l) (omega arith), lt-leb (suc l) 0 (omega arith))

-- a level above is absent
front_absent : (n : ℕ) → nodes_of (fronts_map n) (front_label (suc n)) ≡ []
unfolding fronts_map
front_absent n = rw (le-leb 1 (suc n) (omega arith), lt-leb (suc n) n (omega arith))

-- 16 zeros have the bytes of a front, of either width
front_bytes : (s : Sizes) → take (row s * 1) (drop 0 (replicate 16 0)) ≡ nodes_bytes (row s) (front ∷ [])
unfolding row rows node_bytes big front
front_bytes s = go (eqb s.version 1)
  where
    go : (t : Bool) → take (cond t 12 16 * 1) (drop 0 (replicate 16 0)) ≡ nodes_bytes (cond t 12 16) (front ∷ [])
    go true = refl
    go false = refl

front_holdable : (s : Sizes) (n : ℕ) → 1 ≤ s.nodes → Holdable s (labelled (front_label (suc n)) (front ∷ []))
unfolding front
front_holdable s n h = record {
  level = omega arith;
  first = omega arith;
  number = omega arith;
  fine = (none_fine (row s), tt);
  nodes = omega arith;
}

front_some : front ∷ [] ≢ []
front_some e = true≢false (cc)

-- a table by a map that is the same at each label
same_map : (s : Sizes) (F G : Map) (n : ℕ) (hd bs : List ℕ) → ((l f i : ℕ) → F l f i ≡ G l f i) → Table s F n hd bs → Table s G n hd bs
same_map s F G n hd bs e t = subst (λ (H : Map). Table s H n hd bs) (λ j. λ l f i. e l f i j) t

-- WHAT THE LOOP KEEPS: so many levels are done
pub record Fronting (s : Sizes) (top : ℕ) (x : List ℕ) (l : ℕ) (z : List ℕ) : Type 0 where
  pub done : ℕ
  pub next : l ≡ suc done
  pub within : done ≤ top
  pub shaped : Shaped s z
  pub same : length z ≡ length x
  pub keeps : (hd : List ℕ) → top ≤ s.blocks → Table s (map_of []) 0 hd x → Table s (fronts_map done) done hd z

module _ (s : Sizes) (top : ℕ) (x : List ℕ) where
  pub fronting_start : Shaped s x → Fronting s top x 1 x
  fronting_start h = record {
    done = 0;
    next = refl;
    within = omega arith;
    shaped = h;
    same = refl;
    keeps = λ hd w t. same_map s (map_of []) (fronts_map 0) 0 hd x front_none t;
  }

  module _ (l : ℕ) (z : List ℕ) (q : Fronting s top x l z) where
    pub fronting_more : l ≤ top → 1 ≤ s.nodes → (r : Option ℕ) (z' : List ℕ) → length z' ≡ length z
        → r ≡ free_in (label_in (block_long s) z) s.blocks s.blocks (home s (front_label l))
        → z' ≡ inserted s r (front_label l) 1 (take (row s * 1) (drop 0 (replicate 16 0))) z → Fronting s top x (l + 1) z'
    fronting_more h b r z' same er ez = record {
      done = suc q.done;
      next = omega (arith, q.next);
      within = omega (arith, q.next);
      shaped = shaped_same s z z' q.shaped same;
      same = same ∙ q.same;
      keeps = λ hd w t. same_map s (with_nodes (front_label (suc q.done)) (front ∷ []) (fronts_map q.done)) (fronts_map (suc q.done)) (suc q.done) hd z' (front_more q.done)
          (insert_keeps s (fronts_map q.done) q.done hd z (q.keeps hd w t) (front_label (suc q.done)) (front ∷ []) (front_holdable s q.done b) (front_absent q.done) front_some (omega (arith, q.next)) r z' (rw q.next at er)
          ((rw q.next at ez) ∙ ap (λ (v : List ℕ). inserted s r (front_label (suc q.done)) 1 v z) (front_bytes s)));
    }

    pub fronting_end : top < l → Fronts s top x z
    unfolding Fronts
    fronting_end h =
        let e : q.done ≡ top = omega (arith, q.next, q.within) in
        λ hd w t. rw e at (q.keeps hd w t)
