-- What a scan of a partition of an image's level tells, and what an edit there asks.
use mathlib.Core.Path.{◌≡◌, sym, ap, ◌∙◌}
use mathlib.Core.List.{List, ◌∷◌, ◌++◌, map, map-append}
use Prim.Native.Nat.{ℕ, suc, ◌+◌, ◌≤◌}
use native.Mathlib.Nat.{add-suc}
use native.Mathlib.Omega.{arith}
use lib.ListN.{length, length-append, length-map}
use Rattle.sizes.specs.Sizes.{beta, row}
use Rattle.sizes.specs.Header.{header}
use Rattle.placement.specs.Maps.{Fine}
use Rattle.sizes.specs.declared.Sizes.{Sizes}
use Rattle.placement.specs.declared.Order.{Order}
use Rattle.skiplist.specs.Lists.{masked, first_key}
use Rattle.skiplist.proofs.Laws.Parts.{Up, part}
use Rattle.skiplist.proofs.Laws.Descent.{last_from, step_down, head_below}
use Rattle.skiplist.proofs.Laws.Edits.{head_part}
use Rattle.levels.specs.declared.Spot.{Spot}
use Rattle.levels.specs.Edit.{Pieces, Scans, Room}
use Rattle.edits.specs.Change.{Setting, Between}
use Rattle.levels.proofs.Laws.Growing.{as_pieces}
use Rattle.table.proofs.Laws.MaskedKeys.{below_masked, up_masked, last_masked}
use Rattle.edits.proofs.Laws.Settings.{front_up, front_below, key_pos, order_fine, some_nodes, first_low}

pub length_both : (k : ℕ) (ps qs : List Order) → length (map (masked k) ps ++ map (masked k) qs) ≡ length ps + length qs
length_both k ps qs = simp (length-append, length-map)

pub length_more : (k : ℕ) (ps : List Order) (o : Order) (qs : List Order) → length (map (masked k) ps ++ masked k o ∷ map (masked k) qs) ≡ suc (length ps + length qs)
length_more k ps o qs = simp (length-append, length-map) (add-suc (length ps) (length qs))

-- a key comes behind ps and before qs
pub record Spotted (x : Spot) (ps qs : List Order) : Type 0 where
  pub below : x.below ≡ length ps
  pub last : x.last ≡ last_from 0 ps
  pub size : x.size ≡ length ps + length qs

-- level j + 1 of a table on its way, with the partition that the key comes to
module _ (s : Sizes) (xs : List Order) (o : Order) (zs : List Order) (w : Setting s xs o zs) (j : ℕ) (low : suc j ≤ beta s) where
  module _ (old new : List Order) (up : Up 1 old) (bs : List ℕ) (b : Between s old new (suc j) bs) where
    -- a partition with its nodes
    pub there : (f : ℕ) (ns : List Order) → part s old (suc j) f ≡ ns → Pieces b.map s.nodes (suc j) f 0 (map (masked (suc j)) ns)
    there f ns e = as_pieces s old (some_nodes s xs o zs w) up (suc j) (omega arith) low b.map f ns e (λ i. b.upto (suc j) f i (omega arith))

    -- what a scan tells
    pub seen : (x : Spot) (qs : List Order) → part s old (suc j) (first_key (head_part s (suc j) xs)) ≡ head_part s (suc j) xs ++ qs → Up o.key qs →
        Scans s bs (suc j) (first_key (head_part s (suc j) xs)) o.key x → Spotted x (head_part s (suc j) xs) qs
    unfolding Scans
    seen x qs e u sc =
        let ps = head_part s (suc j) xs in
        let v = sc b.map b.full (header s (length old)) (map (masked (suc j)) ps) (map (masked (suc j)) qs) b.table (omega arith)
        (rw map-append at (there (first_key ps) (ps ++ qs) e))
        (below_masked (suc j) o.key ps (head_below s (suc j) o.key xs (key_pos s xs o zs w) (front_below s xs o zs w))) (up_masked (suc j) o.key qs u) in
        record {
          below = ap (λ (z : Spot). z.below) v ∙ length-map ps (masked (suc j));
          last = ap (λ (z : Spot). z.last) v ∙ last_masked (suc j) 0 ps;
          size = ap (λ (z : Spot). z.size) v ∙ length_both (suc j) ps qs;
        }

  module _ (x : Spot) (qs : List Order) (e : Spotted x (head_part s (suc j) xs) qs) where
    -- what an edit asks
    pub room : (y : Order) → Fine (row s) y → length (head_part s (suc j) xs) + length qs ≤ 65536 →
        Room s (suc j) (first_key (head_part s (suc j) xs)) (map (masked (suc j)) (head_part s (suc j) xs)) (map (masked (suc j)) qs) x y
    room y fine few = record {
      level = omega arith;
      first = omega (arith, first_low s xs o zs w (suc j), (order_fine s xs o zs w).key);
      fine = fine;
      few = rw (length_both (suc j) (head_part s (suc j) xs) qs) few;
      below = e.below ∙ sym (length-map (head_part s (suc j) xs) (masked (suc j)));
      size = e.size ∙ sym (length_both (suc j) (head_part s (suc j) xs) qs);
    }

    -- the next partition down
    pub next_first : x.last ≡ first_key (head_part s j xs)
    next_first = e.last ∙ sym (step_down s j xs (front_up s xs o zs w))
