-- The loop of `change_levels`: one turn for each level, from the key's own down.
use mathlib.Core.Path.{◌≡◌, refl, sym, ◌∙◌, subst}
use mathlib.Core.List.{List, ◌∷◌, ◌++◌}
use Prim.Native.Nat.{ℕ, ◌-◌, ◌≤◌, ◌<◌}
use native.Mathlib.Omega.{arith}
use lib.ListN.{length}
use lib.Seq.{sets}
use Rattle.sizes.specs.Numbers.{big}
use Rattle.sizes.specs.Sizes.{beta}
use Rattle.sizes.specs.Hash.{level}
use Rattle.placement.specs.Place.{Shaped}
use Rattle.placement.specs.Maps.{map_of}
use Rattle.sizes.specs.declared.Sizes.{Sizes}
use Rattle.placement.specs.declared.Order.{Order}
use Rattle.placement.proofs.Laws.Loops.{shaped_same}
use Rattle.skiplist.specs.Lists.{first_key, chunks}
use Rattle.skiplist.specs.Image.{image}
use Rattle.skiplist.proofs.Laws.Edits.{head_part, level_most, part_above}
use Rattle.skiplist.proofs.Laws.Count.{count_low}
use Rattle.edits.specs.declared.changes.Change.{Change}
use Rattle.edits.specs.declared.changes.Change.TheVariants.{Enter, Cancel}
use Rattle.edits.specs.Change.{Setting, Of, before, behind, OnWay, Turn, Turned}
use Rattle.edits.proofs.Laws.WayLevels.{same_part}
use Rattle.edits.proofs.Laws.Settings.{all_up, less_up, key_pos, some_nodes, less_good, less_fit}
use Rattle.edits.proofs.Laws.Ways.{way_start, way_end}

-- ABOVE A KEY'S OWN LEVEL nothing changes by it
module _ (s : Sizes) (xs : List Order) (o : Order) (zs : List Order) (w : Setting s xs o zs) where
  same_above : (l f i : ℕ) → level s o.key < l → l ≤ beta s → map_of (chunks s (xs ++ o ∷ zs)) l f i ≡ map_of (chunks s (xs ++ zs)) l f i
  same_above l f i h low =
      same_part s (xs ++ o ∷ zs) (xs ++ zs) (some_nodes s xs o zs w) (all_up s xs o zs w) (less_up s xs o zs w) l f (omega arith) low
      (part_above s l xs o zs (all_up s xs o zs w) f h) i

  -- a change starts at the image of the old orders, at the key's own level, and ends past level 1 at that of the new ones
  starts : (c : Change) → OnWay s c xs o zs (level s o.key) (image s (before c (xs ++ zs) (xs ++ o ∷ zs)))
  starts (Enter p) =
      way_start s (xs ++ zs) (xs ++ o ∷ zs) (less_good s xs o zs w) w.good w.sizes (less_fit s xs o zs w) (level s o.key) (level_most s o.key)
      (λ l f i h low. sym (same_above l f i h low)) (λ l h low. sym (count_low s l xs o zs (key_pos s xs o zs w) h))
  starts (Cancel y) =
      way_start s (xs ++ o ∷ zs) (xs ++ zs) w.good (less_good s xs o zs w) w.sizes w.fit (level s o.key) (level_most s o.key) same_above
      (λ l h low. count_low s l xs o zs (key_pos s xs o zs w) h)

  ends : (c : Change) (bs : List ℕ) → OnWay s c xs o zs 0 bs →
      sets bs 11 (big 2 (length (behind c (xs ++ zs) (xs ++ o ∷ zs)))) ≡ image s (behind c (xs ++ zs) (xs ++ o ∷ zs))
  ends (Enter p) bs b = way_end s (xs ++ zs) (xs ++ o ∷ zs) (less_good s xs o zs w) w.good w.fit bs b
  ends (Cancel y) bs b = way_end s (xs ++ o ∷ zs) (xs ++ zs) w.good (less_good s xs o zs w) (less_fit s xs o zs w) bs b

-- a change under way from partition e of level l: level k is next, in the partition that f heads
pub record Changing (s : Sizes) (e l : ℕ) (c : Change) (bs₀ : List ℕ) (k f : ℕ) (bs : List ℕ) : Type 0 where
  pub low : k ≤ l
  pub shaped : Shaped s bs
  pub same : length bs ≡ length bs₀
  pub way : (xs : List Order) (o : Order) (zs : List Order) → Setting s xs o zs → Of c o → e ≡ first_key (head_part s l xs) → l ≡ level s o.key →
      bs₀ ≡ image s (before c (xs ++ zs) (xs ++ o ∷ zs)) → (f ≡ first_key (head_part s k xs)) × OnWay s c xs o zs k bs

module _ (s : Sizes) (e l : ℕ) (c : Change) (bs₀ : List ℕ) where
  pub changing_start : Shaped s bs₀ → Changing s e l c bs₀ l e bs₀
  changing_start h = record { low = omega arith; shaped = h; same = refl; way = λ xs o zs w co fe le i. (fe, rw (le, i) (starts s xs o zs w c)) }

  module _ (k f : ℕ) (bs : List ℕ) (p : Changing s e l c bs₀ k f bs) where
    pub changing_more : 0 < k → (bs' : List ℕ) (r : ℕ) → length bs' ≡ length bs → Turn s k l f c bs bs' r → Changing s e l c bs₀ (k - 1) r bs'
    unfolding Turn
    changing_more h bs' r n t = record {
      low = omega (arith, p.low);
      shaped = shaped_same s bs bs' p.shaped n;
      same = n ∙ p.same;
      way = λ xs o zs w co fe le i. let v = p.way xs o zs w co fe le i in t xs o zs w co le h p.low v.0 v.1;
    }

    pub changing_end : k ≡ 0 → Turned s e l c bs₀ bs
    unfolding Turned
    changing_end z xs o zs w co fe le i = ends s xs o zs w c bs (subst (λ (n : ℕ). OnWay s c xs o zs n bs) z (p.way xs o zs w co fe le i).1)
