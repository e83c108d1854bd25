-- Where a table's way starts, and where it ends: from the image of the old orders to that of the new ones.
use mathlib.Core.Path.{◌≡◌, refl, sym, ◌∙◌, subst}
use mathlib.Core.Bool.{true}
use mathlib.Core.List.{List, []}
use Prim.Native.Nat.{ℕ, zero, suc, ◌+◌, ◌-◌, ◌≤◌, ◌<◌}
use native.Mathlib.Decide.{dec_lt}
use native.Mathlib.Omega.{arith}
use lib.ListN.{length}
use lib.Seq.{sets}
use Rattle.sizes.specs.Numbers.{big}
use Rattle.sizes.specs.Sizes.{beta, made}
use Rattle.sizes.specs.Header.{header}
use Rattle.placement.specs.Labels.{label}
use Rattle.placement.specs.Maps.{map_of, Table}
use Rattle.sizes.specs.declared.Sizes.{Sizes}
use Rattle.placement.specs.declared.Order.{Order}
use Rattle.sizes.proofs.Laws.Sizes.{some_nodes}
use Rattle.placement.proofs.Laws.Tables.{count_keeps}
use Rattle.skiplist.specs.Lists.{chunks}
use Rattle.skiplist.specs.Image.{image, orders_good, fits}
use Rattle.skiplist.proofs.Laws.Parts.{good_up}
use Rattle.skiplist.proofs.Laws.Content.{content_outside, content_level_zero}
use Rattle.skiplist.proofs.Laws.Rise.{chunks_rise}
use Rattle.skiplist.proofs.Laws.Faithful.{map_content}
use Rattle.skiplist.proofs.Laws.Count.{count, length_chunks}
use Rattle.skiplist.proofs.Laws.Image.{image_keeps, is_the_image}
use Rattle.edits.specs.Change.{Between}
use Rattle.edits.proofs.Laws.WayLevels.{counts_kept}

-- no chunks above the top level, and none of level 0
none_over : (s : Sizes) (os : List Order) → orders_good s 1 os ≡ true → (l f i : ℕ) → beta s < l → map_of (chunks s os) l f i ≡ []
none_over s os g l f i h = map_content l f i (chunks s os) (label 0 0 0) (chunks_rise s os (good_up s 1 os g)) ∙ content_outside s l f i os h

none_under : (s : Sizes) (os : List Order) → orders_good s 1 os ≡ true → (f i : ℕ) → map_of (chunks s os) 0 f i ≡ []
none_under s os g f i = map_content 0 f i (chunks s os) (label 0 0 0) (chunks_rise s os (good_up s 1 os g)) ∙ content_level_zero s 0 f i os refl

header_sets : (s : Sizes) (n k : ℕ) → sets (header s n) 11 (big 2 k) ≡ header s k
unfolding header big
header_sets s n k = refl

module _ (s : Sizes) (old new : List Order) (g : orders_good s 1 old ≡ true) (h : orders_good s 1 new ≡ true) where
  -- from level k down: the levels above are the same
  pub way_start : made s ≡ true → fits s old ≡ true → (k : ℕ) → k ≤ beta s → ((l f i : ℕ) → k < l → l ≤ beta s → map_of (chunks s old) l f i ≡ map_of (chunks s new) l f i) →
      ((l : ℕ) → k < l → l ≤ beta s → count s l old ≡ count s l new) → Between s old new k (image s old)
  way_start m f k le same counted = record {
    map = map_of (chunks s old);
    full = length (chunks s old);
    table = image_keeps s old m g f;
    above = λ l f i q. go l f i q (dec_lt (beta s) l);
    upto = λ l f i q. refl;
    count =
        let kept = counts_kept s old new k (beta s - k) (λ l a b. counted l a (omega arith)) in
        omega (arith, length_chunks s old (some_nodes s m), length_chunks s new (some_nodes s m), rw top at kept);
  }
    where
      top : k + (beta s - k) ≡ beta s
      top = omega arith

      go : (l f i : ℕ) → k < l → Dec (beta s < l) → map_of (chunks s old) l f i ≡ map_of (chunks s new) l f i
      go l f i q (yes z) = none_over s old g l f i z ∙ sym (none_over s new h l f i z)
      go l f i q (no z) = same l f i q (omega (arith, z))

  module _ (f : fits s new ≡ true) (bs : List ℕ) (b : Between s old new 0 bs) where
    -- the map is that of the new orders
    ended : (l f i : ℕ) → b.map l f i ≡ map_of (chunks s new) l f i
    ended zero f i = b.upto 0 f i (omega arith) ∙ none_under s old g f i ∙ sym (none_under s new h f i)
    ended (suc l) f i = b.above (suc l) f i (omega arith)

    pub way_end : sets bs 11 (big 2 (length new)) ≡ image s new
    way_end =
        is_the_image s new b.map b.full (sets bs 11 (big 2 (length new))) h f
        (subst (λ (hd : List ℕ). Table s b.map b.full hd (sets bs 11 (big 2 (length new)))) (header_sets s (length old) (length new))
        (count_keeps s b.map b.full (header s (length old)) bs b.table (length new)))
        ended

    pub way_even : length old ≡ length new → bs ≡ image s new
    way_even e =
        is_the_image s new b.map b.full bs h f
        (subst (λ (n : ℕ). Table s b.map b.full (header s n) bs) e b.table)
        ended
