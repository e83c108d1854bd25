-- An image reads back as its orders and sizes; with it what is promised of lists of calls.
use mathlib.Core.Path.{◌≡◌, refl, ap, ◌∙◌}
use mathlib.Core.Bool.{true}
use mathlib.Core.List.{List, [], ◌∷◌}
use Prim.Native.Nat.{ℕ, ◌+◌, ◌*◌, ◌≤◌, ◌<◌}
use native.Mathlib.Nat.{mul-le-mul}
use native.Mathlib.Omega.{arith}
use borrow.Author.Tests.{eq-eqb, le-leb}
use lib.ListN.{length}
use Rattle.sizes.specs.Numbers.{big, field}
use Rattle.sizes.specs.Sizes.{row, made}
use Rattle.sizes.specs.Header.{block_long, table_long, header, sizes_in, held_in, rule_1}
use Rattle.placement.specs.Decode.{blocks_in}
use Rattle.placement.specs.Maps.{map_of}
use Rattle.sizes.specs.declared.Sizes.{Sizes}
use Rattle.placement.specs.declared.Order.{Order}
use Rattle.sizes.proofs.Laws.Sizes.{Limits, limits, some_blocks, row_most}
use Rattle.sizes.proofs.Laws.Numbers.{field_big}
use Rattle.sizes.proofs.Laws.Headers.{header_long}
use Rattle.sizes.proofs.Laws.HeaderLoops.{rows_most}
use Rattle.placement.proofs.Laws.Tables.{sound_blocks, sizes_read, shaped}
use Rattle.skiplist.specs.Lists.{chunks, blocks}
use Rattle.skiplist.specs.Image.{image, gathered, orders_in, orders_good, fits, same, is_image}
use Rattle.skiplist.specs.Promise.{ImageReadsBack, ListsImage}
use Rattle.skiplist.proofs.Laws.Parts.{good_up}
use Rattle.skiplist.proofs.Laws.Kept.{fits_parts}
use Rattle.skiplist.proofs.Laws.Sound.{chunks_sound}
use Rattle.skiplist.proofs.Laws.Image.{blocks_keep, image_keeps}
use Rattle.skiplist.proofs.Laws.Decode.{blocks_back}
use Rattle.skiplist.proofs.Laws.Gather.{blocks_gather}
use Rattle.skiplist.proofs.Laws.Third.{lists_image}

-- the numbers of the header
long_small : (s : Sizes) → Limits s → table_long s < 4294967296
unfolding table_long block_long
long_small s w =
    let b : 8 + row s * s.nodes ≤ 520 = omega (arith, w.nodes_most, rows_most (row s) s.nodes (row_most s)) in
    omega (arith, mul-le-mul w.blocks_most b)

long_least : (s : Sizes) → 53 ≤ table_long s
unfolding table_long
long_least s = omega arith

long_back : (s : Sizes) (os : List Order) → Limits s → field 1 4 (image s os) ≡ table_long s
unfolding image header big field
long_back s os w = field_big 4 (table_long s) [] (long_small s w)

held_back : (s : Sizes) (os : List Order) → length os ≤ 65535 → held_in (image s os) ≡ length os
unfolding held_in image header big field
held_back s os h = field_big 2 (length os) [] (omega arith)

same_self : (xs : List ℕ) → same xs xs ≡ true
unfolding same
same_self [] = refl
same_self (x ∷ xs) = rw (eq-eqb x x refl) (same_self xs)

module _ (s : Sizes) (os : List Order) (m : made s ≡ true) (g : orders_good s 1 os ≡ true) (f : fits s os ≡ true) where
  sizes_back : sizes_in (image s os) ≡ s
  sizes_back = sizes_read s (map_of (chunks s os)) (length (chunks s os)) (header s (length os)) (image s os) (image_keeps s os m g f)

  orders_back : orders_in (image s os) ≡ os
  unfolding orders_in image
  orders_back =
      let k = blocks_keep s os m g f in
      let w = limits s m in
      ap (λ (z : Sizes). gathered (blocks_in z (image s os)) []) sizes_back
      ∙ ap (λ z. gathered z []) (blocks_back s (header s (length os)) (blocks s os) (header_long s (length os) w.ten) k.long (sound_blocks s _ _ (blocks s os) (chunks_sound s os m g f) k))
      ∙ blocks_gather s os w.nodes_some (some_blocks s m) (good_up s 1 os g) (fits_parts s os f).room

  image_long : length (image s os) ≡ table_long s
  unfolding table_long
  image_long = (shaped s (map_of (chunks s os)) (length (chunks s os)) (header s (length os)) (image s os) (image_keeps s os m g f)).long

  pub image_rule_1 : rule_1 (image s os) ≡ true
  unfolding rule_1
  image_rule_1 =
      let w = limits s m in
      let k = (fits_parts s os f).few in
      rw (
        sizes_back,
        image_long,
        w.sizes,
        w.seeds,
        long_back s os w,
        held_back s os (omega (arith, w.orders_most)),
        le-leb 53 (table_long s) (long_least s),
        eq-eqb (table_long s) (table_long s) refl,
        le-leb (length os) s.orders k,
      )

pub reads_back : ImageReadsBack
unfolding ImageReadsBack is_image
reads_back s os m g f = (rw (image_rule_1 s os m g f, sizes_back s os m g f, orders_back s os m g f, g, f, same_self (image s os)), orders_back s os m g f, sizes_back s os m g f)

-- LISTS OF CALLS
pub lists_image_holds : ListsImage
lists_image_holds = lists_image reads_back
