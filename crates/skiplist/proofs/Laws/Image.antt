-- The image of some orders keeps the map of their chunks, and no other bytes under its header do.
use mathlib.Core.Path.{◌≡◌, refl}
use mathlib.Core.Bool.{true}
use mathlib.Core.List.{List}
use Prim.Native.Nat.{ℕ}
use lib.ListN.{length}
use Rattle.sizes.specs.Sizes.{made}
use Rattle.sizes.specs.Header.{header}
use Rattle.placement.specs.Maps.{Map, Keeps, map_of, Table}
use Rattle.sizes.specs.declared.Sizes.{Sizes}
use Rattle.placement.specs.declared.Order.{Order}
use Rattle.placement.proofs.Laws.Keeps.{placed_keeps}
use Rattle.sizes.proofs.Laws.Sizes.{limits, some_blocks}
use Rattle.sizes.proofs.Laws.Headers.{header_long, header_sizes}
use Rattle.placement.proofs.Laws.Tables.{same_bytes}
use Rattle.skiplist.specs.Lists.{chunks, blocks}
use Rattle.skiplist.specs.Image.{image, orders_good, fits}
use Rattle.skiplist.proofs.Laws.Kept.{fits_parts}
use Rattle.skiplist.proofs.Laws.Rising.{chunks_comparable}
use Rattle.skiplist.proofs.Laws.Sound.{chunks_full, chunks_sound}

module _ (s : Sizes) (os : List Order) where
  pub blocks_keep : made s ≡ true → orders_good s 1 os ≡ true → fits s os ≡ true → Keeps s (blocks s os) (map_of (chunks s os)) (length (chunks s os))
  unfolding blocks
  blocks_keep m g f = placed_keeps s (chunks s os) (some_blocks s m) (chunks_comparable s os g) (fits_parts s os f).room (chunks_full s os m)

  unfoldable pub image_keeps : made s ≡ true → orders_good s 1 os ≡ true → fits s os ≡ true → Table s (map_of (chunks s os)) (length (chunks s os)) (header s (length os)) (image s os)
  unfolding image
  image_keeps m g f = record {
    good = m;
    head = header_long s (length os) (limits s m).ten;
    sizes = header_sizes s (length os) (limits s m);
    sound = chunks_sound s os m g f;
    blocks = blocks s os;
    is = refl;
    keeps = blocks_keep m g f;
  }

  -- bytes under the image's header that keep its map are the image
  pub is_the_image : (F : Map) (n : ℕ) (bs : List ℕ) → orders_good s 1 os ≡ true → fits s os ≡ true → Table s F n (header s (length os)) bs →
      ((l f i : ℕ) → F l f i ≡ map_of (chunks s os) l f i) → bs ≡ image s os
  is_the_image F n bs g f t e = same_bytes s F (map_of (chunks s os)) n (length (chunks s os)) (header s (length os)) bs (image s os) e t (image_keeps t.good g f)
