-- The number of full blocks that a pass over an image counts is that of its chunks.
use Rattle.std.proofs.Common.{Ok}
use mathlib.Core.Path.{◌≡◌, sym, ap, ◌∙◌}
use mathlib.Core.Bool.{true}
use mathlib.Core.List.{List}
use Prim.Native.Nat.{ℕ}
use lib.ListN.{length}
use Rattle.sizes.specs.Header.{header, sizes_in}
use Rattle.placement.specs.Blocks.{how_many}
use Rattle.placement.specs.Decode.{blocks_in}
use Rattle.sizes.specs.declared.Sizes.{Sizes}
use Rattle.placement.proofs.Laws.Tables.{sound_blocks}
use Rattle.skiplist.specs.Lists.{chunks}
use Rattle.skiplist.specs.Image.{is_image, orders_in}
use Rattle.skiplist.proofs.Laws.Image.{image_keeps}
use Rattle.skiplist.proofs.Laws.Decode.{blocks_back}
use Rattle.table.specs.Check.{swept}
use Rattle.table.proofs.Laws.Swept.{swept_count}
use Rattle.readings.proofs.Laws.Answers.{known_at}

pub swept_full : (bs : List ℕ) (s : Sizes) (n : ℕ) → swept (sizes_in bs) bs ≡ Ok n → s ≡ sizes_in bs → is_image bs ≡ true → n ≡ length (chunks s (orders_in bs))
swept_full bs s n e q i =
    let w = known_at bs s i q in
    let t = image_keeps s (orders_in bs) w.sizes_made w.good w.fit in
    swept_count (sizes_in bs) bs n e
    ∙ ap (λ (z : Sizes). how_many (blocks_in z bs)) (sym q)
    ∙ ap (λ (z : List ℕ). how_many (blocks_in s z)) (sym w.bytes ∙ t.is)
    ∙ ap how_many (blocks_back s (header s (length (orders_in bs))) t.blocks t.head t.keeps.long (sound_blocks s _ _ t.blocks t.sound t.keeps))
    ∙ t.keeps.count
