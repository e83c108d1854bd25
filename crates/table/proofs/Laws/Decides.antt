-- THE CHECK DECIDES QUESTION 4.
use mathlib.Core.Path.{◌≡◌, refl, sym, ap, ◌∙◌}
use mathlib.Core.Bool.{Bool, true, false}
use mathlib.Core.List.{List}
use Prim.Native.Nat.{ℕ}
use Rattle.sizes.specs.Header.{sizes_in}
use Rattle.sizes.proofs.Laws.Numbers.{Bytes}
use Rattle.skiplist.specs.Image.{orders_in, is_image}
use Rattle.skiplist.proofs.Laws.Third.{image_parts}
use Rattle.table.specs.Check.{check_passes}
use Rattle.table.proofs.Laws.Sound.{check_sound}
use Rattle.table.proofs.Laws.Complete.{check_complete}

-- an image, read back or not, passes
pub image_passes : (bs : List ℕ) → is_image bs ≡ true → check_passes bs ≡ true
image_passes bs e =
    let w = image_parts bs e in
    ap check_passes (sym w.bytes) ∙ check_complete (sizes_in bs) (orders_in bs) w.sizes_made w.orders_kept.good w.orders_kept.fit

pub check_decides : (bs : List ℕ) → Bytes bs → check_passes bs ≡ is_image bs
check_decides bs u = go (check_passes bs) (is_image bs) refl refl
  where
    go : (a b : Bool) → check_passes bs ≡ a → is_image bs ≡ b → a ≡ b
    go true b p q = sym (check_sound bs u p) ∙ q
    go false true p q = sym p ∙ image_passes bs q
    go false false p q = refl
