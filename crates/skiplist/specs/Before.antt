-- Question 4 as it was before a price came into the record, kept as it stood: document 01's rule 1 of version 1, with nodes of 12 bytes, and the image of the
-- orders that the bytes hold. Document 02, A.6: "A reader built before this request answers 4 to version 2".
use Rattle.std.specs.Prelude.{◌≡◌, Bool, true, false, ◌&&◌, List, [], ℕ, ◌+◌, ◌*◌, leb, eqb, length, get_or, drop}
use Rattle.sizes.specs.Numbers.{field}
use Rattle.sizes.specs.Sizes.{sizes_good, seed_good}
use Rattle.sizes.specs.Header.{seed_in, sizes_in, held_in}
use Rattle.sizes.specs.declared.Sizes.{Sizes}
use Rattle.placement.specs.Decode.{blocks_in}
use Rattle.placement.specs.declared.Order.{Order}
use Rattle.skiplist.specs.Image.{image, gathered, orders_good, fits, same, is_image}

-- the sizes that such a reader takes from bytes: it knows of version 1 alone
unfoldable pub first_sizes : List ℕ → Sizes
first_sizes bs =
    record { version = 1; gamma = get_or bs 5 0; nodes = get_or bs 6 0; orders = field 7 2 bs; blocks = field 9 2 bs; seed = seed_in 10 (drop 13 bs) }

unfoldable pub first_long : Sizes → ℕ
first_long s = 53 + s.blocks * (8 + 12 * s.nodes)

unfoldable pub first_rule_1 : List ℕ → Bool
first_rule_1 bs =
    leb 53 (length bs)
    && (sizes_good (first_sizes bs)
    && (seed_good (first_sizes bs).seed
    && (eqb (field 0 1 bs) 1
    && (eqb (field 1 4 bs) (first_long (first_sizes bs)) && (eqb (length bs) (first_long (first_sizes bs)) && leb (held_in bs) (first_sizes bs).orders)))))

unfoldable pub first_orders : List ℕ → List Order
first_orders bs = gathered (blocks_in (first_sizes bs) bs) []

unfoldable pub first_is_image : List ℕ → Bool
first_is_image bs =
    first_rule_1 bs
    && ((orders_good (first_sizes bs) 1 (first_orders bs) && fits (first_sizes bs) (first_orders bs)) && same (image (first_sizes bs) (first_orders bs)) bs)

-- it turns down every version 2 table, and agrees with today's on whatever says version 1
unfoldable pub FirstReader : Type 0
FirstReader =
    ((x : List ℕ) → is_image x ≡ true → (sizes_in x).version ≡ 2 → first_is_image x ≡ false)
    × ((x : List ℕ) → (sizes_in x).version ≡ 1 → first_is_image x ≡ is_image x)
