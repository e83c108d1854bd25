-- A reader built before a price came into the record: it turns down version 2, and agrees on version 1.
use mathlib.Core.Path.{◌≡◌, refl, sym, ap}
use mathlib.Core.Bool.{Bool, false, ◌&&◌, and-false}
use mathlib.Core.List.{List, [], ◌∷◌}
use Prim.Native.Nat.{ℕ}
use native.Mathlib.Omega.{arith}
use borrow.Author.Tests.{ne_eqb, eq-eqb}
use lib.Dec.{leb, eqb}
use lib.ListN.{length, get_or}
use Rattle.sizes.specs.Numbers.{field, value_from}
use Rattle.sizes.specs.Sizes.{sizes_good, seed_good}
use Rattle.sizes.specs.Header.{block_long, table_long, sizes_in, held_in, rule_1}
use Rattle.sizes.specs.declared.Sizes.{Sizes}
use Rattle.placement.specs.Decode.{blocks_in}
use Rattle.placement.specs.declared.Order.{Order}
use Rattle.sizes.proofs.Laws.HeaderLoops.{row_one, ruled}
use Rattle.skiplist.specs.Image.{image, gathered, orders_in, orders_good, fits, same, is_image}
use Rattle.skiplist.specs.Before.{first_sizes, first_long, first_rule_1, first_orders, first_is_image, FirstReader}
use Rattle.skiplist.proofs.Laws.Parts.{and_left}

-- question 4 of bytes, with these sizes
module _ (x : List ℕ) (s : Sizes) where
  abbrev there : List Order
  there = gathered (blocks_in s x) []

  abbrev asked : Bool
  asked =
      leb 53 (length x)
      && (sizes_good s && (seed_good s.seed && (eqb (field 1 4 x) (table_long s) && (eqb (length x) (table_long s) && leb (held_in x) s.orders))))
      && ((orders_good s 1 there && fits s there) && same (image s there) x)

version_1 : (x : List ℕ) → get_or x 0 0 ≡ 1 → field 0 1 x ≡ 1
unfolding field value_from
version_1 [] e = absurd (omega arith)
version_1 (b ∷ x) e = omega arith

long_1 : (s : Sizes) → s.version ≡ 1 → first_long s ≡ table_long s
unfolding first_long table_long block_long
long_1 s e = rw (← row_one s e)

pub first_reader : FirstReader
unfolding FirstReader first_is_image first_rule_1 first_orders first_sizes is_image rule_1 orders_in sizes_in
first_reader = (
  λ x i v.
      let q : eqb (field 0 1 x) 1 ≡ false = ne_eqb (field 0 1 x) 1 (λ e. omega (arith, (ruled x (and_left (rule_1 x) _ i)).version, v)) in
      simp (q, and-false),
  λ x v.
      let s = sizes_in x in
      let e : s ≡ first_sizes x = λ i. record { version = v i; gamma = s.gamma; nodes = s.nodes; orders = s.orders; blocks = s.blocks; seed = s.seed } in
      let l = long_1 (first_sizes x) refl in
      rw (eq-eqb (field 0 1 x) 1 (version_1 x v), l) (ap (asked x) (sym e)),
)
