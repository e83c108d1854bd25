-- What the check accepts is what some make and some calls give, with numbers that a program can hand over.
use mathlib.Core.Path.{◌≡◌, refl, sym, ap, ◌∙◌, subst}
use mathlib.Core.Bool.{Bool, true, ◌&&◌, cond}
use mathlib.Core.List.{List, [], ◌∷◌}
use Prim.Native.Nat.{ℕ, suc, ◌≤◌}
use native.Mathlib.Omega.{arith}
use borrow.Author.Tests.{ltb-true, leb-true}
use lib.Dec.{leb}
use lib.ListN.{replicate}
use Rattle.sizes.specs.Sizes.{prime}
use Rattle.sizes.specs.Header.{table_long, sizes_in}
use Rattle.sizes.specs.declared.Sizes.{Sizes}
use Rattle.placement.specs.declared.Order.{Order}
use Rattle.sizes.proofs.Laws.Sizes.{and_parts, limits}
use Rattle.skiplist.specs.Image.{image, orders_in, price_good, quantities_good, orders_good, is_image}
use Rattle.skiplist.specs.Questions.{first_no, asks_image}
use Rattle.skiplist.specs.Book.{asks, book, refusal}
use Rattle.skiplist.proofs.Laws.Questions.{passes}
use Rattle.skiplist.proofs.Laws.Parts.{good_parts}
use Rattle.skiplist.proofs.Laws.Third.{image_parts, enters, book_enters}
use Rattle.table.specs.Calls.{check_number}
use Rattle.table.specs.Promise.{Runs, MadeBy, in_range, all_in_range, Given, Demand3Check, RunsExist, MakeReaches}
use Rattle.table.proofs.Laws.Makes.{is_word, make_reaches, make_writes}
use Rattle.table.proofs.Laws.Runs.{run_holds}
use Rattle.table.proofs.Laws.Fixed.{runs_exist}

enters_in_range : (s : Sizes) (a : ℕ) (os : List Order) → orders_good s a os ≡ true → all_in_range (enters os) ≡ true
unfolding all_in_range in_range enters quantities_good
enters_in_range s a [] e = refl
enters_in_range s a (o ∷ os) e =
    let w = good_parts s a o os e in
    let v = and_parts ((leb 1 o.total && leb o.total 4294967295) && leb o.displayed o.total) (price_good s o.price && leb o.price 4294967295) w.quantity in
    let q = and_parts (leb 1 o.total && leb o.total 4294967295) (leb o.displayed o.total) v.0 in
    let t : o.total ≤ 4294967295 = leb-true o.total 4294967295 (and_parts (leb 1 o.total) (leb o.total 4294967295) q.0).1 in
    rw (
      is_word o.key (omega (arith, ltb-true o.key prime w.key)),
      is_word o.total (omega arith),
      is_word o.displayed (omega (arith, leb-true o.displayed o.total q.1)),
      is_word o.price (omega (arith, leb-true o.price 4294967295 (and_parts (price_good s o.price) (leb o.price 4294967295) v.1).1)),
    ) (enters_in_range s (suc o.key) os w.others)

given : (bs : List ℕ) → is_image bs ≡ true → Given bs
unfolding MakeReaches MadeBy RunsExist
given bs e =
    let w = image_parts bs e in
    let s = sizes_in bs in
    let os = orders_in bs in
    let m = w.sizes_made in
    let v = make_reaches s m in
    let by : MadeBy v.0 (image s []) = (replicate (table_long s) 0, make_writes s v.0 v.2 v.3) in
    let r = runs_exist (enters os) (image s []) in
    let h = run_holds v.0 (image s []) r.0 (enters os) by r.1 in
    let o : book s (enters os) [] ≡ os = book_enters s os [] (limits s m) w.orders_kept.good w.orders_kept.fit in
    record {
      asked = v.0;
      table = image s [];
      calls = enters os;
      makes = by;
      runs = subst (Runs (enters os) (image s [])) (h.bytes ∙ ap (λ (t : Sizes). image t (book t (enters os) [])) v.2 ∙ ap (image s) o ∙ w.bytes) r.1;
      make_in_range = v.1;
      calls_in_range = enters_in_range s 1 os w.orders_kept.good;
    }

pub demand_3_check : Demand3Check
unfolding Demand3Check check_number refusal asks first_no asks_image
demand_3_check bs r e = (
  λ z. given bs (passes 3 (is_image bs) 0 (sym e ∙ z)).0,
  λ q x cs mx rx. e ∙ ap (λ (t : Bool). cond t 0 4) (run_holds q x bs cs mx rx).good,
)
