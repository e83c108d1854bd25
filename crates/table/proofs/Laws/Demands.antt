-- The three demands after any run, from what the table then holds.
use mathlib.Core.Path.{◌≡◌, sym, ap, ◌∙◌, subst}
use mathlib.Core.Bool.{cond}
use mathlib.Core.List.{List, []}
use Prim.Native.Nat.{ℕ}
use Rattle.sizes.specs.Sizes.{row}
use Rattle.sizes.specs.Header.{sizes_in}
use Rattle.sizes.specs.declared.Sizes.{Sizes}
use Rattle.placement.specs.declared.Order.{Order}
use Rattle.skiplist.specs.Image.{image, orders_in}
use Rattle.skiplist.specs.Questions.{first_no, asks_image, sizes, between}
use Rattle.skiplist.specs.Book.{Call, lookup, descent, span, seek, asks, book_refusal, book, refusal}
use Rattle.skiplist.specs.Paths.{descent_path}
use Rattle.skiplist.specs.Rules.{Rules}
use Rattle.skiplist.proofs.Laws.Parts.{good_up}
use Rattle.skiplist.proofs.Laws.Rules.{image_rules}
use Rattle.table.specs.Calls.{LookSays, LookAs, DescentAs, SpanSays, SpanAs, SeekSays, SeekAs}
use Rattle.table.specs.Promise.{Demand3, Demand2Rules, Demand2Lookup, Demand2Descent, Demand2Span, Demand2Seek, Demand1}
use Rattle.table.proofs.Laws.Runs.{Holds, run_holds}
use Rattle.table.proofs.Laws.Alike.{same_equal, equal_same}
use Rattle.table.proofs.Laws.Fixed.{number_told}

-- DEMAND 3
pub demand_3 : Demand3
unfolding Demand3
demand_3 a x y cs ds v w mx my rx ry =
    let s = sizes a in
    let p = run_holds a x v cs mx rx in
    let q = run_holds a y w ds my ry in
    let os = book s cs [] in
    let qs = book s ds [] in
    record {
      one = p.bytes;
      other = q.bytes;
      equal_then = λ e. equal_same os qs (sym p.orders ∙ ap orders_in e ∙ q.orders);
      then_equal = λ h. p.bytes ∙ ap (image s) (same_equal 1 os qs (good_up s 1 os p.kept.good) (good_up s 1 qs q.kept.good) h) ∙ sym q.bytes;
    }

-- DEMAND 2: the rules
pub demand_2_rules : Demand2Rules
unfolding Demand2Rules
demand_2_rules q x z cs mx rx =
    let w = run_holds q x z cs mx rx in
    subst (Rules (sizes q) (book (sizes q) cs [])) (sym w.bytes) (image_rules (sizes q) (book (sizes q) cs []) w.allowed w.kept.good w.kept.fit)

-- a call's number, asked of a table, is the plain book's, asked of the orders that the table holds
asked : (c : Call) (s : Sizes) (os : List Order) (z : List ℕ) → Holds s os z → refusal c z ≡ book_refusal s c os
unfolding refusal book_refusal first_no asks_image
asked c s os z w = λ i. cond (w.good i) (first_no (asks (w.sizes i) c (w.orders i))) 4

told : (c : Call) (says : ℕ → Sizes → List Order → Type 0) (s : Sizes) (os : List Order) (z : List ℕ) → Holds s os z →
    says (refusal c z) (sizes_in z) (orders_in z) → says (book_refusal s c os) s os
told c says s os z w h =
    subst (says (book_refusal s c os) s) w.orders (subst (λ (v : Sizes). says (book_refusal s c os) v (orders_in z)) w.sizes
    (subst (λ (n : ℕ). says n (sizes_in z) (orders_in z)) (asked c s os z w) h))

pub demand_2_lookup : Demand2Lookup
unfolding Demand2Lookup LookSays
demand_2_lookup q x z cs mx rx k r h = told (lookup k) (λ i v t. LookAs i 0 k t r) _ _ z (run_holds q x z cs mx rx) h

pub demand_2_descent : Demand2Descent
unfolding Demand2Descent
demand_2_descent q x z cs mx rx k r o now h =
    let w = run_holds q x z cs mx rx in
    told (descent k o) (λ i v t. DescentAs i k t (descent_path v t k) r o now) _ _ z w (h.on_image w.good)

pub demand_2_span : Demand2Span
unfolding Demand2Span SpanSays
demand_2_span q x z cs mx rx lo hi r o now h = told (span lo hi o) (λ i v t. SpanAs (row v) i (between lo hi t) r o now) _ _ z (run_holds q x z cs mx rx) h

pub demand_2_seek : Demand2Seek
unfolding Demand2Seek SeekSays
demand_2_seek q x z cs mx rx lo hi l r h = told (seek lo hi l) (λ i v t. SeekAs i t lo hi l r) _ _ z (run_holds q x z cs mx rx) h

-- DEMAND 1
pub demand_1 : Demand1
unfolding Demand1
demand_1 q x z cs mx rx c y h = let w = run_holds q x z cs mx rx in number_told c z y h w.good ∙ asked c _ _ z w
