-- The table that a run of calls leaves is the image of what the plain book leaves.
use mathlib.Core.Path.{◌≡◌, refl, sym, ap, ◌∙◌}
use mathlib.Core.Bool.{Bool, true, false}
use mathlib.Core.List.{List, [], ◌∷◌}
use Prim.Native.Nat.{ℕ}
use borrow.Author.Tests.{eqb-true}
use lib.Dec.{eqb}
use Rattle.sizes.specs.Sizes.{made}
use Rattle.sizes.specs.Header.{sizes_in}
use Rattle.sizes.specs.declared.Sizes.{Sizes}
use Rattle.placement.specs.declared.Order.{Order}
use Rattle.sizes.proofs.Laws.Sizes.{limits}
use Rattle.skiplist.specs.Image.{image, is_image, orders_in}
use Rattle.skiplist.specs.Questions.{sizes}
use Rattle.skiplist.specs.Book.{Call, enter, amend, cancel, lookup, descent, span, seek, check, changed, book, refusal, done, after}
use Rattle.skiplist.specs.Promise.{ImageReadsBack, ListsImage}
use Rattle.skiplist.proofs.Laws.Kept.{Kept, kept_none, kept_changed, kept_book}
use Rattle.skiplist.proofs.Laws.Third.{image_parts, taken, done_same}
use Rattle.skiplist.proofs.Laws.Readback.{reads_back, lists_image_holds}
use Rattle.table.specs.Calls.{EditSays, EnterSays, AmendSays, CancelSays}
use Rattle.table.specs.Promise.{Does, Runs, MadeBy, MakeOnly, AfterAny}
use Rattle.table.proofs.Laws.Makes.{make_only}

-- a call does to the table what the definitions say
pub does_done : (c : Call) (x z : List ℕ) → Does c x z → z ≡ done c x
unfolding Does EnterSays AmendSays CancelSays EditSays changed
does_done (enter k t d p) x z h = h.1.1
does_done (amend k t d p) x z h = h.1.1
does_done (cancel k) x z h = h.1.1
does_done (lookup k) x z h = h.2 ∙ sym (done_same (lookup k) x refl)
does_done (descent k o) x z h = h.3 ∙ sym (done_same (descent k o) x refl)
does_done (span lo hi o) x z h = h.3 ∙ sym (done_same (span lo hi o) x refl)
does_done (seek lo hi l) x z h = h.2 ∙ sym (done_same (seek lo hi l) x refl)
does_done check x z h = h.2 ∙ sym (done_same check x refl)

pub runs_after : (cs : List Call) (x z : List ℕ) → Runs cs x z → z ≡ after cs x
unfolding Runs after
runs_after [] x z h = h
runs_after (c ∷ cs) x z h = runs_after cs h.0 z h.2 ∙ ap (after cs) (does_done c x h.0 h.1)

-- A TABLE THAT HOLDS some orders, under allowed sizes: all that its bytes say
pub record Holds (s : Sizes) (os : List Order) (z : List ℕ) : Type 0 where
  pub allowed : made s ≡ true
  pub kept : Kept s os
  pub bytes : z ≡ image s os
  pub good : is_image z ≡ true
  pub orders : orders_in z ≡ os
  pub sizes : sizes_in z ≡ s

pub holds_image : (s : Sizes) (os : List Order) (z : List ℕ) → made s ≡ true → Kept s os → z ≡ image s os → Holds s os z
unfolding ImageReadsBack
holds_image s os z m k e =
    let q = reads_back s os m k.good k.fit in
    record { allowed = m; kept = k; bytes = e; good = ap is_image e ∙ q.0; orders = ap orders_in e ∙ q.1; sizes = ap sizes_in e ∙ q.2 }

-- A CALL THAT NO QUESTION TURNS DOWN leaves a table that holds the orders as it changes them; any other leaves an image as it is
pub done_holds : (c : Call) (x : List ℕ) → refusal c x ≡ 0 → Holds (sizes_in x) (changed c (orders_in x)) (done c x)
unfolding done
done_holds c x e =
    let s = sizes_in x in
    let i = taken c x e in
    let p = image_parts x i.0 in
    holds_image s (changed c (orders_in x)) (done c x) p.sizes_made (kept_changed s (limits s p.sizes_made) c (orders_in x) p.orders_kept i.1) (rw e)

pub stays_image : (c : Call) (x : List ℕ) → is_image x ≡ true → is_image (done c x) ≡ true
unfolding done
stays_image c x i = go (eqb (refusal c x) 0) refl
  where
    go : (t : Bool) → eqb (refusal c x) 0 ≡ t → is_image (done c x) ≡ true
    go true h = (done_holds c x (eqb-true (refusal c x) 0 h)).good
    go false h = rw h i

-- THE TABLE AFTER A RUN holds what the plain book leaves
pub run_holds : AfterAny Holds
unfolding MadeBy MakeOnly ListsImage
run_holds q x z cs h r =
    let s = sizes q in
    let w = make_only q h.0 x h.1 in
    let l = limits s w.0 in
    holds_image s (book s cs []) z w.0 (kept_book s l cs [] (kept_none s l)) (runs_after cs x z r ∙ ap (after cs) w.1 ∙ lists_image_holds s cs w.0)
