-- What the plain book keeps: orders stay good and fit.
use mathlib.Core.Path.{◌≡◌, refl, sym, ◌∙◌, subst}
use mathlib.Core.Bool.{Bool, true, false, not, ◌||◌, cond, false≢true}
use mathlib.Core.List.{List, [], ◌∷◌, ◌++◌, append-nil}
use Prim.Native.Nat.{ℕ, suc, ◌≤◌, ◌<◌}
use native.Mathlib.Omega.{arith}
use borrow.Author.Tests.{ltb-true, ltb-false, leb-true, eqb-true, eqb-false, le-leb}
use lib.Dec.{ltb, leb, eqb}
use lib.ListN.{length, length-append}
use Rattle.sizes.specs.Orders.{sort_in}
use Rattle.sizes.specs.Sizes.{prime, beta}
use Rattle.sizes.specs.declared.Sizes.{Sizes}
use Rattle.placement.specs.declared.Order.{Order}
use Rattle.placement.proofs.Laws.Cells.{cond_valid}
use Rattle.skiplist.specs.Lists.{chunks}
use Rattle.skiplist.specs.Image.{into, quantities_good, orders_good, fits}
use Rattle.skiplist.specs.Questions.{first_no, all_yes, is_key, held, without, with_order, order, price_allowed, asks_order, asks_room, asks_enter, asks_amend, asks_key}
use Rattle.skiplist.specs.Book.{Call, enter, amend, cancel, lookup, descent, span, seek, check, asks, changed, book_refusal, booked, book}
use Rattle.skiplist.specs.Promise.{AmendHasRoom}
use Rattle.skiplist.proofs.Laws.Questions.{passes}
use Rattle.skiplist.proofs.Laws.Parts.{Up, up_from, and_left, and_right, or_left, or_right, up_past, Good, good_parts, good_up, without_here, up_out, below}
use Rattle.skiplist.proofs.Laws.Shapes.{Place, there, absent, place, held_absent, with_old}
use Rattle.skiplist.proofs.Laws.Keys.{chunks_swap}
use Rattle.skiplist.proofs.Laws.Count.{length_chunks, chunks_more, counts_none}
use Rattle.sizes.proofs.Laws.Sizes.{Limits, some_nodes, and_parts}

pub good_make : (s : Sizes) (a : ℕ) (o : Order) (os : List Order) → a ≤ o.key → ltb o.key prime ≡ true → quantities_good s o.total o.displayed o.price ≡ true → orders_good s (suc o.key) os ≡ true
    → orders_good s a (o ∷ os) ≡ true
unfolding orders_good
good_make s a o os f g h i = rw (le-leb a o.key f, g, h, i)

pub good_from : (s : Sizes) (a b : ℕ) (os : List Order) → b ≤ a → orders_good s a os ≡ true → orders_good s b os ≡ true
unfolding orders_good
good_from s a b [] h e = refl
good_from s a b (o ∷ os) h e = let w = good_parts s a o os e in good_make s b o os (omega arith) w.key w.quantity w.others

pub good_without : (s : Sizes) (a k : ℕ) (os : List Order) → orders_good s a os ≡ true → orders_good s a (without k os) ≡ true
unfolding without
good_without s a k [] e = e
good_without s a k (o ∷ os) e =
    let w = good_parts s a o os e in
    cond_valid (λ (q : List Order). orders_good s a q ≡ true) (eqb o.key k) (good_from s (suc o.key) a os (omega arith) w.others)
    (good_make s a o (without k os) w.from w.key w.quantity (good_without s (suc o.key) k os w.others))

pub good_into : (s : Sizes) (a : ℕ) (y : Order) (os : List Order) → a ≤ y.key → ltb y.key prime ≡ true → quantities_good s y.total y.displayed y.price ≡ true → held y.key os ≡ false →
    orders_good s a os ≡ true → orders_good s a (into y os) ≡ true
unfolding sort_in held orders_good
good_into s a y [] h p q n e = good_make s a y [] h p q e
good_into s a y (o ∷ os) h p q n e = go (good_parts s a o os e) (λ h' n' e'. good_into s (suc o.key) y os h' p q n' e') (ltb y.key o.key) refl
  where
    apart : o.key ≡ y.key → ⊥
    apart = eqb-false o.key y.key (or_left (eqb o.key y.key) (held y.key os) n)

    go : Good s a o os →
        (suc o.key ≤ y.key → held y.key os ≡ false → orders_good s (suc o.key) os ≡ true → orders_good s (suc o.key) (into y os) ≡ true) →
        (t : Bool) → ltb y.key o.key ≡ t → orders_good s a (cond t (y ∷ o ∷ os) (o ∷ into y os)) ≡ true
    go w ih true g = good_make s a y (o ∷ os) h p q (good_make s (suc y.key) o os (ltb-true y.key o.key g) w.key w.quantity w.others)
    go w ih false g =
        good_make s a o (into y os) w.from w.key w.quantity
        (ih (omega (arith, ltb-false y.key o.key g, apart)) (or_right (eqb o.key y.key) (held y.key os) n) w.others)

pub held_past : (k a : ℕ) (os : List Order) → k < a → Up a os → held k os ≡ false
unfolding below
held_past k a os h u = held_absent k [] os refl (up_from os h u)

pub held_without : (k a : ℕ) (os : List Order) → Up a os → held k (without k os) ≡ false
unfolding held without
held_without k a [] u = refl
held_without k a (o ∷ os) u = go (held_without k (suc o.key) os u.1) (eqb o.key k) refl
  where
    go : held k (without k os) ≡ false → (t : Bool) → eqb o.key k ≡ t → held k (cond t os (o ∷ without k os)) ≡ false
    go ih true e = held_past k (suc o.key) os (omega (arith, eqb-true o.key k e)) u.1
    go ih false e = rw e ih

-- what fits, taken apart and put together
pub record Fit (s : Sizes) (os : List Order) : Type 0 where
  pub few : length os ≤ s.orders
  pub room : length (chunks s os) ≤ s.blocks

pub fits_parts : (s : Sizes) (os : List Order) → fits s os ≡ true → Fit s os
unfolding fits
fits_parts s os e = let w = and_parts _ _ e in record { few = leb-true _ _ w.0; room = leb-true _ _ w.1 }

pub fits_make : (s : Sizes) (os : List Order) → length os ≤ s.orders → length (chunks s os) ≤ s.blocks → fits s os ≡ true
unfolding fits
fits_make s os h g = rw (le-leb (length os) s.orders h, le-leb (length (chunks s os)) s.blocks g)

-- with one order fewer it still fits
pub fits_fewer : (s : Sizes) (xs : List Order) (y : Order) (zs : List Order) → 0 < s.nodes → 0 < y.key → fits s (xs ++ y ∷ zs) ≡ true → fits s (xs ++ zs) ≡ true
fits_fewer s xs y zs b p e =
    let w = fits_parts s (xs ++ y ∷ zs) e in
    fits_make s (xs ++ zs) (simp length-append (omega (arith, simp length-append at w.few))) (omega (arith, chunks_more s xs y zs p b, w.room))

pub fits_prefix : (s : Sizes) (xs zs : List Order) → 0 < s.nodes → Up 1 (xs ++ zs) → fits s (xs ++ zs) ≡ true → fits s xs ≡ true
fits_prefix s xs [] b u e = rw append-nil at e
fits_prefix s xs (z ∷ zs) b u e = fits_prefix s xs zs b (up_out xs z zs 1 u) (fits_fewer s xs z zs b (up_past xs z zs 1 u) e)

pub fits_without : (s : Sizes) (k : ℕ) (os : List Order) → 0 < s.nodes → Up 1 os → held k os ≡ true → fits s os ≡ true → fits s (without k os) ≡ true
fits_without s k os b u h e = go (place k 1 os u)
  where
    go : Place k os → fits s (without k os) ≡ true
    go (there xs y zs q p) =
        let v : Up 1 (xs ++ y ∷ zs) = subst (Up 1) q u in
        subst (λ (z : List Order). fits s (without k z) ≡ true) (sym q)
        (subst (λ (n : ℕ). fits s (without n (xs ++ y ∷ zs)) ≡ true) p (rw (without_here xs y zs 1 v) (fits_fewer s xs y zs b (up_past xs y zs 1 v) (rw q at e))))
    go (absent xs zs q f g) = absurd (false≢true (sym (held_absent k xs zs f g) ∙ subst (λ (z : List Order). held k z ≡ true) q h))

-- with the quantities of a held key replaced it fits as before
pub fits_over : (s : Sizes) (o : Order) (os : List Order) → 0 < s.nodes → Up 1 os → held o.key os ≡ true → fits s os ≡ true → fits s (with_order o os) ≡ true
fits_over s o os b u h e = go (place o.key 1 os u)
  where
    go : Place o.key os → fits s (with_order o os) ≡ true
    go (there xs y zs q p) =
        let v : Up 1 (xs ++ y ∷ zs) = subst (Up 1) q u in
        let w = fits_parts s (xs ++ y ∷ zs) (rw q at e) in
        let n : length (xs ++ y ∷ zs) ≡ length (xs ++ o ∷ zs) = simp length-append in
        rw (q, with_old o y xs zs 1 p v)
        (fits_make s (xs ++ o ∷ zs) (omega (arith, w.few, n)) (omega (arith, w.room, chunks_swap s xs y o zs p (up_past xs y zs 1 v) b)))
    go (absent xs zs q f g) = absurd (false≢true (sym (held_absent o.key xs zs f g) ∙ subst (λ (z : List Order). held o.key z ≡ true) q h))

pub amend_has_room : AmendHasRoom
unfolding AmendHasRoom all_yes asks_room
amend_has_room s os o m g e h = rw (h, fits_over s o os (some_nodes s m) (good_up s 1 os g) h e)

-- THE BOOK KEEPS WHAT A TABLE NEEDS
pub record Kept (s : Sizes) (os : List Order) : Type 0 where
  pub good : orders_good s 1 os ≡ true
  pub fit : fits s os ≡ true

pub kept_none : (s : Sizes) → Limits s → Kept s []
unfolding orders_good
kept_none s m = record { good = refl; fit = fits_make s [] (omega arith) (rw (length_chunks s [] m.nodes_some, counts_none (beta s) 1 s) m.blocks_least) }

good_with : (s : Sizes) (o : Order) (os : List Order) → orders_good s 1 os ≡ true → is_key o.key ≡ true → quantities_good s o.total o.displayed o.price ≡ true → orders_good s 1 (with_order o os) ≡ true
unfolding with_order is_key
good_with s o os w a q =
    let k = o.key in
    good_into s 1 o (without k os) (leb-true 1 k (and_left (leb 1 k) (ltb k prime) a)) (and_right (leb 1 k) (ltb k prime) a) q
    (held_without k 1 os (good_up s 1 os w)) (good_without s 1 k os w)

pub kept_enter : (s : Sizes) (k t d p : ℕ) (os : List Order) → Kept s os → book_refusal s (enter k t d p) os ≡ 0 → Kept s (with_order (order k t d p) os)
unfolding book_refusal asks first_no asks_enter asks_order asks_room
kept_enter s k t d p os w e =
    let a = passes 4 (is_key k) _ (passes 13 (price_allowed s p) _ e).1 in
    let q = passes 5 (quantities_good s t d p) _ a.1 in
    let r = passes 12 (not (held k os)) _ q.1 in
    let f = passes 7 (fits s (with_order (order k t d p) os)) 0 (passes 6 (held k os || ltb (length os) s.orders) _ r.1).1 in
    record { good = good_with s (order k t d p) os w.good a.0 q.0; fit = f.0 }

pub kept_amend : (s : Sizes) → Limits s → (k t d p : ℕ) (os : List Order) → Kept s os → book_refusal s (amend k t d p) os ≡ 0 → Kept s (with_order (order k t d p) os)
unfolding book_refusal asks first_no asks_amend asks_order
kept_amend s m k t d p os w e =
    let a = passes 4 (is_key k) _ (passes 13 (price_allowed s p) _ e).1 in
    let q = passes 5 (quantities_good s t d p) _ a.1 in
    let h = passes 8 (held k os) 0 q.1 in
    let o = order k t d p in
    record { good = good_with s o os w.good a.0 q.0; fit = fits_over s o os m.nodes_some (good_up s 1 os w.good) h.0 w.fit }

pub kept_cancel : (s : Sizes) → Limits s → (k : ℕ) (os : List Order) → Kept s os → book_refusal s (cancel k) os ≡ 0 → Kept s (without k os)
unfolding book_refusal asks first_no asks_key
kept_cancel s m k os w e =
    let h = (passes 8 (held k os) 0 (passes 4 (is_key k) _ e).1).0 in
    record { good = good_without s 1 k os w.good; fit = fits_without s k os m.nodes_some (good_up s 1 os w.good) h w.fit }

pub kept_changed : (s : Sizes) → Limits s → (c : Call) (os : List Order) → Kept s os → book_refusal s c os ≡ 0 → Kept s (changed c os)
unfolding changed
kept_changed s m (enter k t d p) os w e = kept_enter s k t d p os w e
kept_changed s m (amend k t d p) os w e = kept_amend s m k t d p os w e
kept_changed s m (cancel k) os w e = kept_cancel s m k os w e
kept_changed s m (lookup k) os w e = w
kept_changed s m (descent k o) os w e = w
kept_changed s m (span lo hi o) os w e = w
kept_changed s m (seek lo hi r) os w e = w
kept_changed s m check os w e = w

pub kept_booked : (s : Sizes) → Limits s → (c : Call) (os : List Order) → Kept s os → Kept s (booked s c os)
unfolding booked
kept_booked s m c os w = go (eqb (book_refusal s c os) 0) refl
  where
    go : (t : Bool) → eqb (book_refusal s c os) 0 ≡ t → Kept s (cond t (changed c os) os)
    go true e = kept_changed s m c os w (eqb-true (book_refusal s c os) 0 e)
    go false e = w

pub kept_book : (s : Sizes) → Limits s → (cs : List Call) (os : List Order) → Kept s os → Kept s (book s cs os)
unfolding book
kept_book s m [] os w = w
kept_book s m (c ∷ cs) os w = kept_book s m cs (booked s c os) (kept_booked s m c os w)
