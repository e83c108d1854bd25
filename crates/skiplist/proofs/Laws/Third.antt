-- Calls on a table, from what an image reads back as: the table that they leave is the image of what the plain book leaves.
use mathlib.Core.Path.{◌≡◌, refl, sym, ap, ◌∙◌}
use mathlib.Core.Bool.{Bool, true, false, ◌&&◌, cond, false≢true}
use mathlib.Core.List.{List, [], ◌∷◌, ◌++◌, append_assoc, append-nil}
use Prim.Native.Nat.{ℕ, suc, ◌<◌}
use native.Mathlib.Omega.{arith}
use borrow.Author.Tests.{eqb-true, le-leb, lt-ltb}
use lib.Dec.{leb, eqb}
use lib.ListN.{length, length-append}
use Rattle.sizes.specs.Numbers.{field, rows_in}
use Rattle.sizes.specs.Sizes.{sizes_good, seed_good, made}
use Rattle.sizes.specs.Header.{table_long, sizes_in, held_in, rule_1}
use Rattle.sizes.specs.declared.Sizes.{Sizes}
use Rattle.placement.specs.declared.Order.{Order}
use Rattle.placement.proofs.Laws.Cells.{cond_out}
use Rattle.skiplist.specs.Image.{image, orders_in, price_good, quantities_good, orders_good, fits, same, is_image}
use Rattle.skiplist.specs.Questions.{first_no, is_key, held, price_allowed, asks_image, asks_order, asks_room, asks_enter}
use Rattle.skiplist.specs.Book.{Call, enter, asks, changed, book_refusal, booked, book, refusal, done, after}
use Rattle.skiplist.specs.Promise.{ImageReadsBack, ListsImage, EqualExactly, ChecksExactly}
use Rattle.skiplist.proofs.Laws.Questions.{passes}
use Rattle.skiplist.proofs.Laws.Parts.{and_left, and_right, up_past, Good, good_parts, good_up, below_here}
use Rattle.skiplist.proofs.Laws.Shapes.{held_absent, with_new}
use Rattle.skiplist.proofs.Laws.Kept.{fits_parts, fits_prefix, Kept, kept_none, kept_booked, kept_book}
use Rattle.sizes.proofs.Laws.Sizes.{Limits, limits}

-- a list of calls that enters some orders
unfoldable pub enters : List Order → List Call
enters [] = []
enters (o ∷ os) = enter o.key o.total o.displayed o.price ∷ enters os

pub good_at : (s : Sizes) (xs : List Order) (z : Order) (zs : List Order) (a : ℕ) → orders_good s a (xs ++ z ∷ zs) ≡ true → Good s 0 z zs
good_at s [] z zs a e = let w = good_parts s a z zs e in record { from = omega arith; key = w.key; quantity = w.quantity; others = w.others }
good_at s (x ∷ xs) z zs a e = good_at s xs z zs (suc x.key) (good_parts s a x (xs ++ z ∷ zs) e).others

-- a price that a good order has passes 14
pub price_passes : (s : Sizes) (t d p : ℕ) → quantities_good s t d p ≡ true → price_allowed s p ≡ true
unfolding quantities_good price_good price_allowed
price_passes s t d p e =
    go (eqb s.version 1) (and_left (price_good s p) (leb p 4294967295) (and_right ((leb 1 t && leb t 4294967295) && leb d t) (price_good s p && leb p 4294967295) e))
  where
    go : (v : Bool) → cond v (eqb p 0) (leb 1 p) ≡ true → cond v (eqb p 0) true ≡ true
    go true h = h
    go false h = refl

-- one more order, above all held
pub booked_last : (s : Sizes) (xs : List Order) (z : Order) (zs : List Order) → Limits s → orders_good s 1 (xs ++ z ∷ zs) ≡ true → fits s (xs ++ z ∷ []) ≡ true →
    booked s (enter z.key z.total z.displayed z.price) xs ≡ xs ++ z ∷ []
unfolding booked book_refusal asks changed first_no asks_enter asks_order asks_room is_key
booked_last s xs z zs m g f =
    let u = good_up s 1 (xs ++ z ∷ zs) g in
    let w = good_at s xs z zs 1 g in
    let v = below_here xs z zs 1 u in
    let free : held z.key xs ≡ false = rw append-nil at (held_absent z.key xs [] v tt) in
    let n : length xs < s.orders = omega (arith, simp length-append at (fits_parts s (xs ++ z ∷ []) f).few) in
    rw (price_passes s z.total z.displayed z.price w.quantity, le-leb 1 z.key (up_past xs z zs 1 u), w.key, w.quantity, free, lt-ltb (length xs) s.orders n, rw append-nil at (with_new z xs [] v tt), f)

pub book_enters : (s : Sizes) (zs xs : List Order) → Limits s → orders_good s 1 (xs ++ zs) ≡ true → fits s (xs ++ zs) ≡ true → book s (enters zs) xs ≡ xs ++ zs
unfolding book enters
book_enters s [] xs m g f = sym (append-nil xs)
book_enters s (z ∷ zs) xs m g f =
    let e : xs ++ z ∷ [] ++ zs ≡ xs ++ z ∷ zs = append_assoc xs (z ∷ []) zs in
    let g' : orders_good s 1 (xs ++ z ∷ [] ++ zs) ≡ true = rw e g in
    let f' : fits s (xs ++ z ∷ [] ++ zs) ≡ true = rw e f in
    ap (book s (enters zs)) (booked_last s xs z zs m g (fits_prefix s (xs ++ z ∷ []) zs m.nodes_some (good_up s 1 (xs ++ z ∷ [] ++ zs) g') f'))
    ∙ book_enters s zs (xs ++ z ∷ []) m g' f' ∙ e

pub same_is : (a b : List ℕ) → same a b ≡ true → a ≡ b
unfolding same
same_is [] [] e = refl
same_is [] (y ∷ ys) e = absurd (false≢true e)
same_is (x ∷ xs) [] e = absurd (false≢true e)
same_is (x ∷ xs) (y ∷ ys) e =
    rw (eqb-true x y (and_left (eqb x y) (same xs ys) e), same_is xs ys (and_right (eqb x y) (same xs ys) e))

seven : (a b c r d f g : Bool) → (a && (b && (c && r)) && (d && f && g)) ≡ true → (b ≡ true) × (c ≡ true) × (d ≡ true) × (f ≡ true) × (g ≡ true)
seven a b c r d f g x =
    let p = and_right a (b && (c && r)) (and_left (a && (b && (c && r))) (d && f && g) x) in
    let q = and_right (a && (b && (c && r))) (d && f && g) x in
    let o = and_left (d && f) g q in
    (and_left b (c && r) p, and_left c r (and_right b (c && r) p), and_left d f o, and_right d f o, and_right (d && f) g q)

-- what question 4 tells
pub record ImageOf (bs : List ℕ) : Type 0 where
  pub sizes_made : made (sizes_in bs) ≡ true
  pub orders_kept : Kept (sizes_in bs) (orders_in bs)
  pub bytes : image (sizes_in bs) (orders_in bs) ≡ bs

ten : (bs : List ℕ) → eqb (length (sizes_in bs).seed) 10 ≡ true
unfolding sizes_in rows_in
ten bs = refl

pub image_parts : (bs : List ℕ) → is_image bs ≡ true → ImageOf bs
unfolding is_image rule_1 made
image_parts bs e =
    let s = sizes_in bs in
    let os = orders_in bs in
    let w =
    seven (leb 53 (length bs)) (sizes_good s) (seed_good s.seed)
    (eqb (field 1 4 bs) (table_long s) && (eqb (length bs) (table_long s) && leb (held_in bs) s.orders)) (orders_good s 1 os) (fits s os)
    (same (image s os) bs) e in
    record { sizes_made = rw (w.0, w.1) (ten bs); orders_kept = record { good = w.2; fit = w.3 }; bytes = same_is (image s os) bs w.4 }

-- no question turns the call down: the bytes are an image, and the plain book takes it too
pub taken : (c : Call) (x : List ℕ) → refusal c x ≡ 0 → (is_image x ≡ true) × (book_refusal (sizes_in x) c (orders_in x) ≡ 0)
unfolding refusal book_refusal first_no asks_image
taken c x e = passes 3 (is_image x) _ e

-- A READING leaves the very bytes: they are the image of the orders that they hold
pub done_same : (c : Call) (x : List ℕ) → changed c (orders_in x) ≡ orders_in x → done c x ≡ x
unfolding done
done_same c x e = go (eqb (refusal c x) 0) refl
  where
    go : (t : Bool) → eqb (refusal c x) 0 ≡ t → cond t (image (sizes_in x) (changed c (orders_in x))) x ≡ x
    go true h = ap (image (sizes_in x)) e ∙ (image_parts x (taken c x (eqb-true (refusal c x) 0 h)).0).bytes
    go false h = refl

-- A CALL ON AN IMAGE, where images read back
module _ (reads : ImageReadsBack) where
  pub done_image : (s : Sizes) (c : Call) (os : List Order) → made s ≡ true → Kept s os → done c (image s os) ≡ image s (booked s c os)
  unfolding ImageReadsBack done refusal booked book_refusal first_no asks_image
  done_image s c os m w =
      let r = reads s os m w.good w.fit in
      rw (r.0, r.1, r.2) (cond_out (image s) (eqb (first_no (asks s c os)) 0) (changed c os) os)

  pub after_image : (s : Sizes) (cs : List Call) (os : List Order) → made s ≡ true → Kept s os → after cs (image s os) ≡ image s (book s cs os)
  unfolding after book
  after_image s [] os m w = refl
  after_image s (c ∷ cs) os m w = rw (done_image s c os m w) (after_image s cs (booked s c os) m (kept_booked s (limits s m) c os w))

  pub lists_image : ListsImage
  unfolding ListsImage
  lists_image s cs m = after_image s cs [] m (kept_none s (limits s m))

  pub equal_exactly : EqualExactly
  unfolding EqualExactly ListsImage ImageReadsBack
  equal_exactly s cs ds m =
      let k : (es : List Call) → Kept s (book s es []) = λ es. kept_book s (limits s m) es [] (kept_none s (limits s m)) in
      let r : (es : List Call) → orders_in (image s (book s es [])) ≡ book s es [] = λ es. (reads s (book s es []) m (k es).good (k es).fit).1 in (
        λ e. sym (r cs) ∙ ap orders_in (sym (lists_image s cs m) ∙ e ∙ lists_image s ds m) ∙ r ds,
        λ e. lists_image s cs m ∙ ap (image s) e ∙ sym (lists_image s ds m),
      )

  pub checks_exactly : ChecksExactly
  unfolding ChecksExactly ListsImage ImageReadsBack
  checks_exactly bs b = (
    λ e.
        let w = image_parts bs e in
        let s = sizes_in bs in
        let os = orders_in bs in (
          s,
          enters os,
          w.sizes_made,
          lists_image s (enters os) w.sizes_made ∙ rw (book_enters s os [] (limits s w.sizes_made) w.orders_kept.good w.orders_kept.fit) w.bytes,
        ),
    λ s cs m e.
        let k = kept_book s (limits s m) cs [] (kept_none s (limits s m)) in
        rw (← e, lists_image s cs m) (reads s (book s cs []) m k.good k.fit).0,
  )
