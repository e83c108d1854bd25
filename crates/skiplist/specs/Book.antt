-- Calls, the plain book, and what a call does to a table. Document 01, "Calls and their questions" and "The plain book"; document 02, A.4: "enter and
-- amend stand in place of put".
use Rattle.std.specs.Prelude.{cond, List, [], ◌∷◌, ◌++◌, ℕ, eqb, length}
use Rattle.sizes.specs.Header.{sizes_in}
use Rattle.sizes.specs.declared.Sizes.{Sizes}
use Rattle.placement.specs.declared.Order.{Order}
use Rattle.skiplist.specs.Image.{image, orders_in}
use Rattle.skiplist.specs.Questions.{Question, first_no, Parameters, asks_make, asks_image, asks_enter, asks_amend, asks_key, asks_span, asks_seek, order, with_order, without}
use Rattle.skiplist.specs.Paths.{asks_descent}

-- the number of a make
unfoldable pub make_refusal : Parameters → (long : ℕ) → ℕ
make_refusal q l = first_no (asks_make q l)

-- EVERY OTHER CALL, with all its arguments; an output is lent with a descent and with a span
pub data Call : Type 0 where
  enter : (key total displayed price : ℕ) → Call
  amend : (key total displayed price : ℕ) → Call
  cancel : (key : ℕ) → Call
  lookup : (key : ℕ) → Call
  descent : (key : ℕ) → (output : List ℕ) → Call
  span : (lo hi : ℕ) → (output : List ℕ) → Call
  seek : (lo hi reserve : ℕ) → Call
  check : Call

-- its questions after 4, asked of a set of orders
unfoldable pub asks : Sizes → Call → List Order → List Question
asks s (enter k t d p) os = asks_enter s k t d p os
asks s (amend k t d p) os = asks_amend s k t d p os
asks s (cancel k) os = asks_key k os
asks s (lookup k) os = asks_key k os
asks s (descent k o) os = asks_descent s k (length o) os
asks s (span lo hi o) os = asks_span s lo hi (length o) os
asks s (seek lo hi r) os = asks_seek lo hi r os
asks s check os = []

-- the set where none turns it down: enter adds the order, amend replaces the one with its key, by a cancel that order goes, a reading changes nothing
unfoldable pub changed : Call → List Order → List Order
changed (enter k t d p) os = with_order (order k t d p) os
changed (amend k t d p) os = with_order (order k t d p) os
changed (cancel k) os = without k os
changed (lookup k) os = os
changed (descent k o) os = os
changed (span lo hi o) os = os
changed (seek lo hi r) os = os
changed check os = os

-- THE PLAIN BOOK: it gets the version, the sizes, the seed and the call, no reply and no byte of the table. Its number for a call, and its set afterwards
unfoldable pub book_refusal : Sizes → Call → List Order → ℕ
book_refusal s c os = first_no (asks s c os)

unfoldable pub booked : Sizes → Call → List Order → List Order
booked s c os = cond (eqb (book_refusal s c os) 0) (changed c os) os

unfoldable pub book : Sizes → List Call → List Order → List Order
book s [] os = os
book s (c ∷ cs) os = book s cs (booked s c os)

-- A CALL ON A TABLE: 4, and then its questions, asked of the orders there. A descent has this number on images alone
unfoldable pub refusal : Call → (table : List ℕ) → ℕ
refusal c bs = first_no (asks_image bs ++ asks (sizes_in bs) c (orders_in bs))

-- the table afterwards: the image of the changed orders, or the very bytes as before
unfoldable pub done : Call → (table : List ℕ) → List ℕ
done c bs = cond (eqb (refusal c bs) 0) (image (sizes_in bs) (changed c (orders_in bs))) bs

unfoldable pub after : List Call → (table : List ℕ) → List ℕ
after [] bs = bs
after (c ∷ cs) bs = after cs (done c bs)
