-- What a `put` of the text program prints and leaves. Document 01, "Calls and their questions", and document 02, A.4. The program keeps to version 1, so the
-- order that a put enters has price 0.
use Rattle.std.specs.Prelude.{◌≡◌, cond, List, ◌++◌, ℕ, eqb}
use Rattle.sizes.specs.Header.{sizes_in}
use Rattle.sizes.specs.declared.Sizes.{Sizes}
use Rattle.placement.specs.declared.Order.{Order}
use Rattle.skiplist.specs.Image.{image, orders_in}
use Rattle.skiplist.specs.Questions.{Question, first_no, held, order, with_order, asks_image, asks_order, asks_room}
use Rattle.skiplist.specs.Book.{Call, enter, amend, refusal, done}

-- document 01's put: 4, then 5, 6, 7, 8; "A put on a held key replaces both quantities". 14 comes in with enter and amend, and always passes
unfoldable pub asks_put : Sizes → (key total displayed : ℕ) → List Order → List Question
asks_put s k t d os = asks_order s k t d 0 ++ asks_room s (order k t d 0) os

unfoldable pub put_refusal : (key total displayed : ℕ) → (table : List ℕ) → ℕ
put_refusal k t d x = first_no (asks_image x ++ asks_put (sizes_in x) k t d (orders_in x))

unfoldable pub put_leaves : (key total displayed : ℕ) → (table : List ℕ) → List ℕ
put_leaves k t d x = cond (eqb (put_refusal k t d x) 0) (image (sizes_in x) (with_order (order k t d 0) (orders_in x))) x

unfoldable pub PutDoes : (key total displayed : ℕ) → (r : ℕ) → (table table_now : List ℕ) → Type 0
PutDoes k t d r x z = (r ≡ put_refusal k t d x) × (z ≡ put_leaves k t d x)

-- "the program's `put` amends a held key and enters any other, so its runs print the same"
unfoldable pub put_call : (key total displayed : ℕ) → (table : List ℕ) → Call
put_call k t d x = cond (held k (orders_in x)) (amend k t d 0) (enter k t d 0)

unfoldable pub AmendsOrEnters : Type 0
AmendsOrEnters = (k t d : ℕ) (x : List ℕ) → (put_refusal k t d x ≡ refusal (put_call k t d x) x) × (put_leaves k t d x ≡ done (put_call k t d x) x)

-- .. 4, 5, 6, then 7, 8, never 9, 13 or 14
unfoldable pub Never9_13Or14 : Type 0
Never9_13Or14 = (k t d : ℕ) (x : List ℕ) → (put_refusal k t d x ≡ 9 → ⊥) × (put_refusal k t d x ≡ 13 → ⊥) × (put_refusal k t d x ≡ 14 → ⊥)
