-- What each call answers and leaves behind. Document 01, "Calls and their questions" and "Contracts".
use Rattle.std.specs.Prelude.{◌≡◌, true, ◌||◌, cond, List, [], ◌∷◌, ◌++◌, ℕ, zero, suc, ◌*◌, ◌≤◌, eqb, length, drop}
use Rattle.sizes.specs.Sizes.{row}
use Rattle.sizes.specs.Header.{sizes_in, rule_1}
use Rattle.placement.specs.Chunks.{nodes_bytes}
use Rattle.placement.specs.declared.Order.{Order}
use Rattle.skiplist.specs.Image.{image, is_image, orders_in}
use Rattle.skiplist.specs.Questions.{Question, ask, first_no, is_key, Parameters, sizes, between, enough, lowest}
use Rattle.skiplist.specs.Paths.{descent_path, path_bytes}
-- passed on: a contract of make builds what it is asked from its arguments
pub use Rattle.skiplist.specs.Questions.{parameters}
use Rattle.skiplist.specs.Book.{Call, enter, amend, cancel, lookup, descent, span, seek, check, make_refusal, refusal, done}
use Rattle.table.specs.declared.Reply.{Reply}

-- every part of an answer; on a refusal all other parts are 0
abbrev pub reply : (number key total displayed price count : ℕ) → Reply
reply n k t d p c = record { number = n; key = k; total = t; displayed = d; price = p; count = c }

-- one that gives an order, where no question turns the call down. Document 02, A.6: "Lookup, descent and seek give the price too"
unfoldable pub gives : (number count : ℕ) → Order → Reply
gives zero c o = reply 0 o.key o.total o.displayed o.price c
gives (suc n) c o = reply (suc n) 0 0 0 0 c

-- MAKE: 1, 2, 3; then every byte is that of the image of no orders
unfoldable pub MakeSays : Parameters → (r : ℕ) → (table table_now : List ℕ) → Type 0
MakeSays q r x z = (r ≡ make_refusal q (length x)) × (z ≡ cond (eqb (make_refusal q (length x)) 0) (image (sizes q) []) x)

-- CHECK: 4
unfoldable pub check_number : (table : List ℕ) → ℕ
check_number x = refusal check x

-- ENTER, AMEND and CANCEL: 4, then 14, 5, 6, 13, 7, 8, or 14, 5, 6, 9, or 5, 9; the table is the image of the orders as they change them
unfoldable pub EditSays : Call → (r : ℕ) → (table table_now : List ℕ) → Type 0
EditSays c r x z = (r ≡ refusal c x) × (z ≡ done c x)

unfoldable pub EnterSays : (key total displayed price : ℕ) → (r : ℕ) → (table table_now : List ℕ) → Type 0
EnterSays k t d p r x z = EditSays (enter k t d p) r x z

unfoldable pub AmendSays : (key total displayed price : ℕ) → (r : ℕ) → (table table_now : List ℕ) → Type 0
AmendSays k t d p r x z = EditSays (amend k t d p) r x z

unfoldable pub CancelSays : (key : ℕ) → (r : ℕ) → (table table_now : List ℕ) → Type 0
CancelSays k r x z = EditSays (cancel k) r x z

-- LOOKUP: 4, 5, 9; the order with the key
unfoldable pub order_of : (key : ℕ) → List Order → Order
order_of k os = lowest (between k k os)

unfoldable pub LookAs : (number count : ℕ) → (key : ℕ) → List Order → Reply → Type 0
LookAs n c k os r = r ≡ gives n c (order_of k os)

unfoldable pub LookSays : (table : List ℕ) → (key : ℕ) → Reply → Type 0
LookSays x k r = LookAs (refusal (lookup k) x) 0 k (orders_in x) r

-- DESCENT. Document 02, A.1. "Its first question is only whether rule 1 of an image holds, else 4; then come 5, 11 and 9"
unfoldable pub asks_first : (table : List ℕ) → (key : ℕ) → List Question
asks_first x k = ask 4 (rule_1 x) ∷ ask 5 (is_key k) ∷ []

-- what it writes of its path: "it is written for a key that is not held too, before 9, which is the one refusal that writes"
unfoldable pub shown : (number : ℕ) → (path : List ℕ) → List ℕ
shown n path = cond (eqb n 0 || eqb n 9) path []

-- on an image: the quantities and the price as a lookup has them, the blocks of the path at the front of the output, and how many they are
unfoldable pub DescentAs : (number : ℕ) → (key : ℕ) → List Order → (path : List ℕ) → Reply → (output output_now : List ℕ) → Type 0
DescentAs n k os path r o z =
    LookAs n (length (shown n path)) k os r × (z ≡ path_bytes (shown n path) ++ drop (2 * length (shown n path)) o)

-- on any bytes: it stays within its output, and "output bytes beyond them keep their values"
pub record Within (r : Reply) (output output_now : List ℕ) : Type 0 where
  pub long : length output_now ≡ length output
  pub room : 2 * r.count ≤ length output
  pub behind : drop (2 * r.count) output_now ≡ drop (2 * r.count) output

-- 4 and 5 on any bytes; then all that an image decides. "On bytes that pass 4 and 5 here but are no image it ends and stays within its output"
pub record DescentSays (table : List ℕ) (key : ℕ) (r : Reply) (output output_now : List ℕ) : Type 0 where
  pub turned_down : (first_no (asks_first table key) ≡ 0 → ⊥) → (r ≡ reply (first_no (asks_first table key)) 0 0 0 0 0) × (output_now ≡ output)
  pub on_image : is_image table ≡ true →
      DescentAs (refusal (descent key output) table) key (orders_in table) (descent_path (sizes_in table) (orders_in table) key) r output output_now
  pub within : Within r output output_now

-- SPAN: 4, 5, 10, 11; a row of w bytes of each order in lo..hi, rising, at the front of the output, and their number. Document 02, A.6: "Version 1 tables live on
-- with all calls and 12-byte rows"; "Span rows in version 2 have 16 bytes"
unfoldable pub SpanAs : (w number : ℕ) → List Order → Reply → (output output_now : List ℕ) → Type 0
SpanAs w zero os r o z = (r ≡ reply 0 0 0 0 0 (length os)) × (z ≡ nodes_bytes w os ++ drop (w * length os) o)
SpanAs w (suc n) os r o z = (r ≡ reply (suc n) 0 0 0 0 0) × (z ≡ o)

unfoldable pub SpanSays : (table : List ℕ) → (lo hi : ℕ) → Reply → (output output_now : List ℕ) → Type 0
SpanSays x lo hi r o z = SpanAs (row (sizes_in x)) (refusal (span lo hi o) x) (between lo hi (orders_in x)) r o z

-- SEEK: 4, 5, 10, 12. Document 02, A.5: "the order with the smallest key in lo..hi that has the reserve"
unfoldable pub SeekAs : (number : ℕ) → List Order → (lo hi least : ℕ) → Reply → Type 0
SeekAs n os lo hi l r = r ≡ gives n 0 (lowest (enough l (between lo hi os)))

unfoldable pub SeekSays : (table : List ℕ) → (lo hi least : ℕ) → Reply → Type 0
SeekSays x lo hi l r = SeekAs (refusal (seek lo hi l) x) (orders_in x) lo hi l r
