-- The three demands over whole lists of calls, by the very predicates that the calls' contracts cite. Document 00, and document 01, "The plain book".
-- Each statement is a type; its proof stands in proofs/.
use Rattle.std.specs.Prelude.{◌≡◌, Bool, true, not, ◌&&◌, ◌||◌, List, [], ◌∷◌, ℕ, suc, ◌≤◌, ltb, eqb, length}
use Rattle.sizes.specs.Sizes.{row, made}
use Rattle.sizes.specs.Header.{table_long, sizes_in}
use Rattle.sizes.specs.declared.Sizes.{Sizes}
use Rattle.placement.specs.Blocks.{Among}
use Rattle.placement.specs.declared.Order.{Order}
use Rattle.skiplist.specs.Image.{image, is_image, orders_in, orders_good}
use Rattle.skiplist.specs.Questions.{first_no, Parameters, sizes, held, between, reserve, enough, any_order, lowest, order}
use Rattle.skiplist.specs.Paths.{descent_path}
use Rattle.skiplist.specs.Book.{Call, enter, amend, cancel, lookup, descent, span, seek, check, make_refusal, book_refusal, book}
use Rattle.skiplist.specs.Rules.{Rules}
use Rattle.skiplist.specs.Promise.{byte_list}
use Rattle.table.specs.Calls.{MakeSays, check_number, EnterSays, AmendSays, CancelSays, order_of, LookSays, LookAs, asks_first, DescentSays, DescentAs, SpanSays, SpanAs, SeekSays, SeekAs}
use Rattle.table.specs.declared.Reply.{Reply}

-- WHAT A CALL DOES TO A TABLE, by its contract alone. A reading leaves the table
unfoldable pub Does : Call → (table table_now : List ℕ) → Type 0
Does (enter k t d p) x z = (r : ℕ) × EnterSays k t d p r x z
Does (amend k t d p) x z = (r : ℕ) × AmendSays k t d p r x z
Does (cancel k) x z = (r : ℕ) × CancelSays k r x z
Does (lookup k) x z = (r : Reply) × LookSays x k r × (z ≡ x)
Does (descent k o) x z = (r : Reply) × (now : List ℕ) × DescentSays x k r o now × (z ≡ x)
Does (span lo hi o) x z = (r : Reply) × (now : List ℕ) × SpanSays x lo hi r o now × (z ≡ x)
Does (seek lo hi l) x z = (r : Reply) × SeekSays x lo hi l r × (z ≡ x)
Does check x z = (r : ℕ) × (r ≡ check_number x) × (z ≡ x)

-- each call gets its table as the call before left it
unfoldable pub Runs : List Call → (table table_now : List ℕ) → Type 0
Runs [] x z = z ≡ x
Runs (c ∷ cs) x z = (y : List ℕ) × Does c x y × Runs cs y z

-- a table that a successful make has written, whatever bytes it had before
unfoldable pub MadeBy : Parameters → (table : List ℕ) → Type 0
MadeBy q x = (old : List ℕ) × MakeSays q 0 old x

-- the same orders and quantities, said of every key and not of lists
unfoldable pub SameOrders : (one other : List Order) → Type 0
SameOrders os qs = (k : ℕ) → (held k os ≡ held k qs) × (order_of k os ≡ order_of k qs)

-- DEMAND 3: each table is the image of what its list leaves by the plain book, and the tables are equal exactly when the orders are
pub record Third (s : Sizes) (cs ds : List Call) (v w : List ℕ) : Type 0 where
  pub one : v ≡ image s (book s cs [])
  pub other : w ≡ image s (book s ds [])
  pub equal_then : v ≡ w → SameOrders (book s cs []) (book s ds [])
  pub then_equal : SameOrders (book s cs []) (book s ds []) → v ≡ w

unfoldable pub Demand3 : Type 0
Demand3 =
    (q : Parameters) (x y : List ℕ) (cs ds : List Call) (v w : List ℕ) → MadeBy q x → MadeBy q y → Runs cs x v → Runs ds y w → Third (sizes q) cs ds v w

-- numbers of 32 bits and bytes: what a program can hand over
unfoldable pub word : ℕ → Bool
word x = ltb x 4294967296

unfoldable pub in_range : Call → Bool
in_range (enter k t d p) = word k && (word t && (word d && word p))
in_range (amend k t d p) = word k && (word t && (word d && word p))
in_range (cancel k) = word k
in_range (lookup k) = word k
in_range (descent k o) = word k && byte_list o
in_range (span lo hi o) = word lo && (word hi && byte_list o)
in_range (seek lo hi l) = word lo && (word hi && word l)
in_range check = true

unfoldable pub all_in_range : List Call → Bool
all_in_range [] = true
all_in_range (c ∷ cs) = in_range c && all_in_range cs

unfoldable pub asked_in_range : Parameters → Bool
asked_in_range q = (word q.version && (word q.gamma && (word q.nodes && (word q.orders && word q.blocks)))) && byte_list q.seed

-- some make and list give these bytes, with numbers that a program can hand over
pub record Given (bs : List ℕ) : Type 0 where
  pub asked : Parameters
  pub table : List ℕ
  pub calls : List Call
  pub makes : MadeBy asked table
  pub runs : Runs calls table bs
  pub make_in_range : asked_in_range asked ≡ true
  pub calls_in_range : all_in_range calls ≡ true

-- what the check answers, by its contract, is 0 exactly for such bytes; no range is asked of what gives them
unfoldable pub Demand3Check : Type 0
Demand3Check =
    (bs : List ℕ) (r : ℕ) → r ≡ check_number bs →
    (r ≡ 0 → Given bs) × ((q : Parameters) (x : List ℕ) (cs : List Call) → MadeBy q x → Runs cs x bs → r ≡ 0)

-- the contracts can be met: every list of calls has a run from every table
unfoldable pub RunsExist : Type 0
RunsExist = (cs : List Call) (x : List ℕ) → (z : List ℕ) × Runs cs x z

-- WHAT COMES BACK of a call besides the table: a number alone, a reply, or a reply and the output that was lent
pub data Answer : Type 0 where
  alone : (number : ℕ) → Answer
  whole : Reply → Answer
  lent : Reply → (output_now : List ℕ) → Answer

unfoldable pub number_in : Answer → ℕ
number_in (alone n) = n
number_in (whole r) = r.number
number_in (lent r o) = r.number

unfoldable pub answer : (c : Call) (table table_now : List ℕ) → Does c table table_now → Answer
unfolding Does
answer (enter k t d p) x z w = alone w.0
answer (amend k t d p) x z w = alone w.0
answer (cancel k) x z w = alone w.0
answer (lookup k) x z w = whole w.0
answer (descent k o) x z w = lent w.0 w.1
answer (span lo hi o) x z w = lent w.0 w.1
answer (seek lo hi l) x z w = whole w.0
answer check x z w = alone w.0

unfoldable pub answers : (cs : List Call) (table table_now : List ℕ) → Runs cs table table_now → List Answer
unfolding Runs
answers [] x z w = []
answers (c ∷ cs) x z w = answer c x w.0 w.1 ∷ answers cs w.0 z w.2

-- Document 01, "Contracts": "what none decides is named there". On an image definitions decide every answer; on other bytes, too, all but those of a descent
-- that its 4 and 5 let pass
unfoldable pub decided : Call → (table : List ℕ) → Bool
decided (enter k t d p) x = true
decided (amend k t d p) x = true
decided (cancel k) x = true
decided (lookup k) x = true
decided (descent k o) x = not (eqb (first_no (asks_first x k)) 0)
decided (span lo hi o) x = true
decided (seek lo hi l) x = true
decided check x = true

-- EQUAL TABLES AND ARGUMENTS GIVE EQUAL ANSWERS: number, reply and output
unfoldable pub RepliesFixed : Type 0
RepliesFixed =
    (c : Call) (x v w : List ℕ) (one : Does c x v) (other : Does c x w) → (is_image x || decided c x) ≡ true → answer c x v one ≡ answer c x w other

unfoldable pub MakeFixed : Type 0
MakeFixed = (q : Parameters) (old v w : List ℕ) (n m : ℕ) → MakeSays q n old v → MakeSays q m old w → (n ≡ m) × (v ≡ w)

-- so the contracts fix what a run leaves, and from an image on every answer in it
unfoldable pub RunsFixed : Type 0
RunsFixed =
    (cs : List Call) (x v w : List ℕ) (one : Runs cs x v) (other : Runs cs x w) →
    (v ≡ w) × (is_image x ≡ true → answers cs x v one ≡ answers cs x w other)

-- MAKE reaches every allowed sizes and seed, with numbers that a program can hand over, and accepts no others
unfoldable pub MakeReaches : Type 0
MakeReaches = (s : Sizes) → made s ≡ true → (q : Parameters) × (asked_in_range q ≡ true) × (sizes q ≡ s) × (make_refusal q (table_long s) ≡ 0)

unfoldable pub MakeOnly : Type 0
MakeOnly = (q : Parameters) (old x : List ℕ) → MakeSays q 0 old x → (made (sizes q) ≡ true) × (x ≡ image (sizes q) []) × (length x ≡ length old)

-- AFTER ANY LIST of calls on a table just made: of the sizes, the plain book's orders and the table
abbrev pub AfterAny : (Sizes → List Order → (table : List ℕ) → Type 0) → Type 0
AfterAny P = (q : Parameters) (x z : List ℕ) (cs : List Call) → MadeBy q x → Runs cs x z → P (sizes q) (book (sizes q) cs []) z

-- DEMAND 2: after any list the table obeys the published rules and holds exactly the orders of the plain book
unfoldable pub Demand2Rules : Type 0
Demand2Rules = AfterAny Rules

-- read back, it gives those orders and quantities: by number, by span, by seek
unfoldable pub Demand2Lookup : Type 0
Demand2Lookup = AfterAny (λ s os z. (k : ℕ) (r : Reply) → LookSays z k r → LookAs (book_refusal s (lookup k) os) 0 k os r)

-- a lookup that succeeds repeats the key: the order with a key has it
unfoldable pub OrderHasKey : Type 0
OrderHasKey = (k : ℕ) (os : List Order) → held k os ≡ true → (order_of k os).key ≡ k

-- .. by descent, with its path
unfoldable pub Demand2Descent : Type 0
Demand2Descent =
    AfterAny
    (λ s os z.
    (k : ℕ) (r : Reply) (o now : List ℕ) → DescentSays z k r o now → DescentAs (book_refusal s (descent k o) os) k os (descent_path s os k) r o now)

-- "On an image, unless 11 turns it down, its quantities equal those of the plain lookup"
unfoldable pub DescentLooksUp : Type 0
DescentLooksUp =
    (x : List ℕ) (k : ℕ) (r q : Reply) (o now : List ℕ) → is_image x ≡ true → DescentSays x k r o now → (r.number ≡ 11 → ⊥) → LookSays x k q →
    (r.number ≡ q.number) × (r.key ≡ q.key) × (r.total ≡ q.total) × (r.displayed ≡ q.displayed) × (r.price ≡ q.price)

unfoldable pub Demand2Span : Type 0
Demand2Span =
    AfterAny (λ s os z. (lo hi : ℕ) (r : Reply) (o now : List ℕ) → SpanSays z lo hi r o now → SpanAs (row s) (book_refusal s (span lo hi o) os) (between lo hi os) r o now)

-- "the order with the smallest key in lo..hi that has the reserve", said of every order that the table holds
pub record Lowest (os : List Order) (lo hi least : ℕ) (o : Order) : Type 0 where
  pub held : Among o os
  pub inside : (lo ≤ o.key) × (o.key ≤ hi)
  pub has : least ≤ reserve o
  pub smallest : (q : Order) → Among q os → lo ≤ q.key → q.key ≤ hi → least ≤ reserve q → o.key ≤ q.key

unfoldable pub SeekLowest : Type 0
SeekLowest =
    (x : List ℕ) (lo hi l : ℕ) (r : Reply) → SeekSays x lo hi l r → r.number ≡ 0 → Lowest (orders_in x) lo hi l (order r.key r.total r.displayed r.price)

-- whoever seeks again from the key behind it on gets them all, by rising keys
unfoldable pub SeekNext : Type 0
SeekNext =
    (s : Sizes) (os : List Order) (lo hi l : ℕ) → orders_good s 1 os ≡ true → any_order (enough l (between lo hi os)) ≡ true →
    enough l (between lo hi os) ≡ lowest (enough l (between lo hi os)) ∷ enough l (between (suc (lowest (enough l (between lo hi os))).key) hi os)

-- Document 02, A.6: "Version 1 tables live on ..; their price is 0"; in version 2 no order is without one
unfoldable pub PricesAre : Type 0
PricesAre =
    (x : List ℕ) → is_image x ≡ true → (o : Order) → Among o (orders_in x) → ((sizes_in x).version ≡ 1 → o.price ≡ 0) × (((sizes_in x).version ≡ 1 → ⊥) → 1 ≤ o.price)

unfoldable pub Demand2Seek : Type 0
Demand2Seek = AfterAny (λ s os z. (lo hi l : ℕ) (r : Reply) → SeekSays z lo hi l r → SeekAs (book_refusal s (seek lo hi l) os) os lo hi l r)

-- DEMAND 1 after any list: no call meets 4, and each answers the number that the plain book has for it
unfoldable pub Demand1 : Type 0
Demand1 = AfterAny (λ s os z. (c : Call) (y : List ℕ) (w : Does c z y) → number_in (answer c z y w) ≡ book_refusal s c os)
