-- The contracts can be met: every call has an answer, on every table. The number of every answer. And the contracts leave nothing open: equal tables and
-- arguments give equal answers, call by call and over whole runs.
use mathlib.Core.Path.{◌≡◌, refl, sym, ap, ◌∙◌, subst}
use mathlib.Core.Bool.{Bool, true, false, not, ◌||◌, false≢true}
use mathlib.Core.List.{List, [], ◌∷◌}
use Prim.Native.Nat.{ℕ, zero, suc}
use borrow.Author.Tests.{eqb-false}
use lib.Dec.{eqb}
use Rattle.sizes.specs.Sizes.{row}
use Rattle.sizes.specs.Header.{sizes_in}
use Rattle.placement.specs.declared.Order.{Order}
use Rattle.skiplist.specs.Image.{is_image, orders_in}
use Rattle.skiplist.specs.Questions.{first_no, between}
use Rattle.skiplist.specs.Book.{Call, enter, amend, cancel, lookup, descent, span, seek, check, refusal, done}
use Rattle.table.specs.Calls.{MakeSays, check_number, EditSays, EnterSays, AmendSays, CancelSays, LookSays, LookAs, asks_first, DescentAs, DescentSays, SpanSays, SpanAs, SeekSays, SeekAs}
use Rattle.table.specs.Promise.{Does, Runs, RunsExist, alone, whole, lent, number_in, answer, answers, decided, RepliesFixed, MakeFixed, RunsFixed}
use Rattle.table.specs.declared.Reply.{Reply}
use Rattle.table.proofs.Laws.Runs.{does_done, runs_after, stays_image}
use Rattle.table.proofs.Laws.Descents.{number_is, descent_some}

-- AN ANSWER to every call
span_some : (w n : ℕ) (os : List Order) (o : List ℕ) → (r : Reply) × (z : List ℕ) × SpanAs w n os r o z
unfolding SpanAs
span_some w zero os o = (_, _, (refl, refl))
span_some w (suc n) os o = (_, _, (refl, refl))

does_some : (c : Call) (x : List ℕ) → (z : List ℕ) × Does c x z
unfolding Does EnterSays AmendSays CancelSays EditSays LookSays LookAs SpanSays SeekSays SeekAs
does_some (enter k t d p) x = (done (enter k t d p) x, (refusal (enter k t d p) x, (refl, refl)))
does_some (amend k t d p) x = (done (amend k t d p) x, (refusal (amend k t d p) x, (refl, refl)))
does_some (cancel k) x = (done (cancel k) x, (refusal (cancel k) x, (refl, refl)))
does_some (lookup k) x = (x, (_, refl, refl))
does_some (descent k o) x = let w = descent_some x k o in (x, (w.0, w.1, w.2, refl))
does_some (span lo hi o) x = let w = span_some (row (sizes_in x)) (refusal (span lo hi o) x) (between lo hi (orders_in x)) o in (x, (w.0, w.1, w.2, refl))
does_some (seek lo hi l) x = (x, (_, refl, refl))
does_some check x = (x, (check_number x, refl, refl))

pub runs_exist : RunsExist
unfolding RunsExist Runs
runs_exist [] x = (x, refl)
runs_exist (c ∷ cs) x = let w = does_some c x in let v = runs_exist cs w.0 in (v.0, (w.0, w.1, v.1))

-- THE NUMBER of an answer
pub span_number : (v n : ℕ) (os : List Order) (r : Reply) (o z : List ℕ) → SpanAs v n os r o z → r.number ≡ n
unfolding SpanAs
span_number v zero os r o z w = rw w.0
span_number v (suc n) os r o z w = rw w.0

pub number_told : (c : Call) (x z : List ℕ) (w : Does c x z) → is_image x ≡ true → number_in (answer c x z w) ≡ refusal c x
unfolding Does answer number_in EnterSays AmendSays CancelSays EditSays check_number LookSays LookAs DescentAs SpanSays SeekSays SeekAs
number_told (enter k t d p) x z w i = w.1.0
number_told (amend k t d p) x z w i = w.1.0
number_told (cancel k) x z w i = w.1.0
number_told (lookup k) x z w i = number_is (refusal (lookup k) x) 0 _ w.0 w.1
number_told (descent k o) x z w i = number_is (refusal (descent k o) x) _ _ w.0 (w.2.on_image i).0
number_told (span lo hi o) x z w i = span_number (row (sizes_in x)) (refusal (span lo hi o) x) _ w.0 o w.1 w.2
number_told (seek lo hi l) x z w i = number_is (refusal (seek lo hi l) x) 0 _ w.0 w.1
number_told check x z w i = w.1

-- TWO ANSWERS to one span, and to one descent
both : {r q p : Reply} {y z x : List ℕ} → (r ≡ p) × (y ≡ x) → (q ≡ p) × (z ≡ x) → lent r y ≡ lent q z
both v w = λ i. lent ((v.0 ∙ sym w.0) i) ((v.1 ∙ sym w.1) i)

span_fixed : (k n : ℕ) (os : List Order) (r q : Reply) (o y z : List ℕ) → SpanAs k n os r o y → SpanAs k n os q o z → lent r y ≡ lent q z
unfolding SpanAs
span_fixed k zero os r q o y z v w = both v w
span_fixed k (suc n) os r q o y z v w = both v w

descent_fixed : (x : List ℕ) (k : ℕ) (r q : Reply) (o y z : List ℕ) → DescentSays x k r o y → DescentSays x k q o z →
    (is_image x || not (eqb (first_no (asks_first x k)) 0)) ≡ true → lent r y ≡ lent q z
unfolding DescentAs LookAs
descent_fixed x k r q o y z v w h = go (is_image x) refl (eqb (first_no (asks_first x k)) 0) refl h
  where
    go : (a : Bool) → is_image x ≡ a → (b : Bool) → eqb (first_no (asks_first x k)) 0 ≡ b → (a || not b) ≡ true → lent r y ≡ lent q z
    go true e b f h = both (v.on_image e) (w.on_image e)
    go false e false f h = let n = eqb-false (first_no (asks_first x k)) 0 f in both (v.turned_down n) (w.turned_down n)
    go false e true f h = absurd (false≢true h)

pub replies_fixed : RepliesFixed
unfolding RepliesFixed Does answer decided EnterSays AmendSays CancelSays EditSays LookSays LookAs SpanSays SeekSays SeekAs
replies_fixed (enter k t d m) x v w p q h = ap alone (p.1.0 ∙ sym q.1.0)
replies_fixed (amend k t d m) x v w p q h = ap alone (p.1.0 ∙ sym q.1.0)
replies_fixed (cancel k) x v w p q h = ap alone (p.1.0 ∙ sym q.1.0)
replies_fixed (lookup k) x v w p q h = ap whole (p.1 ∙ sym q.1)
replies_fixed (descent k o) x v w p q h = descent_fixed x k p.0 q.0 o p.1 q.1 p.2 q.2 h
replies_fixed (span lo hi o) x v w p q h = span_fixed (row (sizes_in x)) (refusal (span lo hi o) x) (between lo hi (orders_in x)) p.0 q.0 o p.1 q.1 p.2 q.2
replies_fixed (seek lo hi l) x v w p q h = ap whole (p.1 ∙ sym q.1)
replies_fixed check x v w p q h = ap alone (p.1 ∙ sym q.1)

pub make_fixed : MakeFixed
unfolding MakeFixed MakeSays
make_fixed q old v w n m a b = (a.0 ∙ sym b.0, a.1 ∙ sym b.1)

-- WHOLE RUNS: an image stays one
answers_fixed : (cs : List Call) (x v w : List ℕ) (p : Runs cs x v) (q : Runs cs x w) → is_image x ≡ true → answers cs x v p ≡ answers cs x w q
unfolding Runs answers RepliesFixed
answers_fixed [] x v w p q i = refl
answers_fixed (c ∷ cs) x v w p q i =
    let e = does_done c x p.0 p.1 in
    let j : is_image p.0 ≡ true = ap is_image e ∙ stays_image c x i in
    let then : (y : List ℕ) → p.0 ≡ y → (t : Runs cs y w) → answers cs p.0 v p.2 ≡ answers cs y w t =
    λ y f. subst (λ (z : List ℕ). (t : Runs cs z w) → answers cs p.0 v p.2 ≡ answers cs z w t) f (λ t. answers_fixed cs p.0 v w p.2 t j) in
    let first = replies_fixed c x p.0 q.0 p.1 q.1 (rw i) in
    let rest = then q.0 (e ∙ sym (does_done c x q.0 q.1)) q.2 in
    λ m. first m ∷ rest m

pub runs_fixed : RunsFixed
unfolding RunsFixed
runs_fixed cs x v w p q = (runs_after cs x v p ∙ sym (runs_after cs x w q), answers_fixed cs x v w p q)
