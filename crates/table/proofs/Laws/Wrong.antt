-- The wrong programs of document 01, "Contracts", with those of a descent, of the reserve, of enter and amend and of the lowest order, and the clause that excludes each: on every table, and then on tables of the run.
use mathlib.Core.Path.{◌≡◌, refl, sym, ap, ◌∙◌, subst}
use mathlib.Core.Bool.{Bool, true, false, cond, not, false≢true}
use mathlib.Core.List.{List, [], ◌∷◌, ◌++◌}
use Prim.Native.Nat.{ℕ, zero, suc, ◌*◌, ◌≤◌}
use native.Mathlib.Omega.{arith}
use borrow.Author.Tests.{leb-true, eqb-false, eq-eqb}
use lib.Dec.{ltb, leb, eqb}
use lib.ListN.{length, take, drop, replicate}
use Rattle.sizes.specs.Orders.{sort_in, sorted}
use Rattle.sizes.specs.Numbers.{big, value_from, field, rows, rows_in}
use Rattle.sizes.specs.Sizes.{least_power, beta, row, sizes_good, seed_good, made}
use Rattle.sizes.specs.Hash.{hash_from, h, g, divides_from, level}
use Rattle.sizes.specs.Header.{block_long, table_long, header, sizes_in, held_in, rule_1}
use Rattle.placement.specs.Blocks.{around, stored, place_from, placed}
use Rattle.placement.specs.Labels.{same_label, home, level_before, before}
use Rattle.placement.specs.Chunks.{node_bytes, block_bytes}
use Rattle.placement.specs.Decode.{node_in, head_label, chunk_of, block_of, blocks_in}
use Rattle.sizes.specs.declared.Sizes.{Sizes}
use Rattle.placement.specs.declared.Order.{Order}
use Rattle.sizes.proofs.Laws.Sizes.{limits}
use Rattle.skiplist.specs.Lists.{front, at_least, list_at, starts_one, run, rest, partitions, first_key, pick, part, last_from, masked, chunks_of, pieces, all_chunks, chunks_from, chunks, blocks}
use Rattle.skiplist.specs.Image.{image, into, all_into, gathered, orders_in, price_good, quantities_good, orders_good, fits, same, is_image}
use Rattle.skiplist.specs.Questions.{ask, first_no, is_key, held, without, with_order, order, between, reserve, enough, any_order, lowest, ZeroFindsAll, price_allowed, asks_image, asks_order, asks_room, asks_enter, asks_amend, asks_key, asks_range, asks_span, asks_seek}
use Rattle.skiplist.specs.Paths.{greatest, nodes_upto, labels_from, path_labels, stands_in, descent_path, path_bytes, asks_descent}
use Rattle.skiplist.specs.Book.{Call, enter, amend, cancel, lookup, descent, span, seek, check, asks, changed, book_refusal, refusal, done}
use Rattle.skiplist.specs.Examples.{run_seed, run_sizes, empty_table, enter_3, enter_6}
use Rattle.skiplist.proofs.Laws.Questions.{passes, zero_finds_all, apart, never, own_question, others, asked_before}
use Rattle.skiplist.proofs.Laws.Parts.{or_left, or_right, good_up}
use Rattle.skiplist.proofs.Laws.Kept.{held_without, kept_none}
use Rattle.skiplist.proofs.Laws.Third.{image_parts, taken}
use Rattle.table.specs.Calls.{reply, gives, EditSays, EnterSays, AmendSays, CancelSays, LookAs, shown, DescentAs, DescentSays, SpanSays, SpanAs, SeekSays, SeekAs}
use Rattle.table.specs.Promise.{Does, number_in, answer, SeekLowest}
use Rattle.table.specs.declared.Reply.{Reply}
use Rattle.table.proofs.Laws.Runs.{Holds, holds_image, done_holds}
use Rattle.table.proofs.Laws.Descents.{number_is, count_is}
use Rattle.table.proofs.Laws.Fixed.{span_number, number_told}
use Rattle.table.proofs.Laws.Sought.{seek_lowest}
use Rattle.table.proofs.Laws.Alike.{Tells, here, there, none_held}

-- ---- THE CLAUSE ON THE TABLE. An enter, amend or cancel that returns 0 leaves the orders as it changes them
edit_holds : (c : Call) (x z : List ℕ) → EditSays c 0 x z → Holds (sizes_in x) (changed c (orders_in x)) z
unfolding EditSays
edit_holds c x z w = subst (Holds (sizes_in x) (changed c (orders_in x))) (sym w.1) (done_holds c x (sym w.0))

-- an order, with its quantities
into_tells : (o : Order) (os : List Order) → held o.key os ≡ false → Tells o (into o os)
unfolding sort_in held
into_tells o [] e = here o []
into_tells o (q ∷ os) e = go (ltb o.key q.key) (into_tells o os (or_right (eqb q.key o.key) (held o.key os) e))
  where
    go : (t : Bool) → Tells o (into o os) → Tells o (cond t (o ∷ q ∷ os) (q ∷ into o os))
    go true w = here o (q ∷ os)
    go false w =
        let n = there o.key q (into o os) (eqb-false q.key o.key (or_left (eqb q.key o.key) (held o.key os) e)) in
        (n.0 ∙ w.0, n.1 ∙ w.1)

with_tells : (c : Call) (o : Order) (x z : List ℕ) → changed c (orders_in x) ≡ with_order o (orders_in x) → EditSays c 0 x z → Tells o (orders_in z)
unfolding EditSays with_order
with_tells c o x z e w =
    let p = image_parts x (taken c x (sym w.0)).0 in
    rw ((edit_holds c x z w).orders, e) (into_tells o (without o.key (orders_in x)) (held_without o.key 1 (orders_in x) (good_up (sizes_in x) 1 (orders_in x) p.orders_kept.good)))

pub enter_tells : (k t d p : ℕ) (x z : List ℕ) → EnterSays k t d p 0 x z → Tells (order k t d p) (orders_in z)
unfolding EnterSays changed
enter_tells k t d p x z w = with_tells (enter k t d p) (order k t d p) x z refl w

-- an amend that leaves the old displayed quantity, or the old total
pub amend_tells : (k t d p : ℕ) (x z : List ℕ) → AmendSays k t d p 0 x z → Tells (order k t d p) (orders_in z)
unfolding AmendSays changed
amend_tells k t d p x z w = with_tells (amend k t d p) (order k t d p) x z refl w

-- a cancel: an order was there, and is gone
key_held : (s : Sizes) (k : ℕ) (os : List Order) → book_refusal s (cancel k) os ≡ 0 → held k os ≡ true
unfolding book_refusal asks first_no asks_key
key_held s k os e = (passes 8 (held k os) 0 (passes 4 (is_key k) _ e).1).0

pub cancel_tells : (k : ℕ) (x z : List ℕ) → CancelSays k 0 x z → (held k (orders_in x) ≡ true) × (held k (orders_in z) ≡ false)
unfolding CancelSays EditSays changed
cancel_tells k x z w =
    let i = taken (cancel k) x (sym w.0) in
    let p = image_parts x i.0 in
    (key_held (sizes_in x) k (orders_in x) i.1, ap (held k) (edit_holds (cancel k) x z w).orders ∙ held_without k 1 (orders_in x) (good_up (sizes_in x) 1 (orders_in x) p.orders_kept.good))

-- an enter that returns 0 and leaves the table, whatever it did before
pub idle_enter : (k t d p : ℕ) (x : List ℕ) → held k (orders_in x) ≡ false → EnterSays k t d p 0 x x → ⊥
idle_enter k t d p x e w = false≢true (sym e ∙ (enter_tells k t d p x x w).0)

-- such a cancel
pub idle_cancel : (k : ℕ) (x : List ℕ) → CancelSays k 0 x x → ⊥
idle_cancel k x w = let t = cancel_tells k x x w in false≢true (sym t.1 ∙ t.0)

-- a table always written as P3
pub always_empty : (k t d p : ℕ) (x : List ℕ) (s : Sizes) → made s ≡ true → EnterSays k t d p 0 x (image s []) → ⊥
always_empty k t d p x s m w =
    let e = (holds_image s [] (image s []) m (kept_none s (limits s m)) refl).orders in
    false≢true (sym (none_held k) ∙ ap (held k) (sym e) ∙ (enter_tells k t d p x (image s []) w).0)

-- ---- THE CLAUSES ON THE ANSWER
-- a span whose count is invented: it is the number of orders in lo..hi
counted : (v n : ℕ) (os : List Order) (r : Reply) (o z : List ℕ) → SpanAs v n os r o z → r.number ≡ 0 → r.count ≡ length os
unfolding SpanAs
counted v zero os r o z w e = rw w.0
counted v (suc n) os r o z w e = absurd (omega (arith, ap (λ (q : Reply). q.number) w.0))

pub span_counts : (x : List ℕ) (lo hi : ℕ) (r : Reply) (o z : List ℕ) → SpanSays x lo hi r o z → r.number ≡ 0 → r.count ≡ length (between lo hi (orders_in x))
unfolding SpanSays
span_counts x lo hi r o z w e = counted _ _ (between lo hi (orders_in x)) r o z w e

-- a descent that keeps its path back with 9, or invents one
pub nine_shows : (x : List ℕ) (k : ℕ) (r : Reply) (o z : List ℕ) → is_image x ≡ true → DescentSays x k r o z → r.number ≡ 9 →
    (r.count ≡ length (descent_path (sizes_in x) (orders_in x) k))
    × (z ≡ path_bytes (descent_path (sizes_in x) (orders_in x) k) ++ drop (2 * length (descent_path (sizes_in x) (orders_in x) k)) o)
unfolding DescentAs LookAs shown
nine_shows x k r o z i w e =
    let path = descent_path (sizes_in x) (orders_in x) k in
    let v = w.on_image i in
    let n = sym (number_is _ _ _ r v.0) ∙ e in
    let u = subst (λ (j : ℕ). DescentAs j k (orders_in x) path r o z) n v in
    (count_is 9 (length path) _ r u.0, u.1)

-- one that gives 9 where the path has no room: 11 comes before
pub early_9 : (x : List ℕ) (k : ℕ) (r : Reply) (o z : List ℕ) → is_image x ≡ true → DescentSays x k r o z → r.number ≡ 9 →
    2 * length (descent_path (sizes_in x) (orders_in x) k) ≤ length o
unfolding DescentAs LookAs refusal asks asks_image asks_descent first_no
early_9 x k r o z i w e =
    let path = descent_path (sizes_in x) (orders_in x) k in
    leb-true (2 * length path) (length o)
    (go (is_key k) (leb (2 * length path) (length o)) (held k (orders_in x)) (rw i at (sym (number_is _ _ _ r (w.on_image i).0) ∙ e)))
  where
    go : (a b c : Bool) → ◌≡◌ {A = ℕ} (cond a (cond b (cond c 0 9) 11) 5) 9 → b ≡ true
    go a true c n = refl
    go true false c n = absurd (omega arith)
    go false false c n = absurd (omega arith)

-- an 8 given without looking
pub blind_8 : (k t d p : ℕ) (x z : List ℕ) → EnterSays k t d p 8 x z → fits (sizes_in x) (with_order (order k t d p) (orders_in x)) ≡ false
unfolding EnterSays EditSays refusal asks first_no asks_image asks_enter asks_order asks_room apart
blind_8 k t d p x z w = own_question 8 (take 6 (asks_image x ++ asks_enter (sizes_in x) k t d p (orders_in x))) [] _ refl (sym w.0)

not_held : (t : Bool) → not t ≡ true → t ≡ false
not_held true e = sym e
not_held false e = refl

module _ (k t d p : ℕ) (x z : List ℕ) where
  -- an enter that overwrites a held key
  pub overwrites : EnterSays k t d p 0 x z → held k (orders_in x) ≡ false
  unfolding EnterSays EditSays refusal asks first_no asks_image asks_enter asks_order others
  overwrites w = not_held _ (asked_before 0 (asks_image x ++ asks_order (sizes_in x) k t d p) (asks_room (sizes_in x) (order k t d p) (orders_in x)) 13 _ refl (sym w.0))

  -- one that asks 7 before 13: a 7 says that the key is free
  pub early_7 : EnterSays k t d p 7 x z → held k (orders_in x) ≡ false
  unfolding EnterSays EditSays refusal asks first_no asks_image asks_enter asks_order others
  early_7 w = not_held _ (asked_before 7 (asks_image x ++ asks_order (sizes_in x) k t d p) (asks_room (sizes_in x) (order k t d p) (orders_in x)) 13 _ refl (sym w.0))

  -- an amend that adds a key
  pub amend_adds : AmendSays k t d p 0 x z → held k (orders_in x) ≡ true
  unfolding AmendSays EditSays refusal asks first_no asks_image asks_amend asks_order others
  amend_adds w = asked_before 0 (asks_image x ++ asks_order (sizes_in x) k t d p) [] 9 _ refl (sym w.0)

  -- one that asks 9 before 6: a 9 says that the quantities are good
  pub amend_9 : AmendSays k t d p 9 x z → quantities_good (sizes_in x) t d p ≡ true
  unfolding AmendSays EditSays refusal asks first_no asks_image asks_amend asks_order others
  amend_9 w = asked_before 9 (asks_image x ++ take 2 (asks_order (sizes_in x) k t d p)) (ask 9 (held k (orders_in x)) ∷ []) 6 _ refl (sym w.0)

  -- one that is turned down by 7 or by 8
  pub amend_7 : AmendSays k t d p 7 x z → ⊥
  unfolding AmendSays EditSays refusal asks first_no asks_image asks_amend asks_order apart
  amend_7 w = never 7 (asks_image x ++ asks_amend (sizes_in x) k t d p (orders_in x)) refl (sym w.0)

  pub amend_8 : AmendSays k t d p 8 x z → ⊥
  unfolding AmendSays EditSays refusal asks first_no asks_image asks_amend asks_order apart
  amend_8 w = never 8 (asks_image x ++ asks_amend (sizes_in x) k t d p (orders_in x)) refl (sym w.0)

-- a 12 given without looking
pub blind_12 : (x : List ℕ) (lo hi l : ℕ) (r : Reply) → SeekSays x lo hi l r → r.number ≡ 12 → any_order (enough l (between lo hi (orders_in x))) ≡ false
unfolding SeekSays SeekAs refusal asks first_no asks_image asks_range asks_seek apart
blind_12 x lo hi l r w e = own_question 12 (asks_image x ++ asks_range lo hi) [] _ refl (sym (number_is _ _ _ r w) ∙ e)

-- a seek that leaves hidden orders out at r = 0: there 12 says that no order lies in lo..hi
pub zero_12 : (x : List ℕ) (lo hi : ℕ) (r : Reply) → SeekSays x lo hi 0 r → r.number ≡ 12 → any_order (between lo hi (orders_in x)) ≡ false
unfolding ZeroFindsAll
zero_12 x lo hi r w e = ap any_order (sym (zero_finds_all (between lo hi (orders_in x)))) ∙ blind_12 x lo hi 0 r w e

-- one that takes a hidden order's total for its reserve: from r = 1 on, an order that it gives has a displayed part
pub hidden_given : (x : List ℕ) (lo hi l : ℕ) (r : Reply) → SeekSays x lo hi l r → 1 ≤ l → r.number ≡ 0 → r.displayed ≡ 0 → ⊥
unfolding SeekLowest reserve
hidden_given x lo hi l r w h n e = omega (arith, rw (eq-eqb r.displayed 0 e) at (seek_lowest x lo hi l r w n).has)

-- a call that gives 4 to all: on an image none does
no_other_4 : (s : Sizes) (c : Call) (os : List Order) → apart 4 (asks s c os) ≡ true
unfolding asks asks_enter asks_amend asks_order asks_room asks_key asks_descent asks_range asks_span asks_seek apart
no_other_4 s (enter k t d p) os = refl
no_other_4 s (amend k t d p) os = refl
no_other_4 s (cancel k) os = refl
no_other_4 s (lookup k) os = refl
no_other_4 s (descent k o) os = refl
no_other_4 s (span lo hi o) os = refl
no_other_4 s (seek lo hi l) os = refl
no_other_4 s check os = refl

blind_4 : (c : Call) (x : List ℕ) → refusal c x ≡ 4 → is_image x ≡ false
unfolding refusal asks_image
blind_4 c x e = own_question 4 [] (asks (sizes_in x) c (orders_in x)) _ (no_other_4 (sizes_in x) c (orders_in x)) e

pub never_4 : (c : Call) (x z : List ℕ) (w : Does c x z) → is_image x ≡ true → number_in (answer c x z w) ≡ 4 → ⊥
never_4 c x z w i e = false≢true (sym (blind_4 c x (sym (number_told c x z w i) ∙ e)) ∙ i)

-- ---- ON TABLES OF THE RUN, where no question turns these calls down
unfoldable pub with_6 : List ℕ
with_6 = done enter_6 empty_table

unfoldable pub with_both : List ℕ
with_both = done enter_3 with_6

unfoldable pub with_hidden : List ℕ
with_hidden = done (enter 3 100 0 0) empty_table

unfoldable pub with_behind : List ℕ
with_behind = done (enter 6 50 10 0) with_hidden

record Computed : Type 0 where
  six : refusal enter_6 empty_table ≡ 0
  three : refusal enter_3 with_6 ≡ 0
  not_yet : held 3 (orders_in with_6) ≡ false
  cancels : refusal (cancel 6) with_6 ≡ 0
  allowed : made run_sizes ≡ true
  spans : refusal (span 1 9 (replicate 24 7)) with_both ≡ 0
  finds : length (between 1 9 (orders_in with_both)) ≡ 2
  seeks : refusal (seek 1 9 80) with_both ≡ 0
  zero : refusal (seek 1 9 0) with_hidden ≡ 0
  one : refusal (seek 1 9 1) with_hidden ≡ 12
  smaller : gives (refusal (seek 1 9 0) with_both) 0 (lowest (enough 0 (between 1 9 (orders_in with_both)))) ≡ reply 0 3 100 20 0 0
  from_4 : gives (refusal (seek 4 9 0) with_both) 0 (lowest (enough 0 (between 4 9 (orders_in with_both)))) ≡ reply 0 6 50 50 0 0
  behind : gives (refusal (seek 1 9 1) with_behind) 0 (lowest (enough 1 (between 1 9 (orders_in with_behind)))) ≡ reply 0 6 50 10 0 0
  taken_3 : refusal (enter 3 10 0 0) with_both ≡ 13
  lacks_4 : refusal (amend 4 10 0 0) with_both ≡ 9
  amends : refusal (amend 3 10 0 0) with_both ≡ 0
  both : is_image with_both ≡ true
  lacks : refusal (descent 4 (replicate 6 7)) with_both ≡ 9
  goes : descent_path (sizes_in with_both) (orders_in with_both) 4 ≡ 3 ∷ 1 ∷ 0 ∷ []

computed : Computed
unfolding big value_from field rows rows_in least_power beta row sizes_good seed_good made hash_from h g divides_from level block_long table_long header sizes_in held_in rule_1 around stored place_from placed home node_bytes block_bytes node_in head_label chunk_of block_of blocks_in front at_least list_at starts_one run rest partitions first_key masked chunks_of all_chunks chunks_from chunks blocks image sort_in sorted level_before before all_into gathered orders_in price_good quantities_good orders_good fits same is_image pick part last_from pieces greatest nodes_upto labels_from path_labels same_label stands_in descent_path first_no is_key held without with_order between reserve enough any_order lowest gives price_allowed asks_image asks_order asks_room asks_enter asks_amend asks_key asks_descent asks_range asks_span asks_seek asks changed refusal done run_seed run_sizes empty_table enter_3 enter_6 with_6 with_both with_hidden with_behind
computed = record { six = refl; three = refl; not_yet = refl; cancels = refl; allowed = refl; spans = refl; finds = refl; seeks = refl; zero = refl; one = refl; smaller = refl; from_4 = refl; behind = refl; taken_3 = refl; lacks_4 = refl; amends = refl; both = refl; lacks = refl; goes = refl }

-- an enter that edits properly once and later only returns 0, or returns whatever it likes
pub once_right : EnterSays 6 50 50 0 0 empty_table with_6
unfolding EnterSays EditSays enter_6 with_6
once_right = (sym computed.six, refl)

pub later_idle : (r : ℕ) → EnterSays 3 100 20 0 r with_6 with_6 → ⊥
unfolding EnterSays EditSays enter_3
later_idle r w = idle_enter 3 100 20 0 with_6 computed.not_yet (sym computed.three, w.1)

-- an enter or cancel that leaves the table
pub enter_idle : (r : ℕ) → EnterSays 6 50 50 0 r empty_table empty_table → ⊥
unfolding EnterSays EditSays enter_6 empty_table
enter_idle r w = always_empty 6 50 50 0 empty_table run_sizes computed.allowed (sym computed.six, w.1)

pub cancel_idle : (r : ℕ) → CancelSays 6 r with_6 with_6 → ⊥
unfolding CancelSays EditSays
cancel_idle r w = idle_cancel 6 with_6 (sym computed.cancels, w.1)

-- a table always written as P3
pub written_empty : (r : ℕ) → EnterSays 3 100 20 0 r with_6 empty_table → ⊥
unfolding EnterSays EditSays enter_3 empty_table
written_empty r w = always_empty 3 100 20 0 with_6 run_sizes computed.allowed (sym computed.three, w.1)

-- a span whose count is invented
pub span_two : (r : Reply) (z : List ℕ) → SpanSays with_both 1 9 r (replicate 24 7) z → r.count ≡ 2
unfolding SpanSays
span_two r z w = span_counts with_both 1 9 r (replicate 24 7) z w (span_number _ _ (between 1 9 (orders_in with_both)) r (replicate 24 7) z w ∙ computed.spans) ∙ computed.finds

-- a 9 whose path is kept back, and a 9 before 11: the path to 4 has three blocks
pub nine_counts : (r : Reply) (z : List ℕ) → DescentSays with_both 4 r (replicate 6 7) z → (r.number ≡ 9) × (r.count ≡ 3)
unfolding DescentAs LookAs
nine_counts r z w =
    let n = number_is _ _ _ r (w.on_image computed.both).0 ∙ computed.lacks in
    (n, (nine_shows with_both 4 r (replicate 6 7) z computed.both w n).0 ∙ ap length computed.goes)

pub not_9 : (r : Reply) (z : List ℕ) → DescentSays with_both 4 r (replicate 5 7) z → r.number ≡ 9 → ⊥
not_9 r z w e = omega (arith, early_9 with_both 4 r (replicate 5 7) z computed.both w e, ap length computed.goes)

-- on the full table of the run: a held key overwritten or counted as one more, a key added; amended, it has both quantities
pub not_over : (r : ℕ) (z : List ℕ) → EnterSays 3 10 0 0 r with_both z → r ≡ 13
unfolding EnterSays EditSays
not_over r z w = w.0 ∙ computed.taken_3

pub not_added : (r : ℕ) (z : List ℕ) → AmendSays 4 10 0 0 r with_both z → r ≡ 9
unfolding AmendSays EditSays
not_added r z w = w.0 ∙ computed.lacks_4

pub amended : (r : ℕ) (z : List ℕ) → AmendSays 3 10 0 0 r with_both z → (r ≡ 0) × Tells (order 3 10 0 0) (orders_in z)
unfolding AmendSays EditSays
amended r z w = (w.0 ∙ computed.amends, amend_tells 3 10 0 0 with_both z (sym computed.amends, w.1))

-- an 8, a 4, a 12 without looking
pub not_8 : (z : List ℕ) → EnterSays 6 50 50 0 8 empty_table z → ⊥
unfolding EnterSays EditSays enter_6
not_8 z w = omega (arith, w.0, computed.six)

pub not_4 : (z : List ℕ) → EnterSays 6 50 50 0 4 empty_table z → ⊥
unfolding EnterSays EditSays enter_6
not_4 z w = omega (arith, w.0, computed.six)

pub not_12 : (r : Reply) → SeekSays with_both 1 9 80 r → r.number ≡ 12 → ⊥
unfolding SeekSays SeekAs
not_12 r w e = omega (arith, number_is _ _ _ r w, computed.seeks)

-- a hidden order left out at r = 0, or found at r = 1
pub hidden_at_0 : (r : Reply) → SeekSays with_hidden 1 9 0 r → r.number ≡ 0
unfolding SeekSays SeekAs
hidden_at_0 r w = number_is _ _ _ r w ∙ computed.zero

pub hidden_at_1 : (r : Reply) → SeekSays with_hidden 1 9 1 r → r.number ≡ 12
unfolding SeekSays SeekAs
hidden_at_1 r w = number_is _ _ _ r w ∙ computed.one

-- the smaller key of two; the smallest from lo on; the smallest that has the reserve
pub smaller_given : (r : Reply) → SeekSays with_both 1 9 0 r → r ≡ reply 0 3 100 20 0 0
unfolding SeekSays SeekAs
smaller_given r w = w ∙ computed.smaller

pub given_from_4 : (r : Reply) → SeekSays with_both 4 9 0 r → r ≡ reply 0 6 50 50 0 0
unfolding SeekSays SeekAs
given_from_4 r w = w ∙ computed.from_4

pub given_behind : (r : Reply) → SeekSays with_behind 1 9 1 r → r ≡ reply 0 6 50 10 0 0
unfolding SeekSays SeekAs
given_behind r w = w ∙ computed.behind
