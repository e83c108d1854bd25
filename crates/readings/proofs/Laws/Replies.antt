-- The answers of lookup, span and seek: each question in its order, and what is said where none turns the call down.
use Rattle.std.proofs.Common.{Option, Some, None, Ok, Err}
use Rattle.std.specs.Option.{ok_or}
use mathlib.Core.Path.{◌≡◌, refl, sym, ap, ◌∙◌, subst}
use mathlib.Core.Bool.{Bool, true, false, ◌&&◌, cond, true≢false}
use mathlib.Core.List.{List, [], ◌∷◌, ◌++◌}
use Prim.Native.Nat.{ℕ, suc, ◌*◌, ◌≤◌, ◌<◌}
use native.Mathlib.Omega.{arith}
use lib.Dec.{ltb, leb, eqb}
use lib.ListN.{length}
use borrow.Author.Tests.{leb-true, ne_eqb, le-leb, lt-leb}
use Rattle.sizes.specs.Sizes.{prime}
use Rattle.sizes.proofs.Laws.Sizes.{and_parts}
use Rattle.placement.specs.declared.Order.{Order}
use Rattle.skiplist.specs.Image.{is_image, orders_in}
use Rattle.skiplist.specs.Questions.{ask, first_no, is_key, held, between, enough, any_order, lowest, asks_image, asks_key, asks_range, asks_span, asks_seek}
use Rattle.skiplist.specs.Book.{check, asks, refusal}
use Rattle.skiplist.proofs.Laws.Segment.{held_between}
use Rattle.skiplist.proofs.Laws.Questions.{passes}
use Rattle.skiplist.proofs.Laws.Third.{taken}
use Rattle.readings.specs.declared.Visit.{Visit}
use Rattle.table.specs.declared.Reply.{Reply}
use Rattle.table.specs.declared.Refusal.{Refusal}
use Rattle.table.specs.declared.Refusal.TheVariants.{NoKey, NotHeld, OutputShort, NoReserve}
use Rattle.table.specs.Refusals.{number_of, answer, refused, order_reply, count_reply}
use Rattle.table.specs.Check.{Examined}
use Rattle.table.proofs.Laws.Refusals.{number_some}
use Rattle.table.specs.Calls.{gives, check_number, order_of, LookAs, LookSays, SpanAs, SpanSays, SeekAs, SeekSays}
use Rattle.readings.specs.Visit.{scan, starting, steps, first_of}
use Rattle.readings.proofs.Laws.Answers.{width, counted_all, output_kept, written_all}

-- QUESTION 4
pub checked_yes : (bs : List ℕ) (n : ℕ) → n ≡ check_number bs → n ≡ 0 → is_image bs ≡ true
unfolding check_number
checked_yes bs n e z = (taken check bs (sym e ∙ z)).0

pub key_least : (k : ℕ) (b : Bool) → b ≡ is_key k → b ≡ true → 1 ≤ k
unfolding is_key
key_least k b e t = leb-true 1 k (and_parts (leb 1 k) (ltb k prime) (sym e ∙ t)).0

-- THE FIRST OF SOME ORDERS
pub first_is : (ys : List Order) (o : Order) → Some o ≡ first_of ys → (any_order ys ≡ true) × (lowest ys ≡ o)
unfolding first_of any_order lowest
first_is [] o e = absurd (true≢false (cc))
first_is (y ∷ ys) o e = (refl, cc)

pub first_empty : (ys : List Order) → None ≡ first_of ys → ys ≡ []
unfolding first_of
first_empty [] e = refl
first_empty (y ∷ ys) e = absurd (true≢false (cc))

-- WHAT THE SEARCH FOR A KEY FOUND: the order that has it, or that it is not held
module _ (k : ℕ) (os : List Order) (q : Option Order) (eq : q ≡ first_of (between k k os)) where
  pub sought_absent : q ≡ None → held k os ≡ false
  unfolding any_order
  sought_absent z = (held_between k os).0 ∙ ap any_order (first_empty (between k k os) (sym z ∙ eq))

  pub sought_there : (o : Order) → q ≡ Some o → (held k os ≡ true) × (order_of k os ≡ o)
  unfolding order_of
  sought_there o z = let f = first_is (between k k os) o (sym z ∙ eq) in ((held_between k os).0 ∙ f.0, f.1)

-- LOOKUP
module _ (bs : List ℕ) (k : ℕ) where
  look_by : (a b c : Bool) → is_image bs ≡ a → is_key k ≡ b → held k (orders_in bs) ≡ c → (r : Reply) →
      LookAs (cond a (cond b (cond c 0 9) 5) 4) 0 k (orders_in bs) r → LookSays bs k r
  unfolding LookSays refusal asks first_no asks_image asks_key
  look_by a b c ea eb ec r h = rw (ea, eb, ec) h

  pub look_4 : (e : Refusal) → Examined bs (Err e) → LookSays bs k (order_reply (Err e))
  unfolding LookAs gives
  look_4 e x = look_by false _ _ x.0 refl refl _ (rw x.1)

  module _ (image : is_image bs ≡ true) where
    pub look_5 : is_key k ≡ false → LookSays bs k (refused NoKey)
    unfolding LookAs gives
    look_5 e = look_by true false _ image e refl _ refl

    pub look_rest : is_key k ≡ true → (q : Option Order) → q ≡ first_of (between k k (orders_in bs)) → LookSays bs k (order_reply (ok_or q NotHeld))
    unfolding LookAs gives
    look_rest e None eq = look_by true true false image e (sought_absent k (orders_in bs) None eq refl) _ refl
    look_rest e (Some o) eq = let t = sought_there k (orders_in bs) (Some o) eq o refl in look_by true true true image e t.0 _ (rw t.1)

-- THE QUESTIONS OF A RANGE, which span and seek share
module _ (bs : List ℕ) (lo hi : ℕ) where
  abbrev pub asked : ℕ
  asked = first_no (asks_image bs ++ asks_range lo hi)

  pub range_number : (a b c : Bool) → is_image bs ≡ a → is_key lo && is_key hi ≡ b → leb lo hi ≡ c → cond a (cond b (cond c 0 10) 5) 4 ≡ asked
  unfolding first_no asks_image asks_range
  range_number a b c ea eb ec = rw (ea, eb, ec)

  pub range_4 : (e : Refusal) → Examined bs (Err e) → answer {A = Unit {0}} (Err e) ≡ asked
  range_4 e x = ap number_of x.1 ∙ range_number false _ _ x.0 refl refl

  -- .. and what they leave of one question more
  pub range_asked : 0 ≡ asked → (is_image bs ≡ true) × (1 ≤ lo) × (lo ≤ hi)
  unfolding first_no asks_image asks_range
  range_asked z =
      let a = passes 3 (is_image bs) _ (sym z) in
      let b = passes 4 (is_key lo && is_key hi) _ a.1 in
      let c = passes 9 (leb lo hi) 0 b.1 in
      (a.0, key_least lo (is_key lo) refl (and_parts (is_key lo) (is_key hi) b.0).0, leb-true lo hi c.0)

  range_more : (n : ℕ) → n ≡ asked → (m : ℕ) (t : Bool) → first_no (asks_image bs ++ (asks_range lo hi ++ ask m t ∷ [])) ≡ cond (eqb n 0) (cond t 0 m) n
  unfolding first_no asks_image asks_range
  range_more n en m t = go (is_image bs) (is_key lo && is_key hi) (leb lo hi) en
    where
      go : (a b c : Bool) → n ≡ cond a (cond b (cond c 0 10) 5) 4 → cond a (cond b (cond c (cond t 0 m) 10) 5) 4 ≡ cond (eqb n 0) (cond t 0 m) n
      go true true true e = rw e
      go true true false e = rw e
      go true false c e = rw e
      go false b c e = rw e

-- SEEK
module _ (bs : List ℕ) (lo hi least : ℕ) where
  abbrev fitting : List Order
  fitting = enough least (between lo hi (orders_in bs))

  seek_by : (n : ℕ) → n ≡ asked bs lo hi → (i : ℕ) → cond (eqb n 0) (cond (any_order fitting) 0 12) n ≡ i → SeekSays bs lo hi least (gives i 0 (lowest fitting))
  unfolding SeekSays SeekAs refusal asks asks_seek
  seek_by n en i e = ap (λ (j : ℕ). gives j 0 (lowest fitting)) (sym (range_more bs lo hi n en 12 _ ∙ e))

  pub seek_turned : (e : Refusal) → answer {A = Unit {0}} (Err e) ≡ asked bs lo hi → SeekSays bs lo hi least (refused e)
  unfolding gives
  seek_turned e en = let n = number_some e in rw n.1 (seek_by (suc n.0) (sym n.1 ∙ en) (suc n.0) (rw (ne_eqb (suc n.0) 0 (λ z. omega (arith, z)))))

  pub seek_rest : 0 ≡ asked bs lo hi → (q : Option Order) → q ≡ first_of fitting → SeekSays bs lo hi least (order_reply (ok_or q NoReserve))
  unfolding gives any_order
  seek_rest z None e = let f = first_empty fitting e in seek_by 0 z 12 (rw f)
  seek_rest z (Some o) e = let f = first_is fitting o e in rw (← f.1) (seek_by 0 z 0 (rw f.0))

-- SPAN
module _ (bs : List ℕ) (lo hi : ℕ) (x : List ℕ) where
  abbrev inside : List Order
  inside = between lo hi (orders_in bs)

  span_by : (n : ℕ) → n ≡ asked bs lo hi → (r : Reply) (z : List ℕ) (i : ℕ) → cond (eqb n 0) (cond (leb (width bs * length inside) (length x)) 0 11) n ≡ i →
      SpanAs (width bs) i inside r x z → SpanSays bs lo hi r x z
  unfolding SpanSays refusal asks asks_span
  span_by n en r z i e h = subst (λ (j : ℕ). SpanAs (width bs) j inside r x z) (sym (range_more bs lo hi n en 11 _ ∙ e)) h

  pub span_turned : (e : Refusal) → answer {A = Unit {0}} (Err e) ≡ asked bs lo hi → SpanSays bs lo hi (refused e) x x
  unfolding SpanAs
  span_turned e en = let n = number_some e in span_by (suc n.0) (sym n.1 ∙ en) _ x (suc n.0) (rw (ne_eqb (suc n.0) 0 (λ z. omega (arith, z)))) (rw n.1, refl)

  -- it counts, whether rows are written or not and into whatever output, and then writes
  module _ (p : 0 ≡ asked bs lo hi) (b : Bool) (v : Visit) (o y : List ℕ) (ev : scan (width bs) v y ≡ steps (orders_in bs) (scan (width bs) (starting lo hi 0 b 65535) o))
      (m : ℕ) (em : m ≡ width bs * v.found) where
    image : is_image bs ≡ true
    image = (range_asked bs lo hi p).0

    wanted : m ≡ width bs * length inside
    wanted = em ∙ ap (λ (i : ℕ). width bs * i) (counted_all bs image lo hi b v o y ev)

    pub span_11 : length x < m → SpanSays bs lo hi (refused OutputShort) x x
    unfolding SpanAs
    span_11 h = span_by 0 p _ x 11 (rw (lt-leb _ _ (rw wanted at h))) (refl, refl)

    pub span_written : m ≤ length x → (w : Visit) (z : List ℕ) → scan (width bs) w z ≡ steps (orders_in bs) (scan (width bs) (starting lo hi 0 true 65535) x) →
        SpanSays bs lo hi (count_reply (Ok w.found)) x z
    unfolding SpanAs
    span_written h w z ew =
        let room : width bs * length inside ≤ length x = rw wanted at h in
        span_by 0 p _ z 0 (rw (le-leb _ _ room)) (rw (counted_all bs image lo hi true w x z ew), written_all bs image lo hi true w x z ew refl room)

  -- .. where the output that is written then is lent to the counting too, which leaves it as it was
  module _ (p : 0 ≡ asked bs lo hi) (v : Visit) (y : List ℕ) (ev : scan (width bs) v y ≡ steps (orders_in bs) (scan (width bs) (starting lo hi 0 false 65535) x))
      (m : ℕ) (em : m ≡ width bs * v.found) where
    kept : y ≡ x
    kept = output_kept bs (range_asked bs lo hi p).0 lo hi false v x y ev refl

    pub span_short : length y < m → SpanSays bs lo hi (refused OutputShort) x y
    span_short h = rw kept (span_11 p false v x y ev m em (rw kept at h))

    pub span_filled : m ≤ length y → (w : Visit) (z : List ℕ) → scan (width bs) w z ≡ steps (orders_in bs) (scan (width bs) (starting lo hi 0 true 65535) y) →
        SpanSays bs lo hi (count_reply (Ok w.found)) x z
    span_filled h w z ew = span_written p false v x y ev m em (rw kept at h) w z (rw kept at ew)
