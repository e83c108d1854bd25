-- Which number an enter, amend or cancel gives, question by question, and what an image tells of its header.
use Rattle.std.proofs.Common.{Err}
use mathlib.Core.Path.{◌≡◌, refl, sym, ap, ◌∙◌}
use mathlib.Core.Bool.{Bool, true, false, cond, true≢false}
use mathlib.Core.List.{List, [], ◌∷◌, ◌++◌}
use Prim.Native.Nat.{ℕ, suc, ◌≤◌, ◌<◌}
use native.Mathlib.Omega.{arith}
use borrow.Author.Tests.{ne_eqb}
use lib.ListN.{length}
use Rattle.sizes.specs.Numbers.{big, field}
use Rattle.sizes.specs.Sizes.{seed_good}
use Rattle.sizes.specs.Header.{header, sizes_in, held_in}
use Rattle.placement.specs.Place.{Shaped}
use Rattle.sizes.specs.declared.Sizes.{Sizes}
use Rattle.placement.specs.declared.Order.{Order}
use Rattle.sizes.proofs.Laws.Sizes.{limits}
use Rattle.sizes.proofs.Laws.Numbers.{field_big}
use Rattle.skiplist.specs.Image.{image, is_image, orders_in, quantities_good}
use Rattle.skiplist.specs.Questions.{Question, first_no, price_allowed, asks_image, asks_order, asks_enter, asks_amend, is_key, held}
use Rattle.skiplist.specs.Book.{Call, enter, amend, asks, changed, refusal, done}
use Rattle.skiplist.proofs.Laws.Parts.{Up, below}
use Rattle.skiplist.proofs.Laws.Shapes.{Place, there, absent, place, held_there, held_absent}
use Rattle.skiplist.proofs.Laws.Questions.{passes}
use Rattle.skiplist.proofs.Laws.Kept.{fits_parts, Kept}
use Rattle.table.specs.declared.Refusal.{Refusal}
use Rattle.table.specs.Calls.{EditSays, EnterSays, AmendSays}
use Rattle.table.specs.Check.{Examined}
use Rattle.table.specs.Refusals.{number_of}
use Rattle.table.proofs.Laws.Refusals.{number_some}
use Rattle.readings.specs.Visit.{Known}
use Rattle.readings.proofs.Laws.Answers.{known_image, known_at, known_long}
use Rattle.readings.proofs.Laws.Replies.{key_least}
use Rattle.edits.specs.Change.{Sure}

-- ---- an image's header

-- what the functions on levels ask of a table and its sizes
pub record Asked (s : Sizes) (bs : List ℕ) : Type 0 where
  pub shaped : Shaped s bs
  pub long : 53 ≤ length bs
  pub seeds : seed_good s.seed ≡ true
  pub gamma_some : 0 < s.gamma
  pub nodes_least : 2 ≤ s.nodes

module _ (bs : List ℕ) (e : is_image bs ≡ true) where
  pub image_asked : (s : Sizes) → s ≡ sizes_in bs → Asked s bs
  image_asked s q =
      let w = known_at bs s e q in
      let m = limits s w.sizes_made in
      record { shaped = w.shaped; long = known_long bs e; seeds = m.seeds; gamma_some = omega (arith, m.gamma_least); nodes_least = m.nodes_least }

  -- the number of orders
  pub image_held : held_in bs ≡ length (orders_in bs)
  unfolding held_in image header big field
  image_held =
      let n : length (orders_in bs) < 65536 = omega (arith, (fits_parts (sizes_in bs) (orders_in bs) (known_image bs e).fit).few, (limits (sizes_in bs) (known_image bs e).sizes_made).orders_most) in
      ap held_in (sym (known_image bs e).bytes) ∙ field_big 2 (length (orders_in bs)) [] n

-- .. as a header's field
pub held_told : (bs : List ℕ) (m : ℕ) → m ≡ field 11 2 bs → m ≡ held_in bs
unfolding held_in
held_told bs m e = e

-- ---- refused and done

pub refused : (c : Call) (n : ℕ) (bs : List ℕ) → refusal c bs ≡ n → (n ≡ 0 → ⊥) → EditSays c n bs bs
unfolding EditSays done
refused c n bs e h = (sym e, rw (e, ne_eqb n 0 h))

pub accepted : (c : Call) (bs bs' : List ℕ) → refusal c bs ≡ 0 → bs' ≡ image (sizes_in bs) (changed c (orders_in bs)) → EditSays c 0 bs bs'
unfolding EditSays done
accepted c bs bs' e h = (sym e, rw e h)

-- question 4, as examine answers it
pub refused_4 : (c : Call) (bs : List ℕ) (e : Refusal) → Examined bs (Err e) → EditSays c (number_of e) bs bs
unfolding refusal first_no asks_image
refused_4 c bs e x = let i = x.0 in refused c (number_of e) bs (rw (i, x.1)) (λ z. omega (arith, (number_some e).1))

-- a key is at least 1
pub key_some : (k : ℕ) → is_key k ≡ true → 1 ≤ k
key_some k e = key_least k (is_key k) refl e

-- ---- 14, 5 and 6, which enter and amend share, leave the questions behind them where none turns the call down
module _ (bs : List ℕ) (i : is_image bs ≡ true) (s : Sizes) (es : s ≡ sizes_in bs) (o : Order) where
  pub asked_sure : 0 ≡ first_no (asks_order s o.key o.total o.displayed o.price) → Sure bs s o
  unfolding first_no asks_order
  asked_sure z =
      let a = passes 13 (price_allowed s o.price) _ (sym z) in
      let b = passes 4 (is_key o.key) _ a.1 in
      record { image = i; sizes_are = es; price = a.0; key = b.0; quantities = (passes 5 (quantities_good s o.total o.displayed o.price) 0 b.1).0 }

  module _ (e : Refusal) (en : number_of e ≡ first_no (asks_order s o.key o.total o.displayed o.price)) where
    asked_more : (qs : List Question) → first_no (asks_image bs ++ (asks_order (sizes_in bs) o.key o.total o.displayed o.price ++ qs)) ≡ number_of e
    unfolding first_no asks_image asks_order
    asked_more qs = rw (i, ← es) (go (price_allowed s o.price) (is_key o.key) (quantities_good s o.total o.displayed o.price) en)
      where
        go : (a b f : Bool) → number_of e ≡ cond a (cond b (cond f 0 6) 5) 14 → cond a (cond b (cond f (first_no qs) 6) 5) 14 ≡ number_of e
        go true true true z = absurd (omega (arith, (number_some e).1))
        go true true false z = sym z
        go true false f z = sym z
        go false b f z = sym z

    pub enter_asked : EnterSays o.key o.total o.displayed o.price (number_of e) bs bs
    unfolding EnterSays refusal asks asks_enter
    enter_asked = refused (enter o.key o.total o.displayed o.price) (number_of e) bs (asked_more _) (λ z. omega (arith, (number_some e).1))

    pub amend_asked : AmendSays o.key o.total o.displayed o.price (number_of e) bs bs
    unfolding AmendSays refusal asks asks_amend
    amend_asked = refused (amend o.key o.total o.displayed o.price) (number_of e) bs (asked_more _) (λ z. omega (arith, (number_some e).1))

pub known_kept : (bs : List ℕ) (s : Sizes) → Known s bs → Kept s (orders_in bs)
known_kept bs s w = record { good = w.good; fit = w.fit }

-- ---- where a key stands among orders, or would

pub record HeldAt (k : ℕ) (os : List Order) : Type 0 where
  pub before : List Order
  pub own : Order
  pub behind : List Order
  pub is : os ≡ before ++ own ∷ behind
  pub key : own.key ≡ k

pub record FreeAt (k : ℕ) (os : List Order) : Type 0 where
  pub before : List Order
  pub behind : List Order
  pub is : os ≡ before ++ behind
  pub low : below k before ≡ true
  pub high : Up (suc k) behind

module _ (k : ℕ) (os : List Order) (u : Up 1 os) where
  pub held_at : held k os ≡ true → HeldAt k os
  held_at h = go (place k 1 os u)
    where
      go : Place k os → HeldAt k os
      go (there xs y zs q e) = record { before = xs; own = y; behind = zs; is = q; key = e }
      go (absent xs zs q f v) = absurd (true≢false (sym h ∙ ap (held k) q ∙ held_absent k xs zs f v))

  pub free_at : held k os ≡ false → FreeAt k os
  free_at h = go (place k 1 os u)
    where
      go : Place k os → FreeAt k os
      go (there xs y zs q e) = absurd (true≢false (sym (held_there xs y zs) ∙ ap (λ (n : ℕ). held n (xs ++ y ∷ zs)) e ∙ sym (ap (held k) q) ∙ h))
      go (absent xs zs q f v) = record { before = xs; behind = zs; is = q; low = f; high = v }
