-- A `put` of the text program: amend of a held key, enter of any other.
use mathlib.Core.Path.{◌≡◌, refl, sym, ◌∙◌}
use mathlib.Core.Bool.{Bool, true, false, not, ◌||◌, cond, true≢false}
use mathlib.Core.List.{List, ◌∷◌, ◌++◌}
use Prim.Native.Nat.{ℕ}
use lib.Dec.{eqb}
use Rattle.sizes.specs.Header.{sizes_in}
use Rattle.sizes.specs.declared.Sizes.{Sizes}
use Rattle.sizes.proofs.Laws.Sizes.{some_nodes}
use Rattle.skiplist.specs.Image.{is_image, orders_in, quantities_good, fits}
use Rattle.skiplist.specs.Questions.{ask, first_no, is_key, held, order, with_order, price_allowed, asks_image, asks_order, asks_room, asks_enter, asks_amend}
use Rattle.skiplist.specs.Book.{Call, enter, amend, asks, changed, refusal, done}
use Rattle.skiplist.proofs.Laws.Questions.{apart, never, own_question}
use Rattle.skiplist.proofs.Laws.Parts.{good_up}
use Rattle.skiplist.proofs.Laws.Kept.{fits_over}
use Rattle.skiplist.proofs.Laws.Third.{image_parts}
use Rattle.table.specs.Calls.{EditSays, EnterSays, AmendSays}
use Rattle.answers.specs.Put.{asks_put, put_refusal, put_leaves, PutDoes, put_call, AmendsOrEnters, Never9_13Or14}
use Rattle.answers.specs.Table.{Held, Front}

-- a put, an amend and an enter by their tests: image, price, key, quantities, held, fewer than N, fits
abbrev put_by : (a p b c h l f : Bool) → ℕ
put_by a p b c h l f = cond a (cond p (cond b (cond c (cond (h || l) (cond f 0 8) 7) 6) 5) 14) 4

abbrev amend_by : (a p b c h : Bool) → ℕ
amend_by a p b c h = cond a (cond p (cond b (cond c (cond h 0 9) 6) 5) 14) 4

abbrev enter_by : (a p b c h l f : Bool) → ℕ
enter_by a p b c h l f = cond a (cond p (cond b (cond c (cond (not h) (cond (h || l) (cond f 0 8) 7) 13) 6) 5) 14) 4

by_held : (a p b c h l f : Bool) → h ≡ true → (a ≡ true → f ≡ true) → put_by a p b c h l f ≡ amend_by a p b c h
by_held true p b c h l f e g = rw (e, g refl)
by_held false p b c h l f e g = refl

by_other : (a p b c h l f : Bool) → (enter_by a p b c h l f ≡ 13 → ⊥) → put_by a p b c h l f ≡ enter_by a p b c h l f
by_other true true true true true l f z = absurd (z refl)
by_other true true true true false l f z = refl
by_other true true true false h l f z = refl
by_other true true false c h l f z = refl
by_other true false b c h l f z = refl
by_other false p b c h l f z = refl

-- a table of any version has a place for price 0
zero_passes : (s : Sizes) → price_allowed s 0 ≡ true
unfolding price_allowed
zero_passes s = go (eqb s.version 1)
  where
    go : (t : Bool) → cond t true true ≡ true
    go true = refl
    go false = refl

module _ (k t d : ℕ) (x : List ℕ) where
  -- a held key fits as before
  held_fits : held k (orders_in x) ≡ true → is_image x ≡ true → fits (sizes_in x) (with_order (order k t d 0) (orders_in x)) ≡ true
  held_fits e i =
      let p = image_parts x i in
      fits_over (sizes_in x) (order k t d 0) (orders_in x) (some_nodes (sizes_in x) p.sizes_made) (good_up (sizes_in x) 1 (orders_in x) p.orders_kept.good) e p.orders_kept.fit

  -- the questions of a held key: 7 and 8 have a yes, as 9 has
  put_held : held k (orders_in x) ≡ true → put_refusal k t d x ≡ refusal (amend k t d 0) x
  unfolding put_refusal refusal asks first_no asks_image asks_put asks_amend asks_order asks_room
  put_held e = by_held (is_image x) (price_allowed (sizes_in x) 0) (is_key k) (quantities_good (sizes_in x) t d 0) (held k (orders_in x)) _ _ e (held_fits e)

  put_other : (refusal (enter k t d 0) x ≡ 13 → ⊥) → put_refusal k t d x ≡ refusal (enter k t d 0) x
  unfolding put_refusal refusal asks first_no asks_image asks_put asks_enter asks_order asks_room
  put_other z = by_other (is_image x) (price_allowed (sizes_in x) 0) (is_key k) (quantities_good (sizes_in x) t d 0) (held k (orders_in x)) _ (fits (sizes_in x) (with_order (order k t d 0) (orders_in x))) z

  -- .. of a free one: 13 has a yes
  put_free : held k (orders_in x) ≡ false → put_refusal k t d x ≡ refusal (enter k t d 0) x
  unfolding put_refusal refusal asks first_no asks_image asks_put asks_enter asks_order asks_room
  put_free e = rw e

  put_as : (c : Call) → put_refusal k t d x ≡ refusal c x → changed c (orders_in x) ≡ with_order (order k t d 0) (orders_in x) → put_leaves k t d x ≡ done c x
  unfolding put_leaves done
  put_as c e f = rw (e, f)

  amend_as : held k (orders_in x) ≡ true → (put_refusal k t d x ≡ refusal (amend k t d 0) x) × (put_leaves k t d x ≡ done (amend k t d 0) x)
  unfolding changed
  amend_as e = (put_held e, put_as (amend k t d 0) (put_held e) refl)

  enter_as : held k (orders_in x) ≡ false → (put_refusal k t d x ≡ refusal (enter k t d 0) x) × (put_leaves k t d x ≡ done (enter k t d 0) x)
  unfolding changed
  enter_as e = (put_free e, put_as (enter k t d 0) (put_free e) refl)

  -- 13 is for a held key, and other numbers of an enter are those of a put
  enter_13 : refusal (enter k t d 0) x ≡ 13 → held k (orders_in x) ≡ true
  unfolding refusal asks first_no asks_image asks_enter asks_order asks_room apart
  enter_13 e = go (held k (orders_in x)) (own_question 13 (asks_image x ++ asks_order (sizes_in x) k t d 0) (asks_room (sizes_in x) (order k t d 0) (orders_in x)) _ refl e)
    where
      go : (b : Bool) → not b ≡ false → b ≡ true
      go true z = refl
      go false z = sym z

pub amends_or_enters : AmendsOrEnters
unfolding AmendsOrEnters put_call
amends_or_enters k t d x = go (held k (orders_in x)) refl
  where
    go : (b : Bool) → held k (orders_in x) ≡ b →
        (put_refusal k t d x ≡ refusal (cond b (amend k t d 0) (enter k t d 0)) x) × (put_leaves k t d x ≡ done (cond b (amend k t d 0) (enter k t d 0)) x)
    go true e = amend_as k t d x e
    go false e = enter_as k t d x e

pub never_9_13_or_14 : Never9_13Or14
unfolding Never9_13Or14 put_refusal asks_image asks_put asks_order asks_room apart
never_9_13_or_14 k t d x =
    let s = sizes_in x in
    let later = ask 5 (is_key k) ∷ ask 6 (quantities_good s t d 0) ∷ asks_room s (order k t d 0) (orders_in x) in (
      never 9 (asks_image x ++ asks_put s k t d (orders_in x)) refl,
      never 13 (asks_image x ++ asks_put s k t d (orders_in x)) refl,
      λ e. true≢false (sym (zero_passes s) ∙ own_question 14 (asks_image x) later (price_allowed s 0) refl e),
    )

-- AS THE PROGRAM CALLS: enter, and where that answers 13, amend
module _ (k t d n : ℕ) (old mid : Held) (f : Front old mid (EnterSays k t d 0 n)) where
  abbrev x : List ℕ
  x = old.bytes

  pub put_entered : (n ≡ 13 → ⊥) → Front old mid (PutDoes k t d n)
  unfolding EnterSays EditSays PutDoes changed
  put_entered z =
      let e = put_other k t d x (λ h. z (f.says.0 ∙ h)) in
      record { says = (f.says.0 ∙ sym e, f.says.1 ∙ sym (put_as k t d x (enter k t d 0) e refl)); long = f.long; behind = f.behind }

  module _ (h : n ≡ 13) where
    thirteen : refusal (enter k t d 0) x ≡ 13
    unfolding EnterSays EditSays
    thirteen = sym f.says.0 ∙ h

    kept : mid.bytes ≡ x
    unfolding EnterSays EditSays done
    kept = f.says.1 ∙ rw thirteen

    pub put_amended : (r : ℕ) (new : Held) → Front mid new (AmendSays k t d 0 r) → Front old new (PutDoes k t d r)
    unfolding AmendSays EditSays PutDoes
    put_amended r new g =
        let e = amend_as k t d x (enter_13 k t d x thirteen) in
        let w : (r ≡ refusal (amend k t d 0) x) × (new.bytes ≡ done (amend k t d 0) x) = rw kept at g.says in
        record { says = (w.0 ∙ sym e.0, w.1 ∙ sym e.1); long = g.long ∙ f.long; behind = g.behind ∙ f.behind }
