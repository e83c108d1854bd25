-- An amend's last question, 9, and what it leaves.
use Rattle.std.proofs.Common.{Option, Some, None}
use mathlib.Core.Path.{◌≡◌, refl, sym, ap, ◌∙◌, subst}
use mathlib.Core.Bool.{true}
use mathlib.Core.List.{List, ◌∷◌, ◌++◌}
use Prim.Native.Nat.{ℕ}
use native.Mathlib.Omega.{arith}
use lib.Seq.{sets}
use Rattle.sizes.specs.Sizes.{beta, row}
use Rattle.sizes.specs.declared.Sizes.{Sizes}
use Rattle.sizes.specs.declared.Geometry.{Geometry}
use Rattle.placement.specs.Chunks.{node_bytes}
use Rattle.placement.specs.declared.Order.{Order}
use Rattle.sizes.proofs.Laws.Sizes.{limits}
use Rattle.skiplist.specs.Image.{image, orders_in}
use Rattle.skiplist.specs.Questions.{first_no, between, asks_image, asks_order, asks_amend, is_key, held, with_order}
use Rattle.skiplist.specs.Book.{Call, amend, asks, changed, book_refusal, refusal}
use Rattle.skiplist.proofs.Laws.Parts.{Up, good_up}
use Rattle.skiplist.proofs.Laws.Shapes.{with_old}
use Rattle.skiplist.proofs.Laws.Kept.{kept_amend}
use Rattle.table.specs.Calls.{AmendSays}
use Rattle.levels.specs.declared.Trail.{Trail}
use Rattle.levels.specs.Ways.{way_down}
use Rattle.readings.specs.Visit.{Known, first_of}
use Rattle.readings.specs.Descent.{landed, standing}
use Rattle.readings.proofs.Laws.Answers.{known_at}
use Rattle.readings.proofs.Laws.Replies.{key_least, sought_absent, sought_there}
use Rattle.readings.proofs.Laws.Descents.{landed_none, landed_some, standing_there, order_alone}
use Rattle.edits.specs.Change.{Setting, Sure}
use Rattle.edits.proofs.Laws.EditAnswers.{refused, accepted, known_kept, HeldAt, held_at}
use Rattle.edits.proofs.Laws.Helds.{held_done}

-- the way down to the key has ended, at its order or not
module _ (bs : List ℕ) (new : Order) (q : Geometry) (p : Sure bs q.sizes new) (x : Trail) (ex : x ≡ way_down q.sizes bs q.top 0 new.key) where
  abbrev s : Sizes
  s = q.sizes

  abbrev k : ℕ
  k = new.key

  abbrev amending : Call
  amending = amend new.key new.total new.displayed new.price

  abbrev os : List Order
  os = orders_in bs

  w : Known s bs
  w = known_at bs s p.image p.sizes_are

  abbrev found : Option Order
  found = landed (row s) bs x.at k

  sought : found ≡ first_of (between k k os)
  sought = order_alone s bs w k (key_least k (is_key k) refl p.key) q refl x ex found refl

  pub amend_no_9 : standing (row s) bs x.at k ≡ None → AmendSays new.key new.total new.displayed new.price 9 bs bs
  unfolding AmendSays refusal asks first_no asks_image asks_amend asks_order
  amend_no_9 z = refused amending 9 bs (rw (p.image, ← p.sizes_are, p.price, p.key, p.quantities, sought_absent k os found sought (landed_none s bs k x.at z))) (λ y. omega arith)

  module _ (a : ℕ) (z : standing (row s) bs x.at k ≡ Some a) where
    there : held k os ≡ true
    there = (sought_there k os found sought _ (landed_some s bs k x.at a z)).0

    b : HeldAt k os
    b = held_at k os (good_up s 1 os w.good) there

    over_is : with_order new os ≡ b.before ++ new ∷ b.behind
    over_is = ap (with_order new) b.is ∙ with_old new b.own b.before b.behind 1 b.key (subst (Up 1) b.is (good_up s 1 os w.good))

    yes : book_refusal s amending os ≡ 0
    unfolding book_refusal asks first_no asks_amend asks_order
    yes = rw (p.price, p.key, p.quantities, there)

    pub amend_done : (bs' : List ℕ) → bs' ≡ sets bs a (node_bytes (row s) new) → AmendSays new.key new.total new.displayed new.price 0 bs bs'
    unfolding AmendSays refusal asks changed first_no asks_image asks_amend asks_order
    amend_done bs' i =
        let u = kept_amend s (limits s w.sizes_made) k new.total new.displayed new.price os (known_kept bs s w) yes in
        let was : Setting s b.before b.own b.behind = record { sizes = w.sizes_made; good = rw b.is at w.good; fit = rw b.is at w.fit } in
        let now : Setting s b.before new b.behind = record { sizes = w.sizes_made; good = rw over_is at u.good; fit = rw over_is at u.fit } in
        let at : (way_down s bs (beta s) 0 k).at ≡ Some a =
        sym (ap (λ (v : Trail). v.at) ex ∙ ap (λ (v : ℕ). (way_down s bs v 0 k).at) q.top_is) ∙ standing_there s bs k x.at a z in
        accepted amending bs bs' (rw (p.image, ← p.sizes_are, p.price, p.key, p.quantities, there))
        (subst (λ (v : Sizes). bs' ≡ image v (with_order new os)) p.sizes_are
        (i ∙ held_done s b.before b.own new b.behind b.key was now bs (rw b.is at (sym w.bytes)) a at ∙ ap (image s) (sym over_is)))
