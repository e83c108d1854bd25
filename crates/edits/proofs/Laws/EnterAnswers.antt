-- An enter's last questions, 13, 7 and 8, and what it leaves.
use mathlib.Core.Path.{◌≡◌, refl, sym, ap, ◌∙◌, subst}
use mathlib.Core.Bool.{true, false, and-false}
use mathlib.Core.List.{List, ◌∷◌, ◌++◌}
use Prim.Native.Nat.{ℕ, suc, ◌+◌, ◌*◌, ◌≤◌, ◌<◌}
use native.Mathlib.Omega.{arith}
use borrow.Author.Tests.{lt-leb, lt-ltb, le-ltb}
use borrow.Author.Rules.{Fits-under}
use mir.Syntax.{w32}
use mir.Val.{Fits}
use lib.Dec.{leb}
use lib.ListN.{length, length-append}
use lib.Seq.{sets}
use Rattle.sizes.specs.Numbers.{big}
use Rattle.sizes.specs.Hash.{level}
use Rattle.sizes.specs.Header.{sizes_in, held_in}
use Rattle.sizes.specs.declared.Sizes.{Sizes}
use Rattle.placement.specs.declared.Order.{Order}
use Rattle.skiplist.specs.Lists.{first_key, chunks}
use Rattle.skiplist.specs.Image.{image, is_image, orders_in, fits}
use Rattle.skiplist.specs.Questions.{first_no, asks_image, asks_order, asks_room, asks_enter, is_key, held, with_order}
use Rattle.skiplist.specs.Book.{Call, enter, asks, changed, book_refusal, refusal}
use Rattle.skiplist.proofs.Laws.Parts.{up_from, good_up}
use Rattle.skiplist.proofs.Laws.Edits.{head_part, level_most}
use Rattle.skiplist.proofs.Laws.Shapes.{with_new}
use Rattle.skiplist.proofs.Laws.Kept.{fits_parts, fits_make, kept_enter}
use Rattle.table.specs.Calls.{EnterSays}
use Rattle.levels.specs.Edit.{Way, Leads, Grows}
use Rattle.readings.specs.Visit.{Known}
use Rattle.readings.proofs.Laws.Answers.{known_at}
use Rattle.readings.proofs.Laws.Replies.{key_least}
use Rattle.edits.specs.declared.changes.Change.TheVariants.{Enter}
use Rattle.edits.specs.Change.{Setting, Turned, Sure, Free}
use Rattle.edits.proofs.Laws.EditAnswers.{refused, accepted, image_held, known_kept, FreeAt, free_at}

-- the number and the table, as the book of sizes s has them
module _ (bs : List ℕ) (s : Sizes) (o : Order) (p : Sure bs s o) where
  -- the orders there are, and the one that is entered
  abbrev os : List Order
  os = orders_in bs

  abbrev entering : Call
  entering = enter o.key o.total o.displayed o.price

  abbrev Says : (n : ℕ) → (now : List ℕ) → Type 0
  Says n z = EnterSays o.key o.total o.displayed o.price n bs z

  refuses : (n : ℕ) → book_refusal s entering os ≡ n → (n ≡ 0 → ⊥) → Says n bs
  unfolding EnterSays refusal book_refusal first_no asks_image
  refuses n e h = refused entering n bs (rw p.image (subst (λ (y : Sizes). book_refusal y entering os ≡ n) p.sizes_are e)) h

  accepts : (bs' : List ℕ) → book_refusal s entering os ≡ 0 → bs' ≡ image s (with_order o os) → Says 0 bs'
  unfolding EnterSays refusal book_refusal changed first_no asks_image
  accepts bs' e h =
      let r : book_refusal (sizes_in bs) entering os ≡ 0 = subst (λ (y : Sizes). book_refusal y entering os ≡ 0) p.sizes_are e in
      accepted entering bs bs' (rw (p.image, r)) (subst (λ (y : Sizes). bs' ≡ image y (with_order o os)) p.sizes_are h)

  -- question 13
  pub enter_no_13 : held o.key os ≡ true → Says 13 bs
  unfolding book_refusal asks first_no asks_enter asks_order
  enter_no_13 h = refuses 13 (rw (p.price, p.key, p.quantities, h)) (λ y. omega arith)

  module _ (free : held o.key os ≡ false) (m : ℕ) (em : m ≡ held_in bs) where
    -- question 7
    pub enter_no_7 : s.orders ≤ m → Says 7 bs
    unfolding book_refusal asks first_no asks_enter asks_order asks_room
    enter_no_7 h = refuses 7 (rw (p.price, p.key, p.quantities, free, le-ltb (length os) s.orders (omega (arith, image_held bs p.image)))) (λ y. omega arith)

    pub enter_free : m < s.orders → Free bs s o.key
    enter_free h = record { absent_is = free; more = omega (arith, em) }

-- a key that is free, while there are fewer orders than N
module _ (bs : List ℕ) (s : Sizes) (own : Order) (p : Sure bs s own) (f : Free bs s own.key) where
  abbrev old : List Order
  old = orders_in bs

  abbrev k : ℕ
  k = own.key

  w : Known s bs
  w = known_at bs s p.image p.sizes_are

  at : FreeAt k old
  at = free_at k old (good_up s 1 old w.good) f.absent_is

  enter_is : with_order own old ≡ at.before ++ own ∷ at.behind
  enter_is = ap (with_order own) at.is ∙ with_new own at.before at.behind at.low at.high

  new_length : length (with_order own old) ≡ suc (length old)
  new_length = rw (enter_is, at.is) (simp length-append (omega arith))

  more : length old < s.orders
  more = omega (arith, f.more, image_held bs p.image)

  module _ (l : ℕ) (el : l ≡ level s k) (full first g : ℕ) (n : full ≡ length (chunks s old)) (ld : Leads s bs l k first) (c : Grows s bs first l k g) where
    way : Way s bs k at.before at.behind
    way = record {
      good = w.sizes_made;
      orders = rw at.is at w.good;
      fit = rw at.is at w.fit;
      is = rw at.is at (sym w.bytes);
      low = at.low;
      high = up_from at.behind (omega arith) at.high;
      pos = key_least k (is_key k) refl p.key;
    }

    leads : first ≡ first_key (head_part s l at.before)
    unfolding Leads
    leads = ld at.before at.behind way (omega (arith, el, level_most s k))

    counted : full + g ≡ length (chunks s (with_order own old))
    unfolding Grows
    counted = rw enter_is (omega (arith, n, ap (λ (y : List Order). length (chunks s y)) at.is, c at.before own at.behind way leads refl el))

    -- question 8
    pub enter_no_8 : s.blocks < full + g → Says bs s own p 8 bs
    unfolding book_refusal asks first_no asks_enter asks_order asks_room fits
    enter_no_8 h =
        refuses bs s own p 8
        (rw (
          p.price,
          p.key,
          p.quantities,
          f.absent_is,
          lt-ltb (length old) s.orders more,
          lt-leb (length (chunks s (with_order own old))) s.blocks (omega (arith, counted)),
          and-false (leb (length (with_order own old)) s.orders),
        ))
        (λ y. omega arith)

    yes : full + g ≤ s.blocks → book_refusal s (entering bs s own p) old ≡ 0
    unfolding book_refusal asks first_no asks_enter asks_order asks_room
    yes h =
        let fit = fits_make s (with_order own old) (rw new_length more) (omega (arith, counted)) in
        rw (p.price, p.key, p.quantities, f.absent_is, lt-ltb (length old) s.orders more, fit)

    pub enter_done : (m : ℕ) (bs₁ bs' : List ℕ) → full + g ≤ s.blocks → Turned s first l (Enter own) bs bs₁ → m ≡ held_in bs → bs' ≡ sets bs₁ 11 (big 2 (m + 1)) → Says bs s own p 0 bs'
    unfolding Turned
    enter_done m bs₁ bs' h v e i =
        let r : m + 1 ≡ length (with_order own old) = omega (arith, new_length, image_held bs p.image) in
        let u = kept_enter s k own.total own.displayed own.price old (known_kept bs s w) (yes h) in
        let z : Setting s at.before own at.behind = record { sizes = w.sizes_made; good = rw enter_is at u.good; fit = rw enter_is at u.fit } in
        accepts bs s own p bs' (yes h) (i ∙ rw (r, enter_is) (v at.before own at.behind z refl leads el way.is))

-- the sum of question 8 is one that 32 bits hold
pub enter_sum : (bs : List ℕ) (s : Sizes) (l top full g : ℕ) → full ≡ length (chunks s (orders_in bs)) → is_image bs ≡ true → s ≡ sizes_in bs → g ≤ 2 * l → l ≤ top → top ≤ 19 → Fits w32 (full + g)
enter_sum bs s l top full g n i q h lt most =
    let w = known_at bs s i q in
    Fits-under w32 (full + g) 65574 (omega (arith, n, (fits_parts s (orders_in bs) w.fit).room, w.shaped.most)) tt
