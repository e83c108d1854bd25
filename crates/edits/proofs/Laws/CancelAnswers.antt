-- A cancel's questions, 5 and 9, and what it leaves.
use mathlib.Core.Path.{◌≡◌, sym, ap, ◌∙◌, subst}
use mathlib.Core.Bool.{true, false}
use mathlib.Core.List.{List, ◌∷◌, ◌++◌}
use Prim.Native.Nat.{ℕ, suc, ◌-◌, ◌≤◌}
use native.Mathlib.Omega.{arith}
use lib.ListN.{length, length-append}
use lib.Seq.{sets}
use Rattle.sizes.specs.Numbers.{big}
use Rattle.sizes.specs.Hash.{level}
use Rattle.sizes.specs.Header.{sizes_in, held_in}
use Rattle.sizes.specs.declared.Sizes.{Sizes}
use Rattle.skiplist.specs.Image.{image, is_image, orders_in}
use Rattle.skiplist.specs.Questions.{first_no, asks_image, asks_key, is_key, held, without}
use Rattle.skiplist.specs.Book.{cancel, asks, changed, refusal}
use Rattle.skiplist.proofs.Laws.Parts.{Up, good_up, without_here}
use Rattle.skiplist.proofs.Laws.Edits.{level_most}
use Rattle.table.specs.Calls.{CancelSays}
use Rattle.levels.specs.Edit.{Leads}
use Rattle.readings.proofs.Laws.Answers.{known_image, known_at}
use Rattle.edits.specs.declared.changes.Change.TheVariants.{Cancel}
use Rattle.edits.specs.Change.{Setting, Turned}
use Rattle.edits.proofs.Laws.Settings.{held_way}
use Rattle.edits.proofs.Laws.EditAnswers.{refused, accepted, image_held, HeldAt, held_at}

module _ (bs : List ℕ) (k : ℕ) where
  pub cancel_no_5 : is_image bs ≡ true → is_key k ≡ false → CancelSays k 5 bs bs
  unfolding CancelSays refusal asks first_no asks_image asks_key
  cancel_no_5 e q = refused (cancel k) 5 bs (rw (e, q)) (λ z. omega arith)

  pub cancel_no_9 : is_image bs ≡ true → is_key k ≡ true → held k (orders_in bs) ≡ false → CancelSays k 9 bs bs
  unfolding CancelSays refusal asks first_no asks_image asks_key
  cancel_no_9 e q h = refused (cancel k) 9 bs (rw (e, q, h)) (λ z. omega arith)

  module _ (e : is_image bs ≡ true) (h : held k (orders_in bs) ≡ true) where
    at : HeldAt k (orders_in bs)
    at = held_at k (orders_in bs) (good_up (sizes_in bs) 1 (orders_in bs) (known_image bs e).good) h

    out_is : without k (orders_in bs) ≡ at.before ++ at.behind
    out_is =
        ap (without k) at.is
        ∙ subst (λ (n : ℕ). without n (at.before ++ at.own ∷ at.behind) ≡ at.before ++ at.behind) at.key
        (without_here at.before at.own at.behind 1 (subst (Up 1) at.is (good_up (sizes_in bs) 1 (orders_in bs) (known_image bs e).good)))

    out_length : suc (length (without k (orders_in bs))) ≡ length (orders_in bs)
    out_length = rw (out_is, at.is) (simp length-append (omega arith))

    -- there is an order to take out
    pub held_some : (m : ℕ) → m ≡ held_in bs → 1 ≤ m
    held_some m q = omega (arith, image_held bs e, out_length)

    pub cancel_done : (s : Sizes) (l f m : ℕ) (bs₁ bs' : List ℕ) → is_key k ≡ true → s ≡ sizes_in bs → l ≡ level s k → Leads s bs l k f → Turned s f l (Cancel k) bs bs₁ → m ≡ held_in bs → bs' ≡ sets bs₁ 11 (big 2 (m - 1)) → CancelSays k 0 bs bs'
    unfolding CancelSays refusal asks changed first_no asks_image asks_key Turned Leads
    cancel_done s l f m bs₁ bs' q es el ld c n i =
        let w = known_at bs s e es in
        let r : m - 1 ≡ length (without k (orders_in bs)) = omega (arith, image_held bs e, out_length) in
        let v : Setting s at.before at.own at.behind = record { sizes = w.sizes_made; good = rw at.is at w.good; fit = rw at.is at w.fit } in
        let was : bs ≡ image s (at.before ++ at.own ∷ at.behind) = rw at.is at (sym w.bytes) in
        let leads = ld at.before (at.own ∷ at.behind) (held_way s at.before at.own at.behind v bs k was at.key)
        (omega (arith, el, level_most s k)) in
        accepted (cancel k) bs bs' (rw (e, q, h))
        (subst (λ (x : Sizes). bs' ≡ image x (without k (orders_in bs))) es
        (i ∙ rw (r, out_is) (c at.before at.own at.behind v at.key leads (el ∙ ap (level s) (sym at.key)) was)))
