-- A node read from bytes field by field, and written so.
use Rattle.std.proofs.Common.{◌≡◌, ℕ, ◌+◌, ◌-◌, ◌%◌, ◌<◌, ◌≤◌, List, [], ◌++◌, length, sym, refl, ap, ◌∙◌, append-nil, add-zero, arith, length-append}
use lib.Seq.{sets}
use Rattle.sizes.specs.Numbers.{big, value_from, field}
use Rattle.sizes.specs.Sizes.{row}
use Rattle.sizes.specs.declared.Sizes.{Sizes}
use Rattle.placement.specs.declared.Order.{Order}
use Rattle.placement.specs.Chunks.{node_bytes}
use Rattle.placement.specs.Decode.{node_in, node_of}
use Rattle.sizes.proofs.Laws.Numbers.{field_drop, length_big}
use Rattle.sizes.proofs.Laws.Parts.{sets_append}
use Rattle.sizes.proofs.Laws.HeaderLoops.{row_one, row_other}

-- THE PRICE: none in version 1, else four bytes
pub price_none : (s : Sizes) (bs : List ℕ) (a : ℕ) → s.version ≡ 1 → 0 ≡ field a (row s - 12) bs
unfolding field value_from
price_none s bs a h = rw (← row_one s h)

pub price_some : (s : Sizes) (bs : List ℕ) (a r : ℕ) → (s.version ≡ 1 → ⊥) → r ≡ field a 4 bs → r ≡ field a (row s - 12) bs
price_some s bs a r h e = e ∙ rw (← row_other s h)

-- READ
pub node_made : (w : ℕ) (bs : List ℕ) (a k t d p : ℕ) → k ≡ field a 4 bs → t ≡ field (a + 4) 4 bs → d ≡ field (a + 8) 4 bs → p ≡ field (a + 12) (w - 12) bs
    → ◌≡◌ {A = Order} (record { key = k; total = t; displayed = d; price = p }) (node_of w bs a)
unfolding node_of node_in
node_made w bs a k t d p ek et ed ep =
    rw (ek, et, ed, ep, field_drop 0 4 a bs, field_drop 4 4 a bs, field_drop 8 4 a bs, field_drop 12 (w - 12) a bs, add-zero)

-- WRITTEN
module _ (s : Sizes) (bs x₁ x₂ x₃ : List ℕ) (a : ℕ) (o : Order) (e₁ : x₁ ≡ sets bs a (big 4 o.key)) (e₂ : x₂ ≡ sets x₁ (a + 4) (big 4 o.total))
    (e₃ : x₃ ≡ sets x₂ (a + 8) (big 4 o.displayed)) where
  nothing : [] ≡ big 0 o.price
  unfolding big
  nothing = refl

  abbrev front : List ℕ
  front = big 4 o.key ++ big 4 o.total ++ big 4 o.displayed

  three : x₃ ≡ sets bs a front
  three =
      e₃
      ∙ rw (sets_append bs a (big 4 o.key ++ big 4 o.total), length-append (big 4 o.key) (big 4 o.total), sets_append bs a (big 4 o.key), length_big 4 o.key, length_big 4 o.total, e₂, e₁)

  pub written_short : (w : ℕ) → w ≡ row s → 12 ≤ w → w ≤ 12 → x₃ ≡ sets bs a (node_bytes (row s) o)
  unfolding node_bytes
  written_short w e l m =
      let twelve : 12 ≡ w = omega arith in
      let q : big 0 o.price ≡ big (row s - 12) o.price = ap (λ (z : ℕ). big (z - 12) o.price) (twelve ∙ e) in
      three ∙ ap (sets bs a) (sym (append-nil front) ∙ ap (λ (y : List ℕ). front ++ y) (nothing ∙ q))

  pub written_long : (w : ℕ) (x₄ : List ℕ) → w ≡ row s → 12 < w → w ≤ 16 → w % 4 ≡ 0 → x₄ ≡ sets x₃ (a + 12) (big 4 o.price) → x₄ ≡ sets bs a (node_bytes (row s) o)
  unfolding node_bytes
  written_long w x₄ e l m d e₄ =
      let sixteen : 16 ≡ w = omega arith in
      let q : big 4 o.price ≡ big (row s - 12) o.price = ap (λ (z : ℕ). big (z - 12) o.price) (sixteen ∙ e) in
      let k : length front ≡ 12 = simp (length-append, length_big) in
      e₄ ∙ ap (λ (y : List ℕ). sets x₃ (a + 12) y) q ∙ ap (λ (y : List ℕ). sets y (a + 12) (big (row s - 12) o.price)) three
      ∙ rw (sets_append bs a front, k)
