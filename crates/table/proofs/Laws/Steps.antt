-- Laws of what the walk's small functions give.
use mathlib.Core.Path.{◌≡◌, refl, sym, ap, ◌∙◌}
use mathlib.Core.Bool.{Bool, true, false, ◌&&◌, not, cond, and-false}
use mathlib.Core.Logic.{◌⊎◌, inl, inr}
use mathlib.Core.List.{List}
use Prim.Native.Nat.{ℕ, ◌+◌, ◌*◌, ◌-◌, ◌≤◌, ◌<◌}
use native.Mathlib.Nat.{add-zero}
use native.Mathlib.Omega.{arith}
use lib.Dec.{ltb, leb, eqb}
use lib.ListN.{drop}
use borrow.Author.Tests.{eq-eqb, ne_eqb, eqb-true, eqb-false, le-leb, leb-true, ltb-true}
use Rattle.sizes.specs.Numbers.{field}
use Rattle.sizes.specs.Sizes.{prime, row}
use Rattle.placement.specs.Decode.{node_in, node_of}
use Rattle.sizes.specs.declared.Sizes.{Sizes}
use Rattle.placement.specs.declared.Order.{Order}
use Rattle.sizes.proofs.Laws.Sizes.{and_parts}
use Rattle.sizes.proofs.Laws.Numbers.{field_drop}
use Rattle.placement.proofs.Laws.Nodes.{price_none, price_some}
use Rattle.placement.proofs.Laws.Reading.{key_of}
use Rattle.skiplist.specs.Image.{price_good}
use Rattle.table.specs.declared.Seen.{Seen}
use Rattle.table.specs.Walk.{price_ok, counts, enters_ok}

-- where a price stands
pub place_one : (s : Sizes) → s.version ≡ 1 → (0 ≡ 3 * (row s - 12)) × (0 + 4 ≤ row s)
unfolding row
place_one s e = (rw (eq-eqb _ _ e), rw (eq-eqb _ _ e) (omega arith))

pub place_other : (s : Sizes) → (s.version ≡ 1 → ⊥) → (12 ≡ 3 * (row s - 12)) × (12 + 4 ≤ row s)
unfolding row
place_other s e = (rw (ne_eqb _ _ e), rw (ne_eqb _ _ e) (omega arith))

-- the price of a node
module _ (s : Sizes) (l : ℕ) (bs : List ℕ) (a : ℕ) (n : Order) (is : n ≡ node_of (row s) bs a) where
  -- .. above level 1 and for the front
  pub priced_none : (m : Order) → m ≡ node_of (row s) bs a → (l ≡ 1 → ⊥) ⊎ ((l ≡ 1) × (n.key ≡ 0)) → eqb m.price 0 ≡ price_ok s l n
  unfolding price_ok
  priced_none m em h = let same : m.price ≡ n.price = ap (λ (x : Order). x.price) (em ∙ sym is) in rw same (go h)
    where
      go : (l ≡ 1 → ⊥) ⊎ ((l ≡ 1) × (n.key ≡ 0)) → eqb n.price 0 ≡ cond (eqb l 1 && not (eqb n.key 0)) (price_good s n.price) (eqb n.price 0)
      go (inl e) = rw (ne_eqb l 1 e)
      go (inr e) = rw (eq-eqb n.key 0 e.1, and-false)

  -- .. of an order: one number is read, which in version 1 is the key
  pub priced_order : l ≡ 1 → (n.key ≡ 0 → ⊥) → (i v : ℕ) → i ≡ 3 * (row s - 12) → v ≡ field (a + i) 4 bs → leb 1 v ≡ price_ok s l n
  unfolding price_ok price_good node_of node_in
  priced_order e k i v ei ev = rw (eq-eqb l 1 e, ne_eqb n.key 0 k) (go (eqb s.version 1) refl)
    where
      go : (t : Bool) → eqb s.version 1 ≡ t → leb 1 v ≡ cond t (eqb n.price 0) (leb 1 n.price)
      go true et =
          let h : s.version ≡ 1 = eqb-true s.version 1 et in
          let u : v ≡ n.key = ev ∙ ap (λ (z : ℕ). field (a + z) 4 bs) (ei ∙ sym (place_one s h).0) ∙ rw add-zero (sym (ap (λ (x : Order). x.key) is ∙ key_of (row s) bs a)) in
          let p : n.price ≡ 0 = ap (λ (x : Order). x.price) is ∙ sym (price_none s (drop a bs) 12 h) in
          le-leb 1 v (omega (arith, u, k)) ∙ rw p
      go false et =
          let h : s.version ≡ 1 → ⊥ = eqb-false s.version 1 et in
          let u : v ≡ field 12 4 (drop a bs) = ev ∙ ap (λ (z : ℕ). field (a + z) 4 bs) (ei ∙ sym (place_other s h).0) ∙ sym (field_drop 12 4 a bs) in
          ap (leb 1) (price_some s (drop a bs) 12 v h u ∙ sym (ap (λ (x : Order). x.price) is))

-- what such a test says
pub enters_parts : (b n : ℕ) (x : Seen) → enters_ok b n x ≡ true → (1 ≤ n) × (n ≤ b) × (1 ≤ x.chunks)
unfolding enters_ok
enters_parts b n x c =
    let q = and_parts (leb 1 n) (leb n b && leb 1 x.chunks) c in
    let r = and_parts (leb n b) (leb 1 x.chunks) q.1 in
    (leb-true 1 n q.0, leb-true n b r.0, leb-true 1 x.chunks r.1)

pub counts_parts : (key : ℕ) (x : Seen) → counts key x ≡ true → (x.low ≤ key) × (key < prime) × (1 ≤ x.orders)
unfolding counts
counts_parts key x c =
    let q = and_parts (leb x.low key) (ltb key prime && leb 1 x.orders) c in
    let r = and_parts (ltb key prime) (leb 1 x.orders) q.1 in
    (leb-true x.low key q.0, ltb-true key prime r.0, leb-true 1 x.orders r.1)
