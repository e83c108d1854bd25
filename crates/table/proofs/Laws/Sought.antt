-- What a seek gives has the smallest key of all orders in lo..hi that have the reserve, and a seek from the next key on gives the next.
use mathlib.Core.Path.{◌≡◌, refl, sym, ap, subst, ◌∙◌}
use mathlib.Core.Logic.{inl, inr}
use mathlib.Core.Bool.{Bool, true, false, ◌&&◌, cond, false≢true}
use mathlib.Core.List.{List, [], ◌∷◌}
use Prim.Native.Nat.{ℕ, suc, ◌≤◌}
use native.Mathlib.Omega.{arith}
use borrow.Author.Tests.{eq-eqb, ne_eqb, eqb-true, leb-true, le-leb, lt-leb}
use lib.Dec.{leb}
use Rattle.sizes.specs.Header.{sizes_in}
use Rattle.sizes.specs.declared.Sizes.{Sizes}
use Rattle.sizes.proofs.Laws.Sizes.{and_parts}
use Rattle.placement.specs.Blocks.{Among}
use Rattle.placement.specs.declared.Order.{Order}
use Rattle.skiplist.specs.Image.{orders_in, price_good, quantities_good, orders_good}
use Rattle.skiplist.specs.Questions.{first_no, is_key, between, reserve, enough, any_order, lowest, asks_range, asks_seek}
use Rattle.skiplist.specs.Book.{seek, asks, book_refusal, refusal}
use Rattle.skiplist.proofs.Laws.Questions.{passes}
use Rattle.skiplist.proofs.Laws.Parts.{Up, good_parts, good_up}
use Rattle.skiplist.proofs.Laws.Third.{image_parts, taken}
use Rattle.table.specs.Calls.{gives, SeekSays, SeekAs}
use Rattle.table.specs.Promise.{Lowest, SeekLowest, SeekNext, PricesAre}
use Rattle.table.proofs.Laws.Descents.{number_is}

-- what passes both tests
abbrev fit : (lo hi l : ℕ) → Order → Bool
fit lo hi l o = (leb lo o.key && leb o.key hi) && leb l (reserve o)

abbrev fitting : (lo hi l : ℕ) → List Order → List Order
fitting lo hi l os = enough l (between lo hi os)

fitting_more : (lo hi l : ℕ) (x : Order) (xs : List Order) → fitting lo hi l (x ∷ xs) ≡ cond (fit lo hi l x) (x ∷ fitting lo hi l xs) (fitting lo hi l xs)
unfolding between enough
fitting_more lo hi l x xs = go (leb lo x.key && leb x.key hi)
  where
    go : (t : Bool) → enough l (cond t (x ∷ between lo hi xs) (between lo hi xs)) ≡ cond (t && leb l (reserve x)) (x ∷ fitting lo hi l xs) (fitting lo hi l xs)
    go true = refl
    go false = refl

from : (a : ℕ) (os : List Order) → Up a os → (q : Order) → Among q os → a ≤ q.key
from a [] u q h = elim h [ ]
from a (x ∷ xs) u q (inl e) = omega (arith, u.0, ap (λ (o : Order). o.key) e)
from a (x ∷ xs) u q (inr b) = omega (arith, u.0, from (suc x.key) xs u.1 q b)

-- THE FIRST OF RISING ORDERS that passes: none that passes has a smaller key
lowest_of : (lo hi l a : ℕ) (os : List Order) → Up a os → any_order (fitting lo hi l os) ≡ true → Lowest os lo hi l (lowest (fitting lo hi l os))
unfolding between enough any_order lowest
lowest_of lo hi l a [] u e = absurd (false≢true e)
lowest_of lo hi l a (x ∷ xs) u e = rw (fitting_more lo hi l x xs) (go (fit lo hi l x) refl (lowest_of lo hi l (suc x.key) xs u.1) (rw (fitting_more lo hi l x xs) at e))
  where
    later : {o : Order} → fit lo hi l x ≡ false → Lowest xs lo hi l o → (q : Order) → lo ≤ q.key → q.key ≤ hi → l ≤ reserve q → Among q (x ∷ xs) → o.key ≤ q.key
    later f w q y z h (inl i) = absurd (false≢true (sym f ∙ ap (fit lo hi l) (sym i) ∙ rw (le-leb lo q.key y, le-leb q.key hi z, le-leb l (reserve q) h)))
    later f w q y z h (inr b) = w.smallest q b y z h

    go : (t : Bool) → fit lo hi l x ≡ t → (any_order (fitting lo hi l xs) ≡ true → Lowest xs lo hi l (lowest (fitting lo hi l xs))) →
        any_order (cond t (x ∷ fitting lo hi l xs) (fitting lo hi l xs)) ≡ true → Lowest (x ∷ xs) lo hi l (lowest (cond t (x ∷ fitting lo hi l xs) (fitting lo hi l xs)))
    go true f ih e =
        let w = and_parts (leb lo x.key && leb x.key hi) (leb l (reserve x)) f in
        let v = and_parts (leb lo x.key) (leb x.key hi) w.0 in
        record {
          held = inl refl;
          inside = (leb-true lo x.key v.0, leb-true x.key hi v.1);
          has = leb-true l (reserve x) w.1;
          smallest = λ q b y z h. from x.key (x ∷ xs) (omega arith, u.1) q b;
        }
    go false f ih e =
        let w = ih e in
        record { held = inr w.held; inside = w.inside; has = w.has; smallest = λ q b y z h. later f w q y z h b }

-- .. and those behind it are what passes from the next key on
same_between : (lo hi a : ℕ) (os : List Order) → lo ≤ a → Up a os → between lo hi os ≡ between a hi os
unfolding between
same_between lo hi a [] h u = refl
same_between lo hi a (x ∷ xs) h u =
    let e = same_between lo hi (suc x.key) xs (omega (arith, u.0)) u.1 ∙ sym (same_between a hi (suc x.key) xs (omega (arith, u.0)) u.1) in
    rw (le-leb lo x.key (omega (arith, u.0)), le-leb a x.key u.0, e)

next_of : (lo hi l a : ℕ) (os : List Order) → Up a os → any_order (fitting lo hi l os) ≡ true →
    fitting lo hi l os ≡ lowest (fitting lo hi l os) ∷ fitting (suc (lowest (fitting lo hi l os)).key) hi l os
unfolding between enough any_order lowest
next_of lo hi l a [] u e = absurd (false≢true e)
next_of lo hi l a (x ∷ xs) u e = subst (λ (ys : List Order). ys ≡ lowest ys ∷ fitting (suc (lowest ys).key) hi l (x ∷ xs)) (sym (fitting_more lo hi l x xs)) (go (fit lo hi l x) refl (next_of lo hi l (suc x.key) xs u.1) (rw (fitting_more lo hi l x xs) at e))
  where
    rest : (k : ℕ) → x.key ≤ k → fitting (suc k) hi l xs ≡ fitting (suc k) hi l (x ∷ xs)
    rest k h = sym (rw (lt-leb (suc k) x.key (omega arith)))

    go : (t : Bool) → fit lo hi l x ≡ t → (any_order (fitting lo hi l xs) ≡ true → fitting lo hi l xs ≡ lowest (fitting lo hi l xs) ∷ fitting (suc (lowest (fitting lo hi l xs)).key) hi l xs) →
        any_order (cond t (x ∷ fitting lo hi l xs) (fitting lo hi l xs)) ≡ true → cond t (x ∷ fitting lo hi l xs) (fitting lo hi l xs)
        ≡ lowest (cond t (x ∷ fitting lo hi l xs) (fitting lo hi l xs)) ∷ fitting (suc (lowest (cond t (x ∷ fitting lo hi l xs) (fitting lo hi l xs))).key) hi l (x ∷ xs)
    go true f ih e =
        let w = and_parts (leb lo x.key) (leb x.key hi) (and_parts (leb lo x.key && leb x.key hi) (leb l (reserve x)) f).0 in
        ap (λ ys. x ∷ ys) (ap (enough l) (same_between lo hi (suc x.key) xs (omega (arith, leb-true lo x.key w.0)) u.1) ∙ rest x.key (omega arith))
    go false f ih e =
        let o = lowest (fitting lo hi l xs) in
        ih e ∙ ap (λ ys. o ∷ ys) (rest o.key (omega (arith, from (suc x.key) xs u.1 o (lowest_of lo hi l (suc x.key) xs u.1 e).held)))

pub seek_next : SeekNext
unfolding SeekNext
seek_next s os lo hi l g e = next_of lo hi l 1 os (good_up s 1 os g) e

-- A SEEK
any_there : (x : List ℕ) (lo hi l : ℕ) → refusal (seek lo hi l) x ≡ 0 → any_order (enough l (between lo hi (orders_in x))) ≡ true
unfolding book_refusal asks first_no asks_seek asks_range
any_there x lo hi l e =
    let k = passes 4 (is_key lo && is_key hi) _ (taken (seek lo hi l) x e).1 in
    (passes 11 (any_order (enough l (between lo hi (orders_in x)))) 0 (passes 9 (leb lo hi) _ k.1).1).0

pub seek_lowest : SeekLowest
unfolding SeekLowest SeekSays SeekAs gives
seek_lowest x lo hi l r w n =
    let o = lowest (enough l (between lo hi (orders_in x))) in
    let e : refusal (seek lo hi l) x ≡ 0 = sym (number_is _ 0 o r w) ∙ n in
    let u = good_up (sizes_in x) 1 (orders_in x) (image_parts x (taken (seek lo hi l) x e).0).orders_kept.good in
    let v : r ≡ gives 0 0 o = w ∙ ap (λ (i : ℕ). gives i 0 o) e in
    rw v (lowest_of lo hi l 1 (orders_in x) u (any_there x lo hi l e))

-- THE PRICES of an image's orders
price_as : (s : Sizes) (a : ℕ) (os : List Order) → orders_good s a os ≡ true → (o : Order) → Among o os → price_good s o.price ≡ true
unfolding quantities_good
price_as s a [] g o h = elim h [ ]
price_as s a (x ∷ xs) g o (inl e) =
    let w = and_parts ((leb 1 x.total && leb x.total 4294967295) && leb x.displayed x.total) (price_good s x.price && leb x.price 4294967295) (good_parts s a x xs g).quantity in
    rw e (and_parts (price_good s x.price) (leb x.price 4294967295) w.1).0
price_as s a (x ∷ xs) g o (inr b) = price_as s (suc x.key) xs (good_parts s a x xs g).others o b

pub prices_are : PricesAre
unfolding PricesAre price_good
prices_are x i o h =
    let e = price_as (sizes_in x) 1 (orders_in x) (image_parts x i).orders_kept.good o h in (
      λ v. eqb-true o.price 0 (rw (eq-eqb (sizes_in x).version 1 v) at e),
      λ v. leb-true 1 o.price (rw (ne_eqb (sizes_in x).version 1 v) at e),
    )
