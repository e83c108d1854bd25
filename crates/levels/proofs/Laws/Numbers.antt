-- What is written of a path: numbers, one after the other; and that the way, on any bytes, does not depend on what they are written to.
use mathlib.Core.Path.{◌≡◌, refl, sym, ap, ◌∙◌}
use mathlib.Core.Bool.{Bool, true, false, cond}
use mathlib.Core.List.{List, [], ◌∷◌, ◌++◌}
use Prim.Native.Nat.{ℕ, zero, suc, ◌+◌, ◌*◌, ◌≤◌}
use native.Mathlib.Nat.{add-zero}
use native.Mathlib.Omega.{arith}
use borrow.Author.Tests.{le-leb}
use lib.Dec.{ltb, leb, eqb}
use lib.ListN.{length, drop, length-append}
use lib.Seq.{sets}
use Rattle.sizes.specs.Numbers.{big, rows}
use Rattle.placement.specs.Labels.{label}
use Rattle.placement.specs.Place.{search_in}
use Rattle.sizes.specs.declared.Sizes.{Sizes}
use Rattle.sizes.proofs.Laws.Numbers.{length_big}
use Rattle.sizes.proofs.Laws.Parts.{sets_append, drop_sets}
use Rattle.placement.proofs.Laws.Cells.{cond_valid}
use Rattle.skiplist.specs.Paths.{path_bytes}
use Rattle.levels.specs.declared.Trail.{Trail}
use Rattle.levels.specs.Ways.{Trek, trek, coming, number_in, found_upto, found_block, trod, chunks_in, along_in, down_in}
use Rattle.levels.proofs.Laws.Ways.{number_long}

-- NUMBERS of the path, from number c on
unfoldable pub numbers_in : (path : List ℕ) → (c : ℕ) → (is : List ℕ) → List ℕ
numbers_in o c [] = o
numbers_in o c (i ∷ is) = numbers_in (number_in o c i) (c + 1) is

pub numbers_append : (o : List ℕ) (c : ℕ) (is js : List ℕ) → numbers_in o c (is ++ js) ≡ numbers_in (numbers_in o c is) (c + length is) js
unfolding numbers_in
numbers_append o c [] js = rw add-zero
numbers_append o c (i ∷ is) js =
    let e : c + 1 + length is ≡ c + length (i ∷ is) = omega arith in
    rw (← e) (numbers_append (number_in o c i) (c + 1) is js)

pub numbers_long : (o : List ℕ) (c : ℕ) (is : List ℕ) → length (numbers_in o c is) ≡ length o
unfolding numbers_in
numbers_long o c [] = refl
numbers_long o c (i ∷ is) = numbers_long (number_in o c i) (c + 1) is ∙ number_long o c i

-- what stands behind them stays
pub numbers_behind : (o : List ℕ) (c : ℕ) (is : List ℕ) (n : ℕ) → 2 * (c + length is) ≤ n → drop n (numbers_in o c is) ≡ drop n o
unfolding numbers_in number_in
numbers_behind o c [] n h = refl
numbers_behind o c (i ∷ is) n h =
    numbers_behind (number_in o c i) (c + 1) is n (omega arith)
    ∙ cond_valid (λ (x : List ℕ). drop n x ≡ drop n o) (leb (2 * c + 2) (length o)) (drop_sets n o (2 * c) (big 2 i) (omega (arith, length_big 2 i))) refl

-- where there is room for all, they are the path's bytes
pub numbers_room : (o : List ℕ) (c : ℕ) (is : List ℕ) → 2 * (c + length is) ≤ length o → numbers_in o c is ≡ sets o (2 * c) (path_bytes is)
unfolding numbers_in number_in path_bytes rows
numbers_room o c [] h = refl
numbers_room o c (i ∷ is) h =
    let e : 2 * (c + 1) ≡ 2 * c + length (big 2 i) = omega (arith, length_big 2 i) in
    numbers_room (number_in o c i) (c + 1) is (omega (arith, number_long o c i))
    ∙ rw (e, le-leb (2 * c + 2) (length o) (omega arith)) (sym (sets_append o (2 * c) (big 2 i) (path_bytes is)))

-- A WAY: from x on it comes to a trail and has so many numbers more, whatever the output
pub record Goes (way : Trek → Trek) (x : Trail) : Type 0 where
  pub trail : Trail
  pub numbers : List ℕ
  pub count : trail.count ≡ x.count + length numbers
  pub is : (o : List ℕ) → way (trek x o) ≡ trek trail (numbers_in o x.count numbers)

goes_no : (x : Trail) → Goes (λ z. z) x
unfolding numbers_in
goes_no x = record { trail = x; numbers = []; count = omega arith; is = λ o. refl }

goes_on : (f g : Trek → Trek) (x : Trail) (p : Goes f x) → Goes g p.trail → Goes (λ z. g (f z)) x
goes_on f g x p q = record {
  trail = q.trail;
  numbers = p.numbers ++ q.numbers;
  count = rw length-append (omega (arith, p.count, q.count));
  is = λ o. ap g (p.is o) ∙ q.is _ ∙ rw (p.count, numbers_append);
}

goes_if : (b : Bool) (f g : Trek → Trek) (x : Trail) → Goes f x → Goes g x → Goes (λ z. cond b (f z) (g z)) x
goes_if true f g x p q = p
goes_if false f g x p q = q

module _ (s : Sizes) (bs : List ℕ) where
  goes_trod : (i n : ℕ) (x : Trail) → Goes (trod s bs i n) x
  unfolding trod numbers_in
  goes_trod i n x = record { trail = (trod s bs i n (trek x [])).trail; numbers = i ∷ []; count = omega arith; is = λ o. refl }

  goes_chunks : (l f y m j : ℕ) (x : Trail) → Goes (chunks_in s bs l f y m j) x
  unfolding chunks_in
  goes_chunks l f y zero j x = goes_no x
  goes_chunks l f y (suc m) j x =
      let r = search_in s bs (label l f j) in
      let n = found_upto s bs y r in
      let t = goes_trod (found_block r) n x in
      goes_if (eqb n 0) _ _ x (goes_no x) (goes_if (ltb n s.nodes) _ _ x t (goes_on _ (chunks_in s bs l f y m (suc j)) x t (goes_chunks l f y m (suc j) t.trail)))

  goes_along : (l y : ℕ) (x : Trail) → Goes (along_in s bs l y) x
  unfolding along_in
  goes_along l y x =
      let c = goes_chunks l x.first y s.blocks 0 (coming x.count x.first) in
      record { trail = c.trail; numbers = c.numbers; count = c.count; is = c.is }

  pub goes_down : (l y m : ℕ) (x : Trail) → Goes (down_in s bs l y m) x
  unfolding down_in
  goes_down l y zero x = goes_no x
  goes_down l y (suc m) x = let a = goes_along (suc m + l) y x in goes_on _ (down_in s bs l y m) x a (goes_down l y m a.trail)
