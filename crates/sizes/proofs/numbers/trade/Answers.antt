-- What the library leaves before the cut, and what past it, is the two parts written over the bytes.
use Rattle.std.proofs.Common.{◌≡◌, refl, ap, ◌∙◌, ℕ, suc, ◌+◌, ◌-◌, ◌≤◌, List, [], ◌∷◌, ◌++◌, length, take, drop, set, arith, length-take-le, append_assoc}
use Rattle.std.proofs.Math.Seq.{sets, sets-eq, length-sets, drop-drop, take-set-lt, take-take}
use Rattle.std.proofs.lemmas.Slice.{between_is}
use Rattle.sizes.proofs.Laws.Parts.{part_written, part_of, length_part, drop_sets}
use borrow.Rule.Slice.PartMut.{put_mid}
use Rattle.sizes.proofs.numbers.trade.Goals as goal

take_sets_in : (n : ℕ) (l : List ℕ) (a : ℕ) (vs : List ℕ) → a + length vs ≤ n → take n (sets l a vs) ≡ sets (take n l) a vs
take_sets_in n l a [] h = refl
take_sets_in n l a (v ∷ vs) h = take_sets_in n (set l a v) (suc a) vs (omega arith) ∙ ap (λ (z : List ℕ). sets z (suc a) vs) (take-set-lt n l a v (omega arith))

module _ (l : List ℕ) (a b n : ℕ) (h : a + n ≤ b) (k : b + n ≤ length l) where
  abbrev before : List ℕ
  before = take n (drop a l)

  abbrev after : List ℕ
  after = take n (drop b l)

  part_in : take (a + n - a) (drop a (take b l)) ≡ before
  part_in =
      let m : n ≤ b - a = omega arith in
      part_of a n (take b l) ∙ rw (← between_is l a b) (take-take n (b - a) (drop a l) m)

  traded : (lo hi ys zs : List ℕ) → lo ≡ take b l → hi ≡ drop b l → ys ≡ take n hi → zs ≡ take (a + n - a) (drop a lo)
      → put_mid a (a + n - a) lo ys ++ (zs ++ drop n hi) ≡ sets (sets l a after) b before
  traded lo hi ys zs el eh ey ez =
      let la : length before ≡ n = length_part n a l (omega arith) in
      let lb : length after ≡ n = length_part n b l k in
      let r : a + n ≤ length (take b l) = omega (arith, length-take-le b l (omega arith)) in
      let y : ys ≡ after = ey ∙ ap (take n) eh in
      let z : zs ≡ before = ez ∙ ap (λ (x : List ℕ). take (a + n - a) (drop a x)) el ∙ part_in in
      let g : b + length before ≤ length (sets l a after) = omega (arith, length-sets l a after) in
      rw (el, eh, z, part_written (take b l) a n after r lb ys y, sets-eq before (sets l a after) b g, la, take_sets_in b l a after (omega arith), drop_sets (b + n) l a after (omega arith), drop-drop, append_assoc)

pub returns : goal.returns
returns c =
    let d = c.split_at_mut-before.ensures in
    let e = c.swap_with_slice.ensures in
    traded c.args.s.now c.args.low c.args.high c.args.n c.requires.0 c.requires.1 _ _ _ _ d.front d.back e.after e.other_after
