-- From byte to byte: what the loop of `advance` keeps, and what it leaves at a line end and at the end of the bytes.
use Rattle.std.proofs.Common.{ℕ, suc, List, [], ◌∷◌, ◌≡◌, ◌+◌, ◌<◌, ◌≤◌, length, drop, get_or, ◌∙◌, arith}
use mathlib.Core.Path.{refl, sym}
use native.Mathlib.Numerals.{add-one}
use borrow.Author.Tests.{eq-eqb, ne_eqb}
use lib.Seq.{drop-cons, drop-length}
use Rattle.lines.specs.Machine.{Reader, step_of, steps_of, before_end, Advanced}

-- a byte that is no line end stands before the first one
before_more : (b : ℕ) (xs : List ℕ) → (b ≡ 10 → ⊥) → before_end (b ∷ xs) ≡ b ∷ before_end xs
unfolding before_end
before_more b xs e =
    let one : (n : ℕ) → 1 + n ≡ suc n = λ n. omega arith in
    rw (ne_eqb b 10 e, one)

-- what is still to be read gives the same from here on
pub record Advancing (s : List ℕ) (at : ℕ) (r q : Reader) (i : ℕ) : Type 0 where
  pub within : i ≤ length s
  pub same : steps_of r (before_end (drop at s)) ≡ steps_of q (before_end (drop i s))
  pub place : at + length (before_end (drop at s)) ≡ i + length (before_end (drop i s))

module _ (s : List ℕ) (at : ℕ) (r : Reader) where
  pub advancing_start : at ≤ length s → Advancing s at r r at
  advancing_start h = record { within = h; same = refl; place = refl }

  module _ (q : Reader) (i : ℕ) (a : Advancing s at r q i) where
    pub advancing_end : length s ≤ i → Advanced s at r q (length s)
    unfolding before_end steps_of
    advancing_end h =
        let e : i ≡ length s = omega (arith, a.within) in
        let n : drop i s ≡ [] = rw (e, drop-length) in
        record { reader = sym (a.same ∙ rw n); place = sym (a.place ∙ rw (n, e) (omega arith)); within = omega arith }

    module _ (b : ℕ) (here : b ≡ get_or s i 0) (in_it : i < length s) where
      rest : drop i s ≡ b ∷ drop (i + 1) s
      rest = drop-cons s i 0 in_it ∙ rw (here, add-one)

      pub advancing_stop : b ≡ 10 → Advanced s at r q i
      unfolding before_end steps_of
      advancing_stop e =
          record { reader = sym (a.same ∙ rw (rest, eq-eqb b 10 e)); place = sym (a.place ∙ rw (rest, eq-eqb b 10 e) (omega arith)); within = a.within }

      pub advancing_more : (q' : Reader) → q' ≡ step_of q b → (b ≡ 10 → ⊥) → Advancing s at r q' (i + 1)
      unfolding steps_of
      advancing_more q' f e =
          record {
            within = omega arith;
            same = a.same ∙ rw (rest, before_more b (drop (i + 1) s) e, f);
            place = a.place ∙ rw (rest, before_more b (drop (i + 1) s) e) (omega arith);
          }
