-- A make's numbers: the seed's bytes, and the length of the table.
use mathlib.Core.Path.{◌≡◌, ap, sym, ◌∙◌}
use mathlib.Core.Bool.{Bool, true, false}
use Rattle.std.proofs.Common.{Option, None, Some, MatchOption, unwrap_or}
use mathlib.Core.List.{List, [], ◌∷◌, ◌++◌, append_assoc, append-nil}
use Prim.Native.Nat.{ℕ, ◌+◌, ◌*◌, ◌≤◌, ◌<◌}
use native.Mathlib.Numerals.{add-one}
use native.Mathlib.Omega.{arith}
use lib.ListN.{length, get_or, take, drop, length-drop}
use lib.Seq.{sets, length-take-le, take-suc, take_all}
use Rattle.sizes.specs.Numbers.{big, rows}
use Rattle.sizes.specs.Sizes.{beta, row, sizes_good}
use Rattle.sizes.specs.Header.{seed_bytes, block_long, table_long}
use Rattle.sizes.specs.declared.Sizes.{Sizes}
use Rattle.sizes.proofs.Laws.Numbers.{length_big}
use Rattle.skiplist.specs.Questions.{parameters, sizes}
use Rattle.table.specs.Calls.{MakeSays}
use Rattle.placement.proofs.Laws.Cells.{take_sets_end}
use Rattle.answers.specs.Asked.{piece, seed_asked, sizes_asked, plain_asked, long_asked, MakeAsked}

-- THE SEED, number by number
rows_snoc : (xs : List ℕ) (v : ℕ) → seed_bytes (xs ++ (v ∷ [])) ≡ seed_bytes xs ++ big 4 v
unfolding rows
rows_snoc [] v = append-nil (big 4 v)
rows_snoc (x ∷ xs) v = rw (rows_snoc xs v) (sym (append_assoc (big 4 x) (rows (big 4) xs) (big 4 v)))

-- one number more
module _ (xs seed : List ℕ) (i : ℕ) (room : length seed ≡ 40) (ten : length xs ≡ 10) (is : take (4 * i) seed ≡ seed_bytes (take i xs)) where
  pub seeding_more : i < length xs → take (4 * (i + 1)) (sets seed (4 * i) (big 4 (get_or xs i 0))) ≡ seed_bytes (take (i + 1) xs)
  seeding_more h =
      let v = get_or xs i 0 in
      let four : 4 * (i + 1) ≡ 4 * i + 4 = omega arith in
      let next : take (4 * i + 4) (sets seed (4 * i) (big 4 v)) ≡ take (4 * i) seed ++ big 4 v =
      ap (λ (k : ℕ). take (4 * i + k) (sets seed (4 * i) (big 4 v))) (sym (length_big 4 v)) ∙ take_sets_end seed (4 * i) (big 4 v) (omega (arith, length_big 4 v)) in
      rw (four, next, add-one, take-suc xs i 0 h, rows_snoc, is)

  pub seeding_end : i ≤ length xs → length xs ≤ i → seed ≡ seed_bytes xs
  seeding_end h g =
      let e : i ≡ 10 = omega arith in
      sym (take_all 40 seed (omega arith)) ∙ (rw e at is) ∙ ap seed_bytes (take_all 10 xs (omega arith))

-- the ten of a line
pub ten_asked : (p : List ℕ) → length p ≡ 15 → length (take 10 (drop 5 p)) ≡ 10
ten_asked p h = length-take-le 10 (drop 5 p) (simp length-drop (omega arith))

-- make is called with those bytes
pub make_asked : (p seed x z : List ℕ) (r : ℕ) → seed ≡ seed_asked p → MakeSays (parameters 1 (piece p 1) (piece p 2) (piece p 3) (piece p 4) seed) r x z → MakeAsked p r x z
make_asked p seed x z r e h = rw e at h

-- THE LENGTH of the table that is asked for
module _ (p : List ℕ) (s : Sizes) (h : s ≡ plain_asked p) where
  asked_good : sizes_good (sizes_asked p) ≡ sizes_good s
  unfolding sizes_asked sizes sizes_good beta
  asked_good = ap sizes_good (sym h)

  asked_long : table_long (sizes_asked p) ≡ table_long s
  unfolding sizes_asked sizes table_long block_long row
  asked_long = ap table_long (sym h)

  pub long_yes : (t : Bool) → t ≡ sizes_good s → t ≡ true → (r : ℕ) → r ≡ table_long s → (sizes_good (sizes_asked p) ≡ true) × (r ≡ long_asked p)
  unfolding long_asked
  long_yes t g y r e = let good = asked_good ∙ sym g ∙ y in (good, e ∙ sym (rw good asked_long))

  pub long_no : (t : Bool) → t ≡ sizes_good s → t ≡ false → sizes_good (sizes_asked p) ≡ false
  long_no t g y = asked_good ∙ sym g ∙ y

pub long_or_none : (p : List ℕ) (r : Option ℕ) → MatchOption r (sizes_good (sizes_asked p) ≡ false) (λ n. (sizes_good (sizes_asked p) ≡ true) × (n ≡ long_asked p))
    → unwrap_or r 0 ≡ long_asked p
unfolding long_asked
long_or_none p None e = sym (rw e)
long_or_none p (Some n) e = e.1
