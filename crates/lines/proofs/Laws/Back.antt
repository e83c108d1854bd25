-- What is written reads back.
use Rattle.std.proofs.Common.{◌≡◌, refl, ℕ, zero, suc, ◌+◌, ◌*◌, ◌-◌, ◌/◌, ◌%◌, ◌^◌, ◌≤◌, ◌<◌, Bool, true, false, cond, ltb, List, [], ◌∷◌, ◌++◌, arith}
use borrow.Author.Tests.{le-leb, ltb-true}
use Rattle.std.proofs.lemmas.List.Folds.{list_all-append}
use Rattle.std.proofs.lemmas.List.Sums.{fold-append}
use Rattle.lines.specs.Grammar.{worth, within, some, value, number}
use Rattle.lines.specs.Text.{numeral, numeral_in, NumeralReadsBack}

worth_more : (base z v : ℕ) (p : List ℕ) (b : ℕ) → worth base z v (p ++ (b ∷ [])) ≡ base * worth base z v p + (b - z)
unfolding worth
worth_more base z v p b = fold-append _ v p (b ∷ [])

within_more : (p : List ℕ) (b : ℕ) → within 48 57 p ≡ true → 48 ≤ b → b ≤ 57 → within 48 57 (p ++ (b ∷ [])) ≡ true
unfolding within
within_more p b e h l = rw (list_all-append, e, le-leb 48 b h, le-leb b 57 l)

some_more : (p : List ℕ) (b : ℕ) → some (p ++ (b ∷ [])) ≡ true
unfolding some
some_more [] b = refl
some_more (x ∷ p) b = refl

-- the numeral of k digits at most
record Back (k n : ℕ) : Type 0 where
  is : worth 10 48 0 (numeral_in k n) ≡ n
  digits : within 48 57 (numeral_in k n) ≡ true

back : (k n : ℕ) → n < 10 ^ k → Back k n
unfolding numeral_in worth within
back zero n h = record { is = omega arith; digits = refl }
back (suc k) n h = go (back k (n / 10) (omega arith)) (ltb n 10) refl
  where
    go : Back k (n / 10) → (t : Bool) → ltb n 10 ≡ t → Back (suc k) n
    go r true e =
        let l : n < 10 = ltb-true n 10 e in
        record {
          is = rw e (omega arith);
          digits = rw (e, le-leb 48 (48 + n) (omega arith), le-leb (48 + n) 57 (omega arith));
        }
    go r false e =
        record {
          is = rw (e, worth_more 10 48 0 (numeral_in k (n / 10)) (48 + n % 10), r.is) (omega arith);
          digits = rw e (within_more (numeral_in k (n / 10)) (48 + n % 10) r.digits (omega arith) (omega arith));
        }

back_some : (k n : ℕ) → some (numeral_in (suc k) n) ≡ true
unfolding numeral_in some
back_some k n = go (ltb n 10)
  where
    go : (t : Bool) → some (cond t ((48 + n) ∷ []) (numeral_in k (n / 10) ++ ((48 + n % 10) ∷ []))) ≡ true
    go true = refl
    go false = some_more (numeral_in k (n / 10)) (48 + n % 10)

pub reads_back : NumeralReadsBack
unfolding NumeralReadsBack number value numeral
reads_back n h =
    let b : Back 10 n = back 10 n (omega arith) in
    (rw (back_some 9 n, b.digits, b.is, le-leb n 4294967295 h), b.is)
