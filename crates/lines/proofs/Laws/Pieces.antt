-- The machine reads a line piece by piece, and a piece as a number.
use Rattle.std.proofs.Common.{◌≡◌, refl, ◌∙◌, ℕ, ◌+◌, ◌*◌, ◌-◌, ◌≤◌, ◌<◌, Bool, true, false, ◌&&◌, cond, leb, ltb, eqb, Option, None, Some, Ok, Err, ◌||◌, List, [], ◌∷◌, map, length, fold, set, replicate, option_map, add-one, add-zero, mul-le-mul, arith}
use borrow.Author.Tests.{le-leb, lt-leb, leb-true, leb-false, ltb-true, ltb-false, ne_eqb}
use Rattle.std.proofs.Math.Bool.{and-false, and-true}
use Rattle.std.proofs.lemmas.Bool.Decides.{nat_tests}
use Rattle.std.proofs.lemmas.List.Edits.{sets}
use Rattle.lines.specs.declared.Parts.{Parts}
use Rattle.lines.specs.Grammar.{pieces, worth, within, some, value, number, numbers}
use Rattle.lines.specs.declared.Values.{Values}
use Rattle.lines.specs.Machine.{Reader, spoilt, fresh, beginning, signed, sign_of, cut_of, pushed, kept_of, next_of, reader_of, step_of, steps_of}

-- a byte that is no blank, and the signs of a piece
unfoldable pub sign_step : Reader → ℕ → Reader
sign_step (Err w) b = Err w
sign_step (Ok p) b = reader_of (kept_of p b)

unfoldable pub signs : Reader → List ℕ → Reader
signs r p = fold sign_step r p

unfoldable pub ends : Reader → Reader
ends r = step_of r 32

-- the pieces one after the other, each but the first behind a blank; and each with its end
unfoldable pub behind : Reader → List (List ℕ) → Reader
behind r ps = fold (λ q p. signs (ends q) p) r ps

unfoldable pub each : Reader → List (List ℕ) → Reader
each r ps = fold (λ q p. ends (signs q p)) r ps

pub each_ends : (r : Reader) (ps : List (List ℕ)) → ends (behind r ps) ≡ each (ends r) ps
unfolding behind each
each_ends r [] = refl
each_ends r (p ∷ ps) = each_ends (signs (ends r) p) ps

step_is : (r : Reader) (b : ℕ) → eqb b 32 ≡ false → step_of r b ≡ sign_step r b
unfolding step_of next_of sign_step
step_is (Err w) b e = refl
step_is (Ok p) b e = rw e

pub by_pieces : (r : Reader) (s : List ℕ) → steps_of r s ≡ behind (signs r (pieces s).first) (pieces s).others
unfolding steps_of pieces signs behind ends
by_pieces r [] = refl
by_pieces r (b ∷ s) = go (by_pieces (step_of r b) s) (eqb b 32) refl
  where
    go : steps_of (step_of r b) s ≡ behind (signs (step_of r b) (pieces s).first) (pieces s).others
        → (t : Bool) → eqb b 32 ≡ t → steps_of r (b ∷ s) ≡ behind (signs r (pieces (b ∷ s)).first) (pieces (b ∷ s)).others
    go h true e =
        let q : b ≡ 32 = grind (arith, nat_tests) in
        rw e (h ∙ rw q)
    go h false e = rw e (h ∙ rw (step_is r b e))

-- A NUMBER grows with each sign, so once above the bound it stays there
pub worth_grows : (base z v : ℕ) (p : List ℕ) → 1 ≤ base → v ≤ worth base z v p
unfolding worth
worth_grows base z v [] h = omega arith
worth_grows base z v (b ∷ p) h =
    let l : 1 * v ≤ base * v = mul-le-mul {m₁ = v} {m₂ = v} h (omega arith) in
    omega (arith, worth_grows base z (base * v + (b - z)) p h)

-- the signs of a piece: all in low..high, and of a value of 32 bits
unfoldable pub spells : (base z low high v : ℕ) → List ℕ → Bool
spells base z low high v p = within low high p && leb (worth base z v p) 4294967295

-- a reader in the middle of a piece, behind n whole ones
unfoldable pub mid : (some : Bool) (value n : ℕ) → List ℕ → Parts
mid t v n xs = record { whole = record { count = n; numbers = xs }; some = t; value = v }

bad_signs : (p : List ℕ) → signs spoilt p ≡ spoilt
unfolding signs sign_step spoilt
bad_signs [] = refl
bad_signs (b ∷ p) = bad_signs p

-- some sign has come, before these or of these
or_none : (t : Bool) → (t || false) ≡ t
or_none true = refl
or_none false = refl

or_some : (t : Bool) → (t || true) ≡ true
or_some true = refl
or_some false = refl

cut_is : (v n : ℕ) (xs : List ℕ) → ends (Ok (mid true v n xs)) ≡ cond (ltb n 15) (fresh (n + 1) (set xs n v)) spoilt
unfolding ends step_of next_of cut_of pushed fresh mid reader_of
cut_is v n xs = go (ltb n 15)
  where
    go : (t : Bool)
        → reader_of (option_map (λ w. record { whole = w; some = false; value = 0 }) (cond t (Some (record { count = n + 1; numbers = set xs n v })) None)) ≡ cond t (fresh (n + 1) (set xs n v)) spoilt
    go true = refl
    go false = refl

-- A PIECE with its end, from a reader that has just cut one
unfoldable pub spelt_out : (base z low high : ℕ) → List ℕ → Bool
spelt_out base z low high p = some p && spells base z low high 0 p

module _ (base z low high n : ℕ) (xs : List ℕ) (ok : 1 ≤ base) (is : (t : Bool) (v b : ℕ) → kept_of (mid t v n xs) b ≡ sign_of base z low high (mid t v n xs) b) where
  read_signs : (t : Bool) (v : ℕ) (p : List ℕ) → v ≤ 4294967295
      → signs (Ok (mid t v n xs)) p ≡ cond (spells base z low high v p) (Ok (mid (t || some p) (worth base z v p) n xs)) spoilt
  unfolding signs sign_step spells within worth some sign_of signed mid reader_of
  read_signs t v [] h = rw (le-leb _ 4294967295 h, or_none t)
  read_signs t v (b ∷ p) h = go (leb low b && leb b high) refl (leb (base * v + (b - z)) 4294967295) refl (read_signs true (base * v + (b - z)) p)
    where
      go : (q : Bool) → (leb low b && leb b high) ≡ q → (u : Bool) → leb (base * v + (b - z)) 4294967295 ≡ u
          → (base * v + (b - z) ≤ 4294967295 → signs (Ok (mid true (base * v + (b - z)) n xs)) p ≡ cond (spells base z low high (base * v + (b - z)) p) (Ok (mid (true || some p) (worth base z (base * v + (b - z)) p) n xs)) spoilt)
          → signs (Ok (mid t v n xs)) (b ∷ p) ≡ cond (spells base z low high v (b ∷ p)) (Ok (mid (t || some (b ∷ p)) (worth base z v (b ∷ p)) n xs)) spoilt
      go false e u f k = rw (is t v b, e) (bad_signs p)
      go true e false f k =
          let l : 4294967295 < worth base z (base * v + (b - z)) p = omega (arith, leb-false (base * v + (b - z)) 4294967295 f, worth_grows base z (base * v + (b - z)) p ok) in
          rw (is t v b, e, f, lt-leb (worth base z (base * v + (b - z)) p) 4294967295 l, and-false) (bad_signs p)
      go true e true f k = rw (is t v b, e, f, or_some t) (k (leb-true _ _ f))

  pub read_piece : (p : List ℕ) → ends (signs (fresh n xs) p) ≡ cond (spelt_out base z low high p && ltb n 15) (fresh (n + 1) (set xs n (worth base z 0 p))) spoilt
  unfolding spelt_out signs some ends step_of next_of cut_of fresh mid reader_of spoilt
  read_piece [] = refl
  read_piece (b ∷ p) = go (spells base z low high 0 (b ∷ p)) refl
    where
      go : (t : Bool) → spells base z low high 0 (b ∷ p) ≡ t
          → ends (signs (fresh n xs) (b ∷ p)) ≡ cond (spelt_out base z low high (b ∷ p) && ltb n 15) (fresh (n + 1) (set xs n (worth base z 0 (b ∷ p)))) spoilt
      go false e = rw (read_signs false 0 (b ∷ p) (omega arith), e)
      go true e = rw (read_signs false 0 (b ∷ p) (omega arith), e) (cut_is _ n xs)

-- THE FIELDS, one after the other
pub bad_each : (ps : List (List ℕ)) → each spoilt ps ≡ spoilt
unfolding each ends step_of spoilt
bad_each [] = refl
bad_each (p ∷ ps) = rw bad_signs (bad_each ps)

read_field : (n : ℕ) (xs p : List ℕ) → 1 ≤ n → ends (signs (fresh n xs) p) ≡ cond (number p && ltb n 15) (fresh (n + 1) (set xs n (value p))) spoilt
unfolding number value spelt_out spells kept_of mid
read_field n xs p h = read_piece 10 48 48 57 n xs (omega arith) (λ t v b. rw (ne_eqb n 0 (λ e. omega arith))) p

pub read_fields : (n : ℕ) (xs : List ℕ) (ps : List (List ℕ)) → 1 ≤ n → n ≤ 15
    → each (fresh n xs) ps ≡ cond (numbers ps && leb (n + length ps) 15) (fresh (n + length ps) (sets xs n (map value ps))) spoilt
unfolding each numbers
read_fields n xs [] h l = rw (add-zero n, le-leb n 15 l)
read_fields n xs (p ∷ ps) h l = go (read_fields (n + 1) (set xs n (value p)) ps (omega arith)) (number p) refl (ltb n 15) refl
  where
    go : (n + 1 ≤ 15 → each (fresh (n + 1) (set xs n (value p))) ps ≡ cond (numbers ps && leb (n + 1 + length ps) 15) (fresh (n + 1 + length ps) (sets (set xs n (value p)) (n + 1) (map value ps))) spoilt)
        → (t : Bool) → number p ≡ t → (u : Bool) → ltb n 15 ≡ u
        → each (fresh n xs) (p ∷ ps) ≡ cond (numbers (p ∷ ps) && leb (n + length (p ∷ ps)) 15) (fresh (n + length (p ∷ ps)) (sets xs n (map value (p ∷ ps)))) spoilt
    go k false e u f = rw (read_field n xs p h, e) (bad_each ps)
    go k true e false f =
        let m : 15 < n + length (p ∷ ps) = omega (arith, ltb-false n 15 f) in
        rw (read_field n xs p h, e, f, lt-leb (n + length (p ∷ ps)) 15 m, and-false) (bad_each ps)
    go k true e true f =
        let q : n + 1 + length ps ≡ n + length (p ∷ ps) = omega arith in
        rw (read_field n xs p h, e, f, ← q) (k (omega (arith, ltb-true n 15 f)) ∙ rw add-one)

-- THE WORD
unfoldable pub is_word : List ℕ → Bool
is_word w = spelt_out 32 96 97 122 w

pub read_word : (w : List ℕ) → ends (signs beginning w) ≡ cond (is_word w) (fresh 1 (set (replicate 15 0) 0 (worth 32 96 0 w))) spoilt
unfolding beginning is_word kept_of mid
read_word w = read_piece 32 96 97 122 0 (replicate 15 0) (omega arith) (λ t v b. refl) w ∙ rw and-true
