-- A word and its number of base 32 are known by each other, and so is the call of a line.
use Rattle.std.proofs.Common.{◌≡◌, refl, ap, sym, ℕ, ◌+◌, ◌*◌, ◌-◌, ◌≤◌, ◌<◌, Bool, true, false, ◌&&◌, cond, leb, eqb, None, Some, List, [], ◌∷◌, ◌∙◌, Decides, find, bytes_eq, arith}
use Rattle.std.proofs.lemmas.Bool.{and_parts}
use Rattle.std.proofs.lemmas.Bool.Decides.{nat_tests, same_from_decides, Decides-eqb, Decides-like}
use Rattle.std.proofs.Math.Bool.{and-false}
use Rattle.std.proofs.lemmas.Slice.Eq.{bytes_eq-Decides}
use Rattle.lines.specs.declared.Call.{Call}
use Rattle.lines.specs.declared.Call.TheVariants.{Make, Put, Cancel, Show, Span, Seek, Blocks}
use Rattle.lines.specs.Grammar.{worth, within, some, word, fields, calls, call_among}
use Rattle.lines.specs.Machine.{spelt, call_in}
use Rattle.lines.proofs.Laws.Pieces.{worth_grows, spells, spelt_out, is_word}

-- letters count 1..26, so no two words have one number
record Letter (x : ℕ) : Type 0 where
  from : 97 ≤ x
  to : x ≤ 122

letters : (x : ℕ) (w : List ℕ) → within 97 122 (x ∷ w) ≡ true → Letter x × (within 97 122 w ≡ true)
unfolding within
letters x w e =
    let h = and_parts (leb 97 x && leb x 122) (within 97 122 w) e in
    (record { from = grind (arith, nat_tests); to = grind (arith, nat_tests) }, h.1)

one_word : (a b : ℕ) (w v : List ℕ) → a ≤ 32 * b → b ≤ 32 * a → within 97 122 w ≡ true → within 97 122 v ≡ true
    → worth 32 96 a w ≡ worth 32 96 b v → (a ≡ b) × (w ≡ v)
unfolding worth
one_word a b [] [] h k f g e = (e, refl)
one_word a b [] (y ∷ v) h k f g e =
    let l = (letters y v g).0 in
    absurd (omega (arith, worth_grows 32 96 (32 * b + (y - 96)) v (omega arith)))
one_word a b (x ∷ w) [] h k f g e =
    let l = (letters x w f).0 in
    absurd (omega (arith, worth_grows 32 96 (32 * a + (x - 96)) w (omega arith)))
one_word a b (x ∷ w) (y ∷ v) h k f g e =
    let l = letters x w f in
    let m = letters y v g in
    let lx : Letter x = l.0 in
    let ly : Letter y = m.0 in
    let r = one_word (32 * a + (x - 96)) (32 * b + (y - 96)) w v (omega arith) (omega arith) l.1 m.1 e in
    let s : 32 * a + (x - 96) ≡ 32 * b + (y - 96) = r.0 in
    let t : a ≡ b = omega arith in
    let p : x ≡ y = omega arith in
    let q : w ≡ v = r.1 in
    (t, cc)

word_letters : (w : List ℕ) → is_word w ≡ true → within 97 122 w ≡ true
unfolding is_word spelt_out spells
word_letters w e =
    (and_parts (within 97 122 w) (leb (worth 32 96 0 w) 4294967295) (and_parts (some w) (within 97 122 w && leb (worth 32 96 0 w) 4294967295) e).1).0

module _ (w v : List ℕ) (good : is_word v ≡ true) where
  number_is : is_word w ≡ true → eqb (worth 32 96 0 w) (worth 32 96 0 v) ≡ bytes_eq w v
  number_is e =
      same_from_decides _ _
      (Decides-like _ (λ p. (one_word 0 0 w v (omega arith) (omega arith) (word_letters w e) (word_letters v good) p).1) (ap (worth 32 96 0)) (Decides-eqb _ _))
      (bytes_eq-Decides w v)

  no_word : is_word w ≡ false → bytes_eq w v ≡ false
  no_word e = go (bytes_eq w v) (bytes_eq-Decides w v)
    where
      go : (t : Bool) → Decides t (w ≡ v) → t ≡ false
      go false d = refl
      go true d = sym good ∙ rw (← d.0 refl) e

-- the seven words are words, and no call has more than 14 fields
word_is : (c : Call) → is_word (word c) ≡ true
unfolding is_word spelt_out spells word within some worth
word_is Make = refl
word_is Put = refl
word_is Cancel = refl
word_is Show = refl
word_is Span = refl
word_is Seek = refl
word_is Blocks = refl

few : (c : Call) → fields c ≤ 14
unfolding fields
few Make = omega arith
few Put = omega arith
few Cancel = omega arith
few Show = omega arith
few Span = omega arith
few Seek = omega arith
few Blocks = omega arith

-- a test that no call passes finds none
none_found : (test : Call → Bool) → ((c : Call) → test c ≡ false) → (cs : List Call) → find test cs ≡ None
none_found test h [] = refl
none_found test h (c ∷ cs) = rw (h c) (none_found test h cs)

passes : (test : Call → Bool) (c : Call) (cs : List Call) → find test cs ≡ Some c → test c ≡ true
passes test c [] e = cc
passes test c (d ∷ cs) e = go (passes test c cs) (test d) refl e
  where
    go : (find test cs ≡ Some c → test c ≡ true) → (t : Bool) → test d ≡ t → cond t (Some d) (find test cs) ≡ Some c → test c ≡ true
    go k true f e =
        let q : d ≡ c = cc in
        rw (← q) f
    go k false f e = k e

-- THE CALL of a word and a number of fields
module _ (w : List ℕ) (n : ℕ) where
  among_is : is_word w ≡ true → (cs : List Call) → find (λ c. eqb (worth 32 96 0 w) (spelt c) && eqb (1 + n) (1 + fields c)) cs ≡ call_among cs w n
  unfolding call_among spelt
  among_is e [] = refl
  among_is e (c ∷ cs) =
      let s : eqb (1 + n) (1 + fields c) ≡ eqb n (fields c) = grind (arith, nat_tests) in
      rw (number_is w (word c) (word_is c) e, s, among_is e cs)

  pub call_is : is_word w ≡ true → call_in (worth 32 96 0 w) (1 + n) ≡ call_among calls w n
  unfolding call_in
  call_is e = among_is e calls

  abbrev fits : Call → Bool
  fits c = bytes_eq w (word c) && eqb n (fields c)

  pub call_bad : is_word w ≡ false → call_among calls w n ≡ None
  unfolding call_among
  call_bad e = none_found fits (λ c. rw (no_word w (word c) (word_is c) e)) calls

  pub call_many : 14 < n → call_among calls w n ≡ None
  unfolding call_among
  call_many h = none_found fits (λ c. let l = few c in let s : eqb n (fields c) ≡ false = grind (arith, nat_tests) in rw (s, and-false)) calls

  pub call_fits : (c : Call) → call_among calls w n ≡ Some c → fields c ≡ n
  unfolding call_among
  call_fits c e =
      let h = (and_parts (bytes_eq w (word c)) (eqb n (fields c)) (passes fits c calls e)).1 in
      grind (arith, nat_tests)
