-- A line that is read byte by byte and closed says what the grammar says of the whole line.
use Rattle.std.proofs.Common.{◌≡◌, refl, ap, ◌∙◌, ℕ, suc, ◌+◌, ◌≤◌, Bool, true, false, ◌&&◌, cond, leb, ltb, Option, None, Some, Ok, Err, option_map, List, [], ◌∷◌, ◌++◌, map, length, get_or, set, drop, replicate, arith}
use borrow.Author.Tests.{leb-true, leb-false, lt-ltb}
use Rattle.std.proofs.lemmas.List.{length-map}
use Rattle.std.proofs.lemmas.List.Edits.{sets}
use Rattle.std.proofs.lemmas.List.Sums.{fold-append}
use Rattle.std.proofs.Math.Seq.{sets-eq, take-append-le}
use Rattle.lines.specs.declared.Call.{Call}
use Rattle.lines.specs.declared.Parts.{Parts}
use Rattle.lines.specs.declared.Values.{Values}
use Rattle.lines.specs.Grammar.{pieces, word, worth, value, numbers, fields, calls, call_among, asks, asked, line, some}
use Rattle.lines.specs.Machine.{Reader, spoilt, reader_of, fresh, beginning, spelt, line_in, step_of, steps_of, call_in, line_of, close_of, says, ReadsLines, under_way, cut_of, pushed, kept_of, next_of, sign_of, signed}
use Rattle.lines.proofs.Laws.Pieces.{signs, ends, each, each_ends, by_pieces, bad_each, read_fields, is_word, read_word}
use Rattle.lines.proofs.Laws.Words.{call_is, call_bad, call_many, call_fits}

-- the first of the pieces stays when the others come behind it
sets_behind : (x : ℕ) (xs vs : List ℕ) (i : ℕ) → sets (x ∷ xs) (suc i) vs ≡ x ∷ sets xs i vs
sets_behind x xs [] i = refl
sets_behind x xs (v ∷ vs) i = sets_behind x (set xs i v) vs (suc i)

-- a bad line asks for nothing
bad_says : (ns : List ℕ) → says (line_of spoilt) ≡ asks None ns
unfolding says line_of line_in spoilt asks call_in spelt worth word fields
bad_says ns = refl

fits_says : (k : Option Call) (vs : List ℕ) → ((c : Call) → k ≡ Some c → fields c ≤ length vs) → length vs ≤ 14 → asks k (sets (replicate 14 0) 0 vs) ≡ asks k vs
unfolding asks
fits_says None vs h l = refl
fits_says (Some c) vs h l = rw (sets-eq vs (replicate 14 0) 0 (omega arith), take-append-le (fields c) vs _ (h c refl))

module _ (w : List ℕ) (ps : List (List ℕ)) where
  abbrev whole : Reader
  whole = fresh (1 + length ps) (sets (set (replicate 15 0) 0 (worth 32 96 0 w)) 1 (map value ps))

  good_says : is_word w ≡ true → length ps ≤ 14 → says (line_of whole) ≡ asks (call_among calls w (length ps)) (map value ps)
  unfolding says line_of line_in fresh
  good_says e h =
      let m : length (map value ps) ≡ length ps = length-map ps value in
      ap (λ (z : List ℕ). asks (call_in (get_or z 0 0) (1 + length ps)) (drop 1 z)) (sets_behind (worth 32 96 0 w) (replicate 14 0) (map value ps) 0)
      ∙ ap (λ (c : Option Call). asks c (sets (replicate 14 0) 0 (map value ps))) (call_is w (length ps) e)
      ∙ fits_says (call_among calls w (length ps)) (map value ps) (λ c f. omega (arith, call_fits w (length ps) c f)) (omega arith)

  -- the word and the fields, read
  read_all : each (ends (signs beginning w)) ps ≡ cond (is_word w) (cond (numbers ps && leb (1 + length ps) 15) whole spoilt) spoilt
  read_all = go (is_word w) refl
    where
      go : (t : Bool) → is_word w ≡ t → each (ends (signs beginning w)) ps ≡ cond t (cond (numbers ps && leb (1 + length ps) 15) whole spoilt) spoilt
      go true e = rw (read_word w, e) (read_fields 1 _ ps (omega arith) (omega arith))
      go false e = rw (read_word w, e) (bad_each ps)

  -- and closed
  closed : says (line_of (each (ends (signs beginning w)) ps)) ≡ asked (record { first = w; others = ps })
  unfolding asked
  closed = go (is_word w) refl (numbers ps) refl (leb (1 + length ps) 15) refl
    where
      go : (t : Bool) → is_word w ≡ t → (u : Bool) → numbers ps ≡ u → (x : Bool) → leb (1 + length ps) 15 ≡ x
          → says (line_of (each (ends (signs beginning w)) ps)) ≡ asks (cond (numbers ps) (call_among calls w (length ps)) None) (map value ps)
      go true e false f x g = rw (read_all, e, f) (bad_says _)
      go false e false f x g = rw (read_all, e, f) (bad_says _)
      go false e true f x g = rw (read_all, e, f, call_bad w (length ps) e) (bad_says _)
      go true e true f false g = rw (read_all, e, f, g, call_many w (length ps) (omega (arith, leb-false (1 + length ps) 15 g))) (bad_says _)
      go true e true f true g = rw (read_all, e, f, g) (good_says e (omega (arith, leb-true (1 + length ps) 15 g)))

pub read_is : ReadsLines
unfolding ReadsLines line close_of ends
read_is s = rw (by_pieces beginning s, each_ends (signs beginning (pieces s).first) (pieces s).others) (closed (pieces s).first (pieces s).others)

-- a line that comes in parts is read as one
pub read_on : (r : Reader) (s t : List ℕ) → steps_of r (s ++ t) ≡ steps_of (steps_of r s) t
unfolding steps_of
read_on r s t = fold-append step_of r s t

-- a line has begun once a byte of it is read, and not before
way_none : under_way (reader_of None) ≡ true
unfolding under_way reader_of spoilt
way_none = refl

way_value : (w : Values) (v : ℕ) → under_way (reader_of (Some (record { whole = w; some = true; value = v }))) ≡ true
unfolding under_way reader_of
way_value w v = refl

way_either : (t : Bool) (q r : Option Parts) → under_way (reader_of q) ≡ true → under_way (reader_of r) ≡ true → under_way (reader_of (cond t q r)) ≡ true
way_either true q r h k = h
way_either false q r h k = k

way_sign : (base z low high : ℕ) (p : Parts) (b : ℕ) → under_way (reader_of (sign_of base z low high p b)) ≡ true
unfolding sign_of signed
way_sign base z low high p b = way_either _ _ _ (way_either _ _ _ (way_value _ _) way_none) way_none

way_cut : (p : Parts) → under_way (reader_of (cut_of p)) ≡ true
unfolding cut_of pushed reader_of under_way
way_cut p = way_either p.some _ _ (go (ltb p.whole.count 15)) way_none
  where
    go : (t : Bool) → under_way (reader_of (option_map (λ x. record { whole = x; some = false; value = 0 }) (cond t (Some (record { count = p.whole.count + 1; numbers = set p.whole.numbers p.whole.count p.value })) None))) ≡ true
    go true = lt-ltb 0 (p.whole.count + 1) (omega arith)
    go false = way_none

way_step : (r : Reader) (b : ℕ) → under_way (step_of r b) ≡ true
unfolding step_of next_of kept_of under_way
way_step (Err w) b = refl
way_step (Ok p) b = way_either _ _ _ (way_cut p) (way_either _ _ _ (way_sign _ _ _ _ p b) (way_sign _ _ _ _ p b))

way_on : (r : Reader) (s : List ℕ) → under_way r ≡ true → under_way (steps_of r s) ≡ true
unfolding steps_of
way_on r [] e = e
way_on r (b ∷ s) e = way_on (step_of r b) s (way_step r b)

pub way_is : (s : List ℕ) → under_way (steps_of beginning s) ≡ some s
unfolding steps_of some beginning fresh under_way
way_is [] = refl
way_is (b ∷ s) = way_on (step_of beginning b) s (way_step beginning b)
