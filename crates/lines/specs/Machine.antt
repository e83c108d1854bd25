-- The reader of lines as a machine: what each function of src/reading.rt gives. That the machine reads a line as specs/Grammar.antt says is
-- `read_is` of proofs/Laws/Reading.antt.
use Rattle.std.specs.Prelude.{Bool, true, false, ◌&&◌, ◌||◌, cond, Option, None, Some, Result, Ok, Err, option_map, List, ◌≡◌, ℕ, ◌+◌, ◌*◌, ◌-◌, ◌≤◌, leb, ltb, eqb, length, get_or, set, drop, replicate, fold, find, ◌==◌}
use Rattle.std.specs.List.{before_first}
use Rattle.lines.specs.declared.Call.{Call}
use Rattle.lines.specs.declared.Values.{Values}
use Rattle.lines.specs.declared.Parts.{Parts}
use Rattle.lines.specs.declared.Line.{Line}
use Rattle.lines.specs.Grammar.{Asked, word, fields, calls, worth, asks, line}

-- what the bytes of a line say so far; Err: the line is spoilt, whatever comes, and these are the pieces that it is closed with
abbrev pub Reader : Type 0
Reader = Result Parts Values

-- .. none, where a byte has spoilt it
unfoldable pub spoilt : Reader
spoilt = Err (record { count = 0; numbers = replicate 15 0 })

-- n pieces are whole, and none is under way; and no byte is read yet
unfoldable pub fresh : ℕ → List ℕ → Reader
fresh n xs = Ok (record { whole = record { count = n; numbers = xs }; some = false; value = 0 })

unfoldable pub beginning : Reader
beginning = fresh 0 (replicate 15 0)

-- a sign that counts d comes to the piece under way, whose value is held to 32 bits; None: the line is spoilt
unfoldable pub signed : (base d : ℕ) → Parts → Option Parts
signed base d p =
    let v = base * p.value + d in
    cond (leb v 4294967295) (Some (record { whole = p.whole; some = true; value = v })) None

unfoldable pub sign_of : (base nought low high : ℕ) → Parts → ℕ → Option Parts
sign_of base nought low high p b = cond (leb low b && leb b high) (signed base (b - nought) p) None

-- one piece more is whole, of fifteen at most; and the piece under way ends, which may not be empty
unfoldable pub pushed : Values → ℕ → Option Values
pushed w v = cond (ltb w.count 15) (Some (record { count = w.count + 1; numbers = set w.numbers w.count v })) None

unfoldable pub cut_of : Parts → Option Parts
cut_of p = cond p.some (option_map (λ w. record { whole = w; some = false; value = 0 }) (pushed p.whole p.value)) None

-- one byte more: a blank, a letter of the word, or a digit of a field
unfoldable pub kept_of : Parts → ℕ → Option Parts
kept_of p b = cond (eqb p.whole.count 0) (sign_of 32 96 97 122 p b) (sign_of 10 48 48 57 p b)

unfoldable pub next_of : Parts → ℕ → Option Parts
next_of p b = cond (eqb b 32) (cut_of p) (kept_of p b)

unfoldable pub reader_of : Option Parts → Reader
reader_of None = spoilt
reader_of (Some p) = Ok p

unfoldable pub step_of : Reader → ℕ → Reader
step_of (Err w) b = Err w
step_of (Ok p) b = reader_of (next_of p b)

unfoldable pub steps_of : Reader → List ℕ → Reader
steps_of r s = fold step_of r s

-- the call of a word's number and a number of pieces
unfoldable pub spelt : Call → ℕ
spelt c = worth 32 96 0 (word c)

unfoldable pub call_in : (v n : ℕ) → Option Call
call_in v n = find (λ c. eqb v (spelt c) && eqb n (1 + fields c)) calls

-- the line ends
unfoldable pub line_in : Values → Line
line_in w = record { call = call_in (get_or w.numbers 0 0) w.count; pieces = w.numbers }

unfoldable pub line_of : Reader → Line
line_of (Err w) = line_in w
line_of (Ok p) = line_in p.whole

unfoldable pub close_of : Reader → Line
close_of r = line_of (step_of r 32)

-- what a whole line says: its call, and so many of its pieces, from 1 on, as the call has fields
unfoldable pub says : Line → Asked
says l = asks l.call (drop 1 l.pieces)

-- the bytes before the first line end, byte 10
unfoldable pub before_end : List ℕ → List ℕ
before_end s = before_first (λ b. b == 10) s

-- the bytes of s from a place on, up to the line end, are read: r became q, and i is the place of the first byte not read
pub record Advanced (s : List ℕ) (at : ℕ) (r q : Reader) (i : ℕ) : Type 0 where
  pub reader : q ≡ steps_of r (before_end (drop at s))
  pub place : i ≡ at + length (before_end (drop at s))
  pub within : i ≤ length s

-- a line has begun
unfoldable pub under_way : Reader → Bool
under_way (Err w) = true
under_way (Ok p) = p.some || ltb 0 p.whole.count

-- STATEMENT: a line that is read byte by byte and closed says what the grammar says of the whole line. So which lines are `?` is what it says
unfoldable pub ReadsLines : Type 0
ReadsLines = (s : List ℕ) → says (close_of (steps_of beginning s)) ≡ line s
