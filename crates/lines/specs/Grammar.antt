-- What a line says. Document 01, "The program and one full run": "decimal fields of one or more digits with one blank between", the seven words with
-- their fields, and "a line of another form, a field above 4,294,967,295 .. prints `?`".
use Rattle.std.specs.Prelude.{Bool, true, false, ◌&&◌, cond, Option, None, Some, List, [], ◌∷◌, map, ℕ, ◌+◌, ◌*◌, ◌-◌, leb, eqb, length, take, fold, find, bytes_eq}
use Rattle.std.specs.List.{list_all}
use Rattle.lines.specs.declared.Call.{Call}
use Rattle.lines.specs.declared.Call.TheVariants.{Make, Put, Cancel, Show, Span, Seek, Blocks}

-- "make γ B N M with ten seed numbers; put k t d; cancel k; show k; span lo hi; seek lo hi r; blocks": the seven words, in ASCII
unfoldable pub word : Call → List ℕ
word Make = 109 ∷ 97 ∷ 107 ∷ 101 ∷ []
word Put = 112 ∷ 117 ∷ 116 ∷ []
word Cancel = 99 ∷ 97 ∷ 110 ∷ 99 ∷ 101 ∷ 108 ∷ []
word Show = 115 ∷ 104 ∷ 111 ∷ 119 ∷ []
word Span = 115 ∷ 112 ∷ 97 ∷ 110 ∷ []
word Seek = 115 ∷ 101 ∷ 101 ∷ 107 ∷ []
word Blocks = 98 ∷ 108 ∷ 111 ∷ 99 ∷ 107 ∷ 115 ∷ []

-- how many fields follow the word
unfoldable pub fields : Call → ℕ
fields Make = 14
fields Put = 3
fields Cancel = 1
fields Show = 1
fields Span = 2
fields Seek = 3
fields Blocks = 0

abbrev pub calls : List Call
calls = Make ∷ Put ∷ Cancel ∷ Show ∷ Span ∷ Seek ∷ Blocks ∷ []

-- "with one blank between": a line is cut at each blank, byte 32. Two blanks side by side, or one at an end, leave an empty piece
pub record Pieces : Type 0 where
  pub first : List ℕ
  pub others : List (List ℕ)

unfoldable pub pieces : List ℕ → Pieces
pieces [] = record { first = []; others = [] }
pieces (b ∷ s) =
    cond (eqb b 32)
    (record { first = []; others = (pieces s).first ∷ (pieces s).others })
    (record { first = b ∷ (pieces s).first; others = (pieces s).others })

-- "decimal fields of one or more digits", none "above 4,294,967,295": each byte is 48..57, and the value is what counts, so zeros in front count for
-- nothing. `worth base nought v p` is the number v with the signs of p behind it; `nought` is the byte that counts 0
unfoldable pub worth : (base nought v : ℕ) → List ℕ → ℕ
worth base nought v p = fold (λ v b. base * v + (b - nought)) v p

unfoldable pub within : (low high : ℕ) → List ℕ → Bool
within low high p = list_all (λ b. leb low b && leb b high) p

unfoldable pub some : List ℕ → Bool
some [] = false
some (b ∷ p) = true

unfoldable pub value : List ℕ → ℕ
value p = worth 10 48 0 p

unfoldable pub number : List ℕ → Bool
number p = some p && (within 48 57 p && leb (value p) 4294967295)

unfoldable pub numbers : List (List ℕ) → Bool
numbers ps = list_all number ps

-- the call with this word and this number of fields, if there is one
unfoldable pub call_among : List Call → (w : List ℕ) (n : ℕ) → Option Call
call_among cs w n = find (λ c. bytes_eq w (word c) && eqb n (fields c)) cs

-- WHAT A LINE ASKS FOR: a call and its numbers; a bad line has none
pub record Asked : Type 0 where
  pub call : Option Call
  pub numbers : List ℕ

unfoldable pub asks : Option Call → List ℕ → Asked
asks None ns = record { call = None; numbers = [] }
asks (Some c) ns = record { call = Some c; numbers = take (fields c) ns }

unfoldable pub asked : Pieces → Asked
asked p = asks (cond (numbers p.others) (call_among calls p.first (length p.others)) None) (map value p.others)

unfoldable pub line : List ℕ → Asked
line s = asked (pieces s)
