-- The output as it waits in the printer's buffer. Document 01, "The program and one full run": what each line prints comes after what those before it print.
use Rattle.std.specs.Prelude.{◌≡◌, cond, List, [], ◌∷◌, ◌++◌, ℕ, ◌+◌, ltb, length, take}
use Rattle.std.proofs.lemmas.List.Edits.{sets}
use Rattle.answers.specs.declared.printer.Printer.{Printer}

pub record Waiting : Type 0 where
  pub buffer : List ℕ
  pub used : ℕ

abbrev pub waiting : (buffer : List ℕ) → (used : ℕ) → Waiting
waiting b n = record { buffer = b; used = n }

-- the buffer of a printer, and the bytes that wait in it
abbrev pub waiting_in : Printer → Waiting
waiting_in p = waiting p.buffer p.used

abbrev pub waits : Printer → List ℕ
waits p = take p.used p.buffer

-- a line more. Where more than 65,000 bytes wait, they are handed on to standard output first
unfoldable pub room_at : (used : ℕ) → ℕ
room_at n = cond (ltb 65000 n) 0 n

unfoldable pub handed_on : Waiting → List ℕ
handed_on w = cond (ltb 65000 w.used) (take w.used w.buffer) []

unfoldable pub with_line : Waiting → (line : List ℕ) → Waiting
with_line w l = waiting (sets w.buffer (room_at w.used) l) (room_at w.used + length l)

-- lines, one after the other: what waits in the end, what was handed on, and their bytes
unfoldable pub told : Waiting → (lines : List (List ℕ)) → Waiting
told w [] = w
told w (l ∷ ls) = told (with_line w l) ls

unfoldable pub handed : Waiting → (lines : List (List ℕ)) → List ℕ
handed w [] = []
handed w (l ∷ ls) = handed_on w ++ handed (with_line w l) ls

unfoldable pub text : (lines : List (List ℕ)) → List ℕ
text [] = []
text (l ∷ ls) = l ++ text ls

-- LINES ARE PRINTED: what was handed on and what waits now are what waited before and the lines, no byte more and none less
pub record Said (old : Printer) (lines : List (List ℕ)) (new : Printer) : Type 0 where
  pub is : waiting_in new ≡ told (waiting_in old) lines
  pub whole : handed (waiting_in old) lines ++ waits new ≡ waits old ++ text lines
