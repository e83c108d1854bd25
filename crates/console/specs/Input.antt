-- Lines one after the other. Document 01, "The program and one full run": "It reads lines from standard input". Bytes come in pieces; a line that does not
-- end in one goes on in the next.
use Rattle.std.specs.Prelude.{◌≡◌, Bool, true, false, List, ℕ, ◌+◌, ◌≤◌, ◌<◌, length}
use Rattle.lines.specs.Machine.{Reader, Advanced, beginning, close_of, under_way}
use Rattle.answers.specs.Answers.{Step}
use Rattle.answers.specs.declared.printer.Printer.{Printer}
use Rattle.console.specs.declared.Program.{Program}

-- the line of a reader ends: it is answered, on the table and the printer of the program, and the next line begins
pub record Closed (q : Reader) (a b : Program) : Type 0 where
  pub reader : b.reader ≡ beginning
  pub step : Step (close_of q).call (close_of q).pieces 65536 a.table a.printer b.table b.printer

abbrev pub Answered : (a b : Program) → Type 0
Answered a b = Closed a.reader a b

-- from a place of the bytes s on: up to their end, where a line goes on, or up to behind a line end, where the line is answered
pub data Turned (s : List ℕ) (at : ℕ) (a : Program) (to : ℕ) (b : Program) : Type 0 where
  goes_on : length s ≤ to → Advanced s at a.reader b.reader to → b.table ≡ a.table → b.printer ≡ a.printer → Turned s at a to b
  ends : (q : Reader) (end : ℕ) → Advanced s at a.reader q end → end < length s → to ≡ end + 1 → Closed q a b → Turned s at a to b

-- ALL LINES that end in the bytes s, from a place on
pub data Taken (s : List ℕ) : (at : ℕ) → Program → Program → Type 0 where
  none : {at : ℕ} {a : Program} → length s ≤ at → Taken s at a a
  one : {at : ℕ} {a : Program} → (to : ℕ) (b : Program) {c : Program} → Turned s at a to b → Taken s to b c → Taken s at a c

-- the waiting output was written: none waits
pub record Emptied (old new : Printer) : Type 0 where
  pub kept : new.buffer ≡ old.buffer
  pub none : new.used ≡ 0

pub record TakenWhole (s : List ℕ) (a b : Program) : Type 0 where
  pub program : Program
  pub taken : Taken s 0 a program
  pub reader : b.reader ≡ program.reader
  pub table : b.table ≡ program.table
  pub written : Emptied program.printer b.printer

-- a read: the input goes on where bytes came
pub data ReadOn (a b : Program) : Bool → Type 0 where
  came : (s : List ℕ) → TakenWhole s a b → ReadOn a b true
  over : b ≡ a → ReadOn a b false

-- THE END OF THE INPUT: "the last line may lack its line end"
pub data Finished (a b : Program) : Type 0 where
  nothing : under_way a.reader ≡ false → b ≡ a → Finished a b
  last : (program : Program) → under_way a.reader ≡ true → Answered a program → b.table ≡ program.table → Emptied program.printer b.printer → Finished a b
