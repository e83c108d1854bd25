-- The table of the program, which lies at the front of a buffer. Document 01, "The program and one full run".
use Rattle.std.specs.Prelude.{◌≡◌, List, ℕ, length}

-- the bytes of the table, and those behind it
pub record Held : Type 0 where
  pub bytes : List ℕ
  pub behind : List ℕ

-- a call on it: what is said of the table before and after, which is as long as before; and the bytes behind it keep their values
pub record Front (old new : Held) (Says : (table table_now : List ℕ) → Type 0) : Type 0 where
  pub says : Says old.bytes new.bytes
  pub long : length new.bytes ≡ length old.bytes
  pub behind : new.behind ≡ old.behind
