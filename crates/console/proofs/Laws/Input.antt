-- Lines one after the other.
use mathlib.Core.List.{List}
use Prim.Native.Nat.{ℕ, ◌≤◌}
use lib.ListN.{length}
use Rattle.console.specs.Input.{Turned, Taken, none, one}
use Rattle.console.specs.declared.Program.{Program}

-- the lines up to a place are taken: whatever the rest leaves, the whole leaves
abbrev pub SoFar : (s : List ℕ) (start : Program) (at : ℕ) (a : Program) → Type 0
SoFar s start at a = (c : Program) → Taken s at a c → Taken s 0 start c

module _ (s : List ℕ) (start : Program) where
  pub so_far_more : (at : ℕ) (a : Program) (to : ℕ) (b : Program) → SoFar s start at a → Turned s at a to b → SoFar s start to b
  so_far_more at a to b f t c k = f c (one to b t k)

  pub so_far_all : (at : ℕ) (a : Program) → SoFar s start at a → length s ≤ at → Taken s 0 start a
  so_far_all at a f h = f a (none h)
