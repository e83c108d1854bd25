-- The table lies at the front of its buffer: those bytes, lent to a call, come back.
use mathlib.Core.Path.{◌≡◌, ◌∙◌}
use mathlib.Core.List.{List, ◌++◌}
use Prim.Native.Nat.{ℕ, ◌≤◌}
use lib.ListN.{length, take, drop}
use lib.Seq.{length-take-le, take_at, drop_at}

-- a part that starts at 0 is lent, and comes back as z
module _ (n : ℕ) (x z : List ℕ) (h : n ≤ length x) (l : length z ≡ length (take n x)) where
  e : length z ≡ n
  e = l ∙ length-take-le n x h

  pub front_now : take n (z ++ drop n x) ≡ z
  front_now = take_at z (drop n x) n e

  pub behind_now : drop n (z ++ drop n x) ≡ drop n x
  behind_now = drop_at z (drop n x) n e
