-- The answer of a check.
use Rattle.std.proofs.Common.{Option, Some, None, Ok, Err, ok_or, Fits, w8, arith}
use mathlib.Core.Path.{◌≡◌, refl, sym, ◌∙◌}
use mathlib.Core.List.{List, [], ◌∷◌}
use Prim.Native.Nat.{ℕ, suc, ◌<◌}
use lib.ListN.{get_or}
use Rattle.sizes.proofs.Laws.Numbers.{Bytes}
use Rattle.skiplist.specs.Questions.{first_no, asks_image}
use Rattle.skiplist.specs.Book.{asks, refusal}
use Rattle.table.specs.Check.{Passed, Examined}
use Rattle.table.specs.declared.Refusal.{Refusal}
use Rattle.table.specs.declared.Refusal.TheVariants.{NoImage}
use Rattle.table.specs.Calls.{check_number}
use Rattle.table.specs.Refusals.{number_of}
use Rattle.table.proofs.Laws.Decides.{check_decides}

pub bytes_all : (bs : List ℕ) → ((i : ℕ) → get_or bs i 0 < 256) → Bytes bs
bytes_all [] h = tt
bytes_all (x ∷ xs) h = (h 0, bytes_all xs (λ i. h (suc i)))

-- what examine answers, by what the pass and the walk have found
pub examined : (bs : List ℕ) → ((i : ℕ) → Fits w8 (get_or bs i 0)) → (r : Option ℕ) → Passed bs r → Examined bs (ok_or r NoImage)
examined bs small (Some n) p = (sym (check_decides bs (bytes_all bs (λ i. omega (arith, small i)))) ∙ p.0, p.1)
examined bs small None p = (sym (check_decides bs (bytes_all bs (λ i. omega (arith, small i)))) ∙ p, refl)

-- what check answers, by what examine has
module _ (bs : List ℕ) where
  pub checked_yes : (n : ℕ) → Examined bs (Ok n) → 0 ≡ check_number bs
  unfolding check_number refusal asks first_no asks_image
  checked_yes n x = let z = x.0 in sym (rw z)

  pub checked_no : (e : Refusal) → Examined bs (Err e) → number_of e ≡ check_number bs
  unfolding check_number refusal asks first_no asks_image
  checked_no e x = let z = x.0 in sym (rw (z, x.1))
