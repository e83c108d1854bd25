-- No refusal has the number 0, which is success.
use mathlib.Core.Path.{◌≡◌, refl}
use Prim.Native.Nat.{ℕ, suc}
use Rattle.table.specs.declared.Refusal.{Refusal}
use Rattle.table.specs.declared.Refusal.TheVariants.{BadSeed, BadSizes, BadLength, NoImage, NoKey, BadQuantities, OrdersFull, BlocksFull, NotHeld, LoAboveHi, OutputShort, NoReserve, HeldAlready, NoPrices}
use Rattle.table.specs.Refusals.{number_of}

pub number_some : (e : Refusal) → (n : ℕ) × (number_of e ≡ suc n)
number_some BadSeed = (0, refl)
number_some BadSizes = (1, refl)
number_some BadLength = (2, refl)
number_some NoImage = (3, refl)
number_some NoKey = (4, refl)
number_some BadQuantities = (5, refl)
number_some OrdersFull = (6, refl)
number_some BlocksFull = (7, refl)
number_some NotHeld = (8, refl)
number_some LoAboveHi = (9, refl)
number_some OutputShort = (10, refl)
number_some NoReserve = (11, refl)
number_some HeldAlready = (12, refl)
number_some NoPrices = (13, refl)
