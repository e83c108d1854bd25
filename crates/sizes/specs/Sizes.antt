-- Sizes and seed. Document 01, "Orders and hashes".
use Rattle.std.specs.Prelude.{Bool, true, ◌&&◌, cond, List, [], ◌∷◌, ℕ, zero, suc, ◌+◌, ◌^◌, ltb, leb, eqb, length}
use Rattle.sizes.specs.declared.Sizes.{Sizes}

-- p is 2^31 - 1
abbrev pub prime : ℕ
prime = 2147483647

-- the smallest e with γ^e at least N. γ is at least 2 and N below 2^16, so 17 tries are enough
unfoldable pub least_power : (fuel e : ℕ) → (gamma n : ℕ) → ℕ
least_power zero e g n = e
least_power (suc k) e g n = cond (leb n (g ^ e)) e (least_power k (suc e) g n)

-- β is 2 and that e
unfoldable pub beta : Sizes → ℕ
beta s = 2 + least_power 17 0 s.gamma s.orders

-- THE BYTES OF A NODE: 12 in version 1, else 16
unfoldable pub row : Sizes → ℕ
row s = cond (eqb s.version 1) 12 16

-- version 1 or 2, document 02, A.6; γ 2..64; B 2..32; N 1..65,535; M β..65,535
unfoldable pub sizes_good : Sizes → Bool
sizes_good s =
    (leb 1 s.version && leb s.version 2)
    && (((leb 2 s.gamma && leb s.gamma 64) && (leb 2 s.nodes && leb s.nodes 32))
    && ((leb 1 s.orders && leb s.orders 65535) && (leb (beta s) s.blocks && leb s.blocks 65535)))

-- each seed number is below p
unfoldable pub seed_good : List ℕ → Bool
seed_good [] = true
seed_good (x ∷ xs) = ltb x prime && seed_good xs

-- sizes and seed that make allows
unfoldable pub made : Sizes → Bool
made s = sizes_good s && (seed_good s.seed && eqb (length s.seed) 10)
