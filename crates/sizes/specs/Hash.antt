-- Hashes and levels. Document 01, "Orders and hashes".
use Rattle.std.specs.Prelude.{cond, List, ℕ, zero, suc, ◌+◌, ◌*◌, ◌-◌, ◌%◌, ◌^◌, eqb, get_or}
use Rattle.sizes.specs.Sizes.{prime, beta}
use Rattle.sizes.specs.declared.Sizes.{Sizes}

-- a polynomial of five numbers of the seed, from number i on, mod p
unfoldable pub hash_from : (left i : ℕ) → (seed : List ℕ) → (x : ℕ) → ℕ
hash_from zero i ss x = 0
hash_from (suc k) i ss x = (get_or ss i 0 + x * hash_from k (suc i) ss x) % prime

-- h has a0..a4, g has b0..b4
unfoldable pub h : Sizes → (x : ℕ) → ℕ
h s x = hash_from 5 0 s.seed x

unfoldable pub g : Sizes → (x : ℕ) → ℕ
g s x = hash_from 5 5 s.seed x

-- the largest j up to a limit such that c^j divides v
unfoldable pub divides_from : (left j : ℕ) → (c v : ℕ) → ℕ
divides_from zero j c v = j
divides_from (suc k) j c v = cond (eqb (v % c ^ suc j) 0) (divides_from k (suc j) c v) j

-- 1 and the largest j up to β - 1 such that γ^j divides h(x); the front has β
unfoldable pub level : Sizes → (key : ℕ) → ℕ
level s x = cond (eqb x 0) (beta s) (suc (divides_from (beta s - 1) 0 s.gamma (h s x)))
