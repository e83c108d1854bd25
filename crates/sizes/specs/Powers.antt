-- What the steps of a hash keep. Document 02, A.3: running powers.
use Rattle.std.specs.Prelude.{◌≡◌, List, ℕ, ◌+◌, ◌*◌, ◌%◌, ◌^◌, ◌≤◌, ◌<◌, get_or}
use Rattle.sizes.specs.Sizes.{prime}

-- the i-th power of a key mod p, folded and not reduced: its residue is x^i mod p, and it is at most 1 + p·i
pub record Power (x i q : ℕ) : Type 0 where
  pub is : q % prime ≡ x ^ i % prime
  pub small : q ≤ 1 + prime * i

-- the five powers from the 0th on
pub record Powers (x : ℕ) (all : List ℕ) : Type 0 where
  pub each : (i : ℕ) → i < 5 → Power x i (get_or all i 0)

-- a sum made ready for product k, a number of the seed times power k: the first three fit as they are, each other beside a sum that is folded
pub record Ready (sum k r : ℕ) : Type 0 where
  pub same : r % prime ≡ sum % prime
  pub early : k ≤ 2 → r ≡ sum
  pub late : 2 < k → 2147483648 * r ≤ 2147483648 * prime + sum
