-- What the test of sizes and seed says.
use mathlib.Core.Path.{◌≡◌}
use mathlib.Core.List.{List, [], ◌∷◌}
use mathlib.Core.Bool.{true}
use Prim.Native.Nat.{ℕ, zero, suc, ◌≤◌, ◌<◌}
use native.Mathlib.Omega.{arith}
use lib.Dec.{ltb}
use lib.ListN.{length, get_or}
use borrow.Author.Tests.{ltb-true}
use Rattle.std.proofs.lemmas.Bool.Decides.{nat_tests}
pub use Rattle.std.proofs.lemmas.Bool.{and_parts}
use Rattle.sizes.specs.declared.Sizes.{Sizes}
use Rattle.sizes.specs.Sizes.{prime, row, sizes_good, beta, seed_good, made}

pub record Limits (s : Sizes) : Type 0 where
  pub version_least : 1 ≤ s.version
  pub version_most : s.version ≤ 2
  pub gamma_least : 2 ≤ s.gamma
  pub gamma_most : s.gamma ≤ 64
  pub nodes_some : 0 < s.nodes
  pub nodes_least : 2 ≤ s.nodes
  pub nodes_most : s.nodes ≤ 32
  pub orders_least : 1 ≤ s.orders
  pub orders_most : s.orders ≤ 65535
  pub blocks_least : beta s ≤ s.blocks
  pub blocks_most : s.blocks ≤ 65535
  pub sizes : sizes_good s ≡ true
  pub seeds : seed_good s.seed ≡ true
  pub ten : length s.seed ≡ 10

pub limits : (s : Sizes) → made s ≡ true → Limits s
unfolding made sizes_good
limits s h =
    record {
      version_least = grind (arith, nat_tests);
      version_most = grind (arith, nat_tests);
      gamma_least = grind (arith, nat_tests);
      gamma_most = grind (arith, nat_tests);
      nodes_some = grind (arith, nat_tests);
      nodes_least = grind (arith, nat_tests);
      nodes_most = grind (arith, nat_tests);
      orders_least = grind (arith, nat_tests);
      orders_most = grind (arith, nat_tests);
      blocks_least = grind (arith, nat_tests);
      blocks_most = grind (arith, nat_tests);
      sizes = grind (arith, nat_tests);
      seeds = grind (arith, nat_tests);
      ten = grind (arith, nat_tests);
    }

pub some_blocks : (s : Sizes) → made s ≡ true → zero < s.blocks
unfolding beta
some_blocks s h = omega (arith, (limits s h).blocks_least)

pub some_nodes : (s : Sizes) → made s ≡ true → zero < s.nodes
some_nodes s h = omega (arith, (limits s h).nodes_least)

-- A NODE'S BYTES
pub row_least : (s : Sizes) → 12 ≤ row s
unfolding row
row_least s = grind (arith, nat_tests)

pub row_most : (s : Sizes) → row s ≤ 16
unfolding row
row_most s = grind (arith, nat_tests)

-- a number of a seed is below p
pub seed_below : (ss : List ℕ) (i : ℕ) → seed_good ss ≡ true → get_or ss i 0 < 2147483647
unfolding seed_good
seed_below [] i e = omega arith
seed_below (x ∷ ss) zero e = ltb-true x prime (and_parts (ltb x prime) (seed_good ss) e).0
seed_below (x ∷ ss) (suc i) e = seed_below ss i (and_parts (ltb x prime) (seed_good ss) e).1
