-- The tests are those of the definition, in the same order but for the last two. The search finds this too, but only just within its limits.
use Rattle.std.proofs.Common.{arith}
use Rattle.std.proofs.lemmas.Grind.{common_steps}
use Rattle.sizes.specs.Sizes.{sizes_good}
use Rattle.sizes.proofs.header.sizes_allowed.Goals as goal

pub returns-then-s-le65535 : goal.returns-then-s-le65535
unfolding sizes_good
returns-then-s-le65535 c = grind (arith, common_steps)

pub returns-else-s-le65535 : goal.returns-else-s-le65535
unfolding sizes_good
returns-else-s-le65535 c = grind (arith, common_steps)
