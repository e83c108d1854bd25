use native.Mathlib.Omega.{arith}
use Rattle.std.proofs.lemmas.Bool.Decides.{nat_tests}
use Rattle.skiplist.specs.Questions.{is_key}
use Rattle.readings.proofs.calls.is_key.Goals as goal

pub returns : goal.returns
unfolding is_key
returns c = grind (arith, nat_tests, c.contains.ensures.value)
