-- p is gamma^e, and the search goes on from e.
use Rattle.sizes.proofs.Laws.Hashes.{Growing}
use Rattle.sizes.proofs.hash.least.Given as goal

abbrev pub invariant-loop-e : goal.invariant-loop-e
invariant-loop-e l = Growing l.gamma l.n l.e l.p
