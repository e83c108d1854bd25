-- What the loop of `settle_in` keeps.
use Rattle.placement.proofs.Laws.Loops.{Settling}
use Rattle.placement.proofs.edits.settle_in.Given as goal

abbrev pub invariant-loop-k : goal.invariant-loop-k
invariant-loop-k l = Settling l.s l.e l.start l.n l.initial.table l.table l.k
