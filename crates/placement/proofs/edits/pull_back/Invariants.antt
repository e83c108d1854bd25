-- What the loop of `pull_back` keeps.
use Rattle.placement.proofs.Laws.Loops.{Pulling}
use Rattle.placement.proofs.edits.pull_back.Given as goal

abbrev pub invariant-loop-k : goal.invariant-loop-k
invariant-loop-k l = Pulling l.s l.at l.initial.table l.table l.hole l.k
