-- The levels below the counter have their front.
use Rattle.table.proofs.Laws.Fronts.{Fronting}
use Rattle.table.proofs.making.fronts.Given as goal

abbrev pub invariant-loop-level : goal.invariant-loop-level
invariant-loop-level l = Fronting l.s l.top l.initial.table l.level l.table
