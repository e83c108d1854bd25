-- Which level is next, and the first key of its partition.
use Rattle.edits.proofs.Laws.TurnLoops.{Changing}
use Rattle.edits.proofs.changes.change_levels.Given as goal

abbrev pub invariant-loop-level : goal.invariant-loop-level
invariant-loop-level l = Changing l.q.sizes l.first l.l l.c l.initial.table l.level l.from l.table
