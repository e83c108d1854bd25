-- `levels::growth::growth` meets its contract: what its loop keeps, of the levels above the one that comes next.
use Rattle.levels.proofs.Laws.Growing.{Growing}
use Rattle.levels.proofs.growth.growth.Given as goal

abbrev pub invariant-loop-level : goal.invariant-loop-level
invariant-loop-level l = Growing l.q.sizes l.table l.first l.l l.y l.level l.sum l.from
