-- `levels::spots::scan` meets its contract: what its loop keeps, of the chunks that came by.
use Rattle.levels.proofs.Laws.Scanning.{Scanning}
use Rattle.levels.proofs.spots.scan.Given as goal

abbrev pub invariant-loop-number : goal.invariant-loop-number
invariant-loop-number l = Scanning l.q.sizes l.table l.level l.first l.y l.number l.spot
