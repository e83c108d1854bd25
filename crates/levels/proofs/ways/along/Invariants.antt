-- `levels::ways::along` meets its contract: what its loop keeps, of the chunks gone through.
use Rattle.levels.proofs.Laws.Ways.{Along}
use Rattle.levels.proofs.ways.along.Given as goal

abbrev pub invariant-loop-number : goal.invariant-loop-number
invariant-loop-number l = Along l.s l.table l.level l.y l.initial.w.count l.first l.initial.path l.number l.start l.w l.path
