-- `levels::spots::pass_nodes` meets its contract: what its loop keeps, of the nodes that came by.
use Rattle.levels.proofs.Laws.Scanning.{Passing}
use Rattle.levels.proofs.spots.pass_nodes.Given as goal

abbrev pub invariant-loop-i : goal.invariant-loop-i
invariant-loop-i l = Passing l.w l.table l.n l.at l.y l.initial.spot l.i l.spot
