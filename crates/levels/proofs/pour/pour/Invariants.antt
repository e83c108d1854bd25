-- `levels::pour::pour` meets its contract: what its loop keeps, of the chunks taken and written.
use Rattle.levels.proofs.Laws.Pouring.{Turning}
use Rattle.levels.proofs.pour.pour.Given as goal

abbrev pub invariant-loop-k : goal.invariant-loop-k
invariant-loop-k l =
    let c₀ = l.initial.carry in
    let c = l.carry in
    Turning l.s l.from.level l.from.first l.from.number l.count l.to.first l.to.number l.initial.written c₀.count l.initial.table c₀.nodes l.k l.written c.count l.table c.nodes
