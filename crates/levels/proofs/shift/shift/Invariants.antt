-- `levels::shift::shift` meets its contract: what its loop keeps, of the chunks written in place.
use Rattle.levels.proofs.Laws.Shifting.{Moving}
use Rattle.levels.proofs.shift.shift.Given as goal

abbrev pub invariant-loop-k : goal.invariant-loop-k
invariant-loop-k l =
    let c₀ = l.initial.carry in
    let c = l.carry in
    Moving l.s l.from.level l.from.first l.from.number l.count c₀.count l.initial.table c₀.nodes l.k c.count l.table c.nodes
