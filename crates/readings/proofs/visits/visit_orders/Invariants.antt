use Rattle.sizes.specs.Sizes.{row}
use Rattle.readings.specs.Visit.{scan}
use Rattle.readings.proofs.Laws.Tours.{Nodded}
use Rattle.readings.proofs.visits.visit_orders.Given as goal

abbrev pub invariant-loop-k : goal.invariant-loop-k
invariant-loop-k l = Nodded (row l.s) (λ ns. ns) l.table l.at l.left (scan (row l.s) l.initial.w l.initial.output) l.k (scan (row l.s) l.w l.output)
