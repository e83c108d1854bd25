-- `table::walk::walk_lowest` meets its contract: a loop over the blocks of a partition, and one over the nodes of a block.
use Rattle.std.proofs.Common.{◌+◌}
use Rattle.placement.specs.Labels.{label}
use Rattle.placement.specs.Place.{Starts}
use Rattle.table.proofs.Laws.Turns.{Chunking}
use Rattle.table.proofs.Laws.Lowest.{Lowering}
use Rattle.table.proofs.walk.walk_lowest.Given as goal

abbrev pub invariant-loop-k : goal.invariant-loop-k
invariant-loop-k l = Lowering l.q.sizes l.table l.first l.n (l.at + 8) l.initial.opens l.seen l._k l.place l.opens l.low

abbrev pub invariant-loop-number : goal.invariant-loop-number
invariant-loop-number l = Chunking l.q.sizes l.table 1 l.first l.initial.seen l.number l.seen × Starts l.q.sizes l.table (label 1 l.first l.number) l.start
