-- The walk meets its contract: two functions that call each other, the level falling.
use Rattle.std.proofs.Common.{◌+◌, ◌*◌, ◌-◌}
use Rattle.table.specs.Walk.{opens_of}
use Rattle.table.proofs.Laws.Turns.{Noding, Keyed, Chunking}
use Rattle.table.proofs.walk.+partition_nodes.Given as goal

abbrev pub decreases-nodes : goal.decreases-nodes
decreases-nodes l = 2 * l.level

abbrev pub decreases-partition : goal.decreases-partition
decreases-partition l = 2 * l.level + 1

abbrev pub invariant-nodes-loop-behind : goal.invariant-nodes-loop-behind
invariant-nodes-loop-behind l =
    Noding (opens_of l.q.sizes l.table (l.level - 1)) l.q.sizes l.table l.level l.first l.left l.at l.opens-2 l.initial.seen l.behind l.place l.opens l.seen × Keyed l.q.sizes l.table l.behind l.place l.g

abbrev pub invariant-partition-loop-number : goal.invariant-partition-loop-number
invariant-partition-loop-number l = Chunking l.q.sizes l.table l.level l.first l.initial.seen l.number l.seen
