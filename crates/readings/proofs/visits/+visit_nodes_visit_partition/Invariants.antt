-- Two functions that call each other, the level falling.
use Prim.Native.Nat.{◌+◌, ◌*◌, ◌-◌}
use Rattle.sizes.specs.Sizes.{row}
use Rattle.readings.specs.Visit.{scan, all_under}
use Rattle.readings.proofs.Laws.Tours.{Nodded, Going}
use Rattle.readings.proofs.visits.+visit_nodes_visit_partition.Given as goal

abbrev pub decreases-visit_nodes : goal.decreases-visit_nodes
decreases-visit_nodes l = 2 * l.level

abbrev pub decreases-visit_partition : goal.decreases-visit_partition
decreases-visit_partition l = 2 * l.level + 1

abbrev pub invariant-visit_nodes-loop-k : goal.invariant-visit_nodes-loop-k
invariant-visit_nodes-loop-k l =
    Nodded (row l.s) (all_under l.s l.table (l.level - 1)) l.table l.at l.left (scan (row l.s) l.initial.w l.initial.output) l.k (scan (row l.s) l.w l.output)

abbrev pub invariant-visit_partition-loop-number : goal.invariant-visit_partition-loop-number
invariant-visit_partition-loop-number l = Going l.s l.table l.level l.o (scan (row l.s) l.initial.w l.initial.output) l.number (scan (row l.s) l.w l.output)
