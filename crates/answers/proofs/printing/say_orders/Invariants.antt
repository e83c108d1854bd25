-- The orders so far are printed, and the others' rows are to come.
use Rattle.std.proofs.Common.{◌≡◌, map, length}
use Rattle.placement.specs.Decode.{nodes_from}
use Rattle.answers.specs.Answers.{order_line}
use Rattle.answers.specs.Output.{Said}
use Rattle.answers.proofs.Laws.Orders.{Rows}
use Rattle.answers.proofs.printing.say_orders.Given as goal

abbrev pub invariant-loop-row : goal.invariant-loop-row
invariant-loop-row l = record {
  size : l.row-iterator.size ≡ l.w;
  rows : Rows l.w l.n (length l.yielded) l.found l.row-iterator.rest.now;
  said : Said l.initial.to (map order_line (nodes_from l.w (length l.yielded) l.found)) l.to;
}
