-- The keys so far stand behind the front, and the other nodes are to come.
use Rattle.std.proofs.Common.{◌≡◌, ◌+◌, ◌++◌, length, take}
use Rattle.placement.specs.Decode.{nodes_from}
use Rattle.answers.specs.Answers.{keys_of}
use Rattle.answers.proofs.Laws.Orders.{Rows}
use Rattle.answers.proofs.printing.keys.Given as goal

abbrev pub invariant-loop-i : goal.invariant-loop-i
invariant-loop-i l = record {
  whole : length l.row ≡ 36;
  size : l.i-iterator.iter.size ≡ l.w;
  rows : Rows l.w l.n l.i-iterator.count l.nodes l.i-iterator.iter.rest.now;
  is : take (4 + l.i-iterator.count) l.row ≡ take 4 l.fn.head ++ keys_of (nodes_from l.w l.i-iterator.count l.nodes);
}
