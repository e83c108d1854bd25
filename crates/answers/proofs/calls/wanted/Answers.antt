use Rattle.std.proofs.Common.{rules}
use Rattle.sizes.proofs.Laws.HeaderLoops.{good_nodes, good_blocks}
use Rattle.answers.proofs.Laws.Asked.{long_yes, long_no}
use Rattle.answers.proofs.calls.wanted.Goals as goal

pub table_length-requires : goal.table_length-requires
table_length-requires c = search (rules, good_nodes, good_blocks)

pub returns-then-sizes_allowed : goal.returns-then-sizes_allowed
returns-then-sizes_allowed c = long_yes _ _ c.sizes_of-s.ensures _ c.sizes_allowed.ensures c.if-sizes_allowed.true _ c.table_length.ensures

pub returns-else-sizes_allowed : goal.returns-else-sizes_allowed
returns-else-sizes_allowed c = long_no _ _ c.sizes_of-s.ensures _ c.sizes_allowed.ensures c.if-sizes_allowed.false
