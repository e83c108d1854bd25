-- The head, the nodes and the zeros are the block.
use Rattle.std.proofs.Common.{rules}
use Rattle.placement.proofs.Laws.Loops.{block_brought}
use Rattle.placement.proofs.edits.write_block.Goals as goal

pub returns : goal.returns
returns c = search (rules, block_brought)
