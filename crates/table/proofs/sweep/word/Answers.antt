-- `table::sweep::word` meets its contract.
use Rattle.table.proofs.Laws.Passes.{word_zero}
use Rattle.table.proofs.sweep.word.Goals as goal

pub returns : goal.returns
returns c = word_zero _ _ _ c.from_le_bytes.ensures
