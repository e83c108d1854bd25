-- `table::sweep::zeros` meets its contract: one loop over the words of a block.
use Rattle.std.proofs.Common.{◌/◌}
use Rattle.table.proofs.Laws.Passes.{Masking}
use Rattle.table.proofs.sweep.zeros.Given as goal

abbrev pub invariant-loop-j : goal.invariant-loop-j
invariant-loop-j l = Masking l.table l.at (l.long / 4) (l.used / 4) l.j l.any
