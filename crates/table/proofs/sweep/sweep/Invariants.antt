-- `table::sweep::sweep` meets its contract: one loop over the blocks.
use Rattle.table.proofs.Laws.Passes.{Sweeping}
use Rattle.table.proofs.sweep.sweep.Given as goal

abbrev pub invariant-loop-i : goal.invariant-loop-i
invariant-loop-i l = Sweeping l.s l.w l.long l.s.blocks l.table l.i l.full
