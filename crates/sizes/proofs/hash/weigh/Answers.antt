-- A term more.
use Rattle.std.proofs.Common.{arith}
use Rattle.sizes.proofs.Laws.Hashes.{weighing_more}
use Rattle.sizes.proofs.hash.weigh.Goals as goal

pub loop-k-preserved : goal.loop-k-preserved
loop-k-preserved c = rw c.from.ensures (weighing_more _ _ _ _ _ c.loop-k.invariant _ c.requires.2 c.requires.0 (omega arith) _ c.ready.ensures)
