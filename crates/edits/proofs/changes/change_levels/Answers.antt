-- Each level is a turn.
use Rattle.std.proofs.Common.{arith}
use Rattle.edits.proofs.Laws.TurnLoops.{changing_start, changing_more, changing_end}
use Rattle.edits.proofs.changes.change_levels.Goals as goal

pub loop-level-init : goal.loop-level-init
loop-level-init c = changing_start _ _ _ _ _ c.requires.0

pub loop-level-preserved : goal.loop-level-preserved
loop-level-preserved c = changing_more _ _ _ _ _ _ _ _ c.loop-level.invariant (omega arith) _ _ c.change_level-from.auto.table c.change_level-from.ensures

pub returns : goal.returns
returns c = changing_end _ _ _ _ _ _ _ _ c.loop-level.invariant (omega arith)
