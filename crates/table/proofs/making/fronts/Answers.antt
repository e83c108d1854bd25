-- One level more has its front.
use Rattle.std.proofs.Common.{arith}
use Rattle.table.proofs.Laws.Fronts.{fronting_start, fronting_more, fronting_end}
use Rattle.table.proofs.making.fronts.Goals as goal

pub loop-level-init : goal.loop-level-init
loop-level-init c = fronting_start _ _ _ c.requires.0

pub loop-level-preserved : goal.loop-level-preserved
loop-level-preserved c =
    fronting_more _ _ _ _ _ c.loop-level.invariant c.loop-level-test.true c.requires.1 _ _ c.insert.auto.table c.insert.ensures.0 c.insert.ensures.1

pub returns : goal.returns
returns c = fronting_end _ _ _ _ _ c.loop-level.invariant (omega arith)

pub returns-2 : goal.returns-2
returns-2 c =
    fronting_end _ _ _ _ _
    (fronting_more _ _ _ _ _ c.loop-level.invariant c.loop-level-test.true c.requires.1 _ _ c.insert.auto.table c.insert.ensures.0 c.insert.ensures.1) (omega arith)
