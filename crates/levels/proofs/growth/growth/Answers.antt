-- `levels::growth::growth` meets its contract: each goal follows from a law of the levels gone through.
use Rattle.std.proofs.Common.{rules, arith}
use Rattle.levels.proofs.Laws.Growing.{growing_start, growing_more, growing_end}
use Rattle.levels.proofs.growth.growth.Goals as goal

pub loop-level-init : goal.loop-level-init
loop-level-init c = search (rules, growing_start)

pub loop-level-preserved : goal.loop-level-preserved
loop-level-preserved c = search (rules, growing_more)

pub returns : goal.returns
returns c = (growing_end _ _ _ _ _ _ _ _ c.loop-level.invariant (omega arith), omega (arith, c.loop-level.invariant.few))
