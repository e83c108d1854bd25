-- `levels::shift::shift` meets its contract: each goal follows from a law of a partition under way.
use Rattle.std.proofs.Common.{arith}
use Rattle.levels.proofs.Laws.Shifting.{moving_more, moving_end}
use Rattle.levels.proofs.shift.shift.Goals as goal

pub loop-k-preserved : goal.loop-k-preserved
loop-k-preserved c =
    let r = c.read.ensures in
    let w = c.renew.ensures in
    moving_more _ _ _ _ _ _ _ _ _ _ _ _ c.loop-k.invariant (omega arith) _ _ r.1 r.2 _ _ _ w.0.shaped w.1 w.2

pub returns : goal.returns
returns c = moving_end _ _ _ _ _ _ _ _ _ _ _ _ c.loop-k.invariant (omega arith)
