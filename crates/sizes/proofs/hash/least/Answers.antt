-- The search ends at e, or goes on.
use Rattle.sizes.proofs.Laws.Hashes.{growing_stop, growing_more}
use Rattle.sizes.proofs.hash.least.Goals as goal

pub returns-then-n-p : goal.returns-then-n-p
returns-then-n-p c = (growing_stop _ _ _ _ c.loop-e.invariant c.loop-e-test.true c.if-n-p.true, c.loop-e.invariant.within)

pub loop-e-preserved : goal.loop-e-preserved
loop-e-preserved c = growing_more _ _ _ _ c.loop-e.invariant c.loop-e-test.true c.if-n-p.false
