-- A power more.
use Rattle.sizes.proofs.Laws.Powers.{powering_more}
use Rattle.sizes.proofs.hash.powers.Goals as goal

pub loop-p-preserved : goal.loop-p-preserved
loop-p-preserved c =
    powering_more _ _ _ _ c.loop-p.invariant c.residue-y.result c.times-power.result c.loop-p-test.true c.residue-y.ensures.0 c.times-power.ensures.0 c.times-power.ensures.1
