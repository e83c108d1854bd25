-- A field more.
use Rattle.sizes.proofs.Laws.HeaderLoops.{placed}
use Rattle.sizes.proofs.Laws.HeaderWrites.{heading_start, heading_more}
use Rattle.sizes.proofs.header.Header.write.Goals as goal

pub loop-k-init : goal.loop-k-init
loop-k-init c = heading_start _ _ _

pub loop-k-preserved : goal.loop-k-preserved
loop-k-preserved c =
    let p = placed c.loop-k.k c.loop-k-test.true in
    heading_more _ _ _ _ _ c.loop-k.invariant _ _ _ _ c.loop-k-test.true p.at_is p.width_is c.value.ensures c.put.ensures
