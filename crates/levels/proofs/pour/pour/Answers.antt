-- `levels::pour::pour` meets its contract: each goal follows from a law of a pouring under way; the two partitions are of one level.
use Rattle.levels.proofs.Laws.Pouring.{turning_more, pour_made}
use Rattle.levels.proofs.pour.pour.Goals as goal

pub loop-k-preserved : goal.loop-k-preserved
loop-k-preserved c =
    let t = c.take.ensures in
    let f = c.flush-in-loop-k.ensures in
    turning_more _ _ _ _ _ _ _ _ _ _ _ _ _ _ _ _ c.loop-k.invariant c.loop-k-test.true _ _ _ t.1 t.2 _ _ _ f.0.shaped f.1 (rw c.requires.2 at f.2)

pub returns : goal.returns
returns c =
    pour_made _ _ _ _ _ _ _ _ _ _ _ _ _ (rw c.requires.2 at c.flush.ensures.2) _ _ _ _ _ c.loop-k.invariant c.loop-k-test.false _ (rw c.requires.2 at c.write_some.ensures.1)
