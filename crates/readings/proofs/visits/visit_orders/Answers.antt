use Rattle.readings.proofs.Laws.Tours.{orders_more, orders_end}
use Rattle.readings.proofs.visits.visit_orders.Goals as goal

pub loop-k-preserved : goal.loop-k-preserved
loop-k-preserved c =
    orders_more _ _ _ _ _ _ _ c.loop-k.invariant c.loop-k-test.true _ (rw (c.step-w.ensures, c.node_of.ensures, c.rows.ensures.0, c.row-long.ensures.0))

pub returns : goal.returns
returns c = orders_end _ _ _ _ _ _ _ c.loop-k.invariant c.args.s c.loop-k-test.false
