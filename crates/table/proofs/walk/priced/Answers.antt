-- `table::walk::priced` meets its contract.
use Rattle.table.proofs.Laws.Steps.{priced_none, priced_order}
use Rattle.table.proofs.walk.priced.Goals as goal

pub returns-then-level-ne1 : goal.returns-then-level-ne1
returns-then-level-ne1 c = priced_none _ _ _ _ _ c.requires.1 _ c.node_of.ensures c.then-level-ne1.either

pub returns : goal.returns
returns c = priced_order _ _ _ _ _ c.requires.1 c.if-level-ne1.false c.if-n-eq0.false _ _ c.price_at.ensures.0 c.be4.ensures
