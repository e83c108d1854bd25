use Rattle.answers.proofs.Laws.Orders.{order_said}
use Rattle.answers.proofs.printing.say_order.Goals as goal

pub returns : goal.returns
returns c = order_said _ _ _ _ _ _ c.be4.ensures c.be4-2.ensures c.be4-3.ensures c.say.ensures
