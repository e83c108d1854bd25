use Rattle.std.proofs.Common.{rules}
use Rattle.readings.proofs.Laws.Descents.{landed_at}
use Rattle.readings.proofs.descent.order_at.Goals as goal

pub returns : goal.returns
returns c = landed_at _ _ _ _ _ c.place_of.ensures.0 _ _ c.map.ensures.cases (λ a o h. search rules)
