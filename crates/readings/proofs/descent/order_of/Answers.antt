use mathlib.Core.Path.{refl}
use Rattle.readings.proofs.Laws.Descents.{order_alone}
use Rattle.readings.proofs.descent.order_of.Goals as goal

pub returns : goal.returns
returns c = let p = c.requires in order_alone _ _ p.0 _ p.1 c.args.q refl _ c.way_down-t.ensures.0 _ c.order_at.ensures
