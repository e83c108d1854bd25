use Rattle.std.proofs.Common.{rules, tests}
use Rattle.std.proofs.iter.Serving.{serving}
use Rattle.readings.proofs.Laws.Descents.{standing_key, standing_is}
use Rattle.readings.proofs.descent.place_of.Goals as goal

pub filter-requires : goal.filter-requires
filter-requires c = grind (serving, standing_key)

pub returns : goal.returns
returns c = standing_is _ _ _ _ c.requires _ _ c.filter.ensures (λ a b h. search (rules, tests))
