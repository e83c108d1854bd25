use Rattle.readings.proofs.Laws.Answers.{known_at, known_long, known_sizes}
use Rattle.readings.proofs.descent.geometry_of.Goals as goal

pub read-h-requires : goal.read-h-requires
read-h-requires c = known_long _ c.requires

pub reckon-requires : goal.reckon-requires
reckon-requires c = known_sizes _ _ (known_at _ _ c.requires c.read-h.ensures.0)
