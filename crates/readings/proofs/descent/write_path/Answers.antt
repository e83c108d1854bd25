use Rattle.readings.proofs.Laws.Descents.{path_kept}
use Rattle.readings.proofs.descent.write_path.Goals as goal

pub returns-then-long-short : goal.returns-then-long-short
returns-then-long-short c = path_kept _ _ _ _ _ _ c.requires.1 c.if-long-short.true c.requires.2 _ c.bring.ensures
