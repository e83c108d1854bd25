use Rattle.readings.proofs.Laws.Answers.{known_long, sought_first}
use Rattle.readings.proofs.calls.first_with.Goals as goal

pub read-h-requires : goal.read-h-requires
read-h-requires c = known_long _ c.requires.0

pub returns : goal.returns
returns c = sought_first _ c.requires.0 _ _ _ _ _ _ _ (rw c.new.ensures at c.visit_all.ensures)
