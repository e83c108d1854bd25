use Rattle.readings.proofs.Laws.Answers.{known_long}
use Rattle.answers.proofs.calls.Table.row_length.Goals as goal

pub read-requires : goal.read-requires
read-requires c = rw c.bytes.ensures (known_long _ c.requires)
