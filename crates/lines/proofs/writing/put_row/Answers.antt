-- The first number, the others and the line's end, one behind the other.
use Rattle.lines.specs.Text.{row}
use Rattle.lines.proofs.Laws.Writing.{put_on}
use Rattle.lines.proofs.writing.put_row.Goals as goal

pub returns : goal.returns
unfolding row
returns c = put_on (put_on c.put_number-head.ensures c.put_parted-end.ensures) c.put_byte.ensures
