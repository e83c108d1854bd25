-- The number, the blank and the sign, one behind the other.
use Rattle.lines.specs.Text.{dash}
use Rattle.lines.proofs.Laws.Writing.{put_on}
use Rattle.lines.proofs.writing.put_dash.Goals as goal

pub returns : goal.returns
unfolding dash
returns c = put_on (put_on c.put_number-place.ensures c.put_byte-end.ensures) c.put_mark.ensures
