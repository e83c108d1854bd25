use Rattle.std.proofs.Common.{refl}
use Rattle.readings.proofs.Laws.Replies.{checked_yes}
use Rattle.answers.proofs.Laws.Blocks.{blocks_no, blocks_yes}
use Rattle.answers.proofs.printing.answer_blocks.Goals as goal

pub say_image-requires : goal.say_image-requires
say_image-requires c = rw c.bytes.ensures (checked_yes _ _ c.in-Ok.ensures refl)

pub returns-in-Ok : goal.returns-in-Ok
returns-in-Ok c = blocks_yes _ _ _ c.in-Ok.ensures _ c.say_number.ensures (rw c.bytes.ensures at c.say_image.ensures)

pub returns-in-Err : goal.returns-in-Err
returns-in-Err c = blocks_no _ _ _ _ c.in-Err.ensures (rw c.from.ensures at c.say_number-in-Err.ensures)
