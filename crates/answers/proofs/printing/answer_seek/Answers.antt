use Rattle.answers.proofs.Laws.Answers.{seek_no, seek_yes}
use Rattle.answers.proofs.printing.answer_seek.Goals as goal

pub returns-in-Ok : goal.returns-in-Ok
returns-in-Ok c = seek_yes _ _ _ _ _ _ _ c.in-Ok.ensures c.say.ensures

pub returns-in-Err : goal.returns-in-Err
returns-in-Err c = seek_no _ _ _ _ _ _ _ c.in-Err.ensures (rw c.from.ensures at c.say_number.ensures)
