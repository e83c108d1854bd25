use Rattle.answers.proofs.Laws.Answers.{show_no, show_yes}
use Rattle.answers.proofs.printing.answer_show.Goals as goal

pub returns-in-Ok : goal.returns-in-Ok
returns-in-Ok c = show_yes _ _ _ _ _ c.in-Ok.ensures c.say.ensures

pub returns-in-Err : goal.returns-in-Err
returns-in-Err c = show_no _ _ _ _ _ c.in-Err.ensures (rw c.from.ensures at c.say_number.ensures)
