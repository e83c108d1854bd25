use Rattle.std.proofs.Common.{rules, arith}
use Rattle.answers.proofs.Laws.Answers.{span_no, span_image, span_room, span_yes}
use Rattle.answers.proofs.printing.answer_span.Goals as goal

pub row_length-requires : goal.row_length-requires
row_length-requires c = span_image _ _ _ _ _ _ c.in-Ok.ensures

pub say_orders-requires : goal.say_orders-requires
say_orders-requires c = (search rules, search rules, omega (arith, span_room _ _ _ _ _ _ c.in-Ok.ensures _ c.row_length.ensures.0))

pub returns-in-Ok : goal.returns-in-Ok
returns-in-Ok c = span_yes _ _ _ _ _ _ c.in-Ok.ensures _ c.row_length.ensures.0 _ _ _ c.say.ensures c.say_orders.ensures

pub returns-in-Err : goal.returns-in-Err
returns-in-Err c = span_no _ _ _ _ _ _ _ _ c.in-Err.ensures (rw c.from.ensures at c.say_number.ensures)
