use Rattle.std.proofs.Common.{arith, rules}
use Rattle.lines.proofs.Laws.Writing.{row_short}
use Rattle.answers.proofs.Laws.Output.{said_row}
use Rattle.answers.proofs.printer.Printer.say.Goals as goal

pub invariant_of-self : goal.invariant_of-self
invariant_of-self c = record { within = omega (arith, row_short c.args.first c.args.others.now) }

pub returns : goal.returns
returns c = said_row _ c.make_room.new.self _ (search rules) c.make_room.ensures.kept c.make_room.ensures.at _ _ c.requires c.put_row-self.ensures
