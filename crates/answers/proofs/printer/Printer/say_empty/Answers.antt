use Rattle.std.proofs.Common.{arith, rules}
use Rattle.lines.proofs.Laws.Writing.{dash_short}
use Rattle.answers.proofs.Laws.Output.{said_dash}
use Rattle.answers.proofs.printer.Printer.say_empty.Goals as goal

pub invariant_of-self : goal.invariant_of-self
invariant_of-self c = record { within = omega (arith, dash_short c.args.number) }

pub returns : goal.returns
returns c = said_dash _ c.make_room.new.self _ (search rules) c.make_room.ensures.kept c.make_room.ensures.at _ c.put_dash-self.ensures
