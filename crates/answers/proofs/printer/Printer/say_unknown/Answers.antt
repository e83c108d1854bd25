use Rattle.std.proofs.Common.{rules}
use Rattle.answers.proofs.Laws.Output.{said_mark}
use Rattle.answers.proofs.printer.Printer.say_unknown.Goals as goal

pub returns : goal.returns
returns c = said_mark _ c.make_room.new.self _ (search rules) c.make_room.ensures.kept c.make_room.ensures.at _ c.put_mark-self.ensures
