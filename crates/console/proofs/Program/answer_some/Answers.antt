use Rattle.std.proofs.Common.{refl}
use Rattle.console.proofs.Program.answer_some.Goals as goal

pub returns : goal.returns
returns c = record {
  program = c.answer_all.new.self;
  taken = c.answer_all.ensures;
  reader = refl;
  table = refl;
  written = record { kept = c.flush.ensures.kept; none = c.flush.ensures.none };
}
