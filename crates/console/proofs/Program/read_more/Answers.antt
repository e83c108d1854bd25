use Rattle.std.proofs.Common.{refl}
use Rattle.console.specs.Input.{came, over}
use Rattle.console.proofs.Program.read_more.Goals as goal

pub returns-then-n-eq0 : goal.returns-then-n-eq0
returns-then-n-eq0 c = over refl

pub returns : goal.returns
returns c = came _ c.answer_some.ensures
