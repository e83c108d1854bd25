-- `levels::pour::write_some` meets its contract: each goal follows from a law of nodes put.
use Rattle.std.proofs.Common.{rules}
use Rattle.placement.proofs.Laws.Loops.{shaped_same}
use Rattle.levels.proofs.Laws.Flushes.{put_none, put_some}
use Rattle.levels.proofs.pour.write_some.Goals as goal

ruleset laws = (rules, shaped_same, put_some, put_none)

pub returns-then-n-gt0 : goal.returns-then-n-gt0
returns-then-n-gt0 c = search laws

pub returns-else-n-gt0 : goal.returns-else-n-gt0
returns-else-n-gt0 c = search laws
