-- `levels::Carry::take` meets its contract: the law of a chunk taken.
use Rattle.std.proofs.Common.{rules}
use Rattle.placement.proofs.Laws.Loops.{shaped_same}
use Rattle.levels.proofs.Laws.Takes.{take_made}
use Rattle.levels.proofs.Carry.take.Goals as goal

ruleset laws = (rules, shaped_same, take_made)

pub returns : goal.returns
returns g c = search laws
