-- `levels::Carry::read` meets its contract: each goal follows from a law of a chunk read.
use Rattle.std.proofs.Common.{rules}
use Rattle.placement.proofs.Laws.Loops.{search_below}
use Rattle.levels.proofs.Laws.Takes.{read_none, read_over, read_some}
use Rattle.levels.proofs.Carry.read.Goals as goal

ruleset laws = (rules, read_none, search_below, read_over, read_some)

pub returns-in_default : goal.returns-in_default
returns-in_default g c = search laws

pub count_at-more-requires : goal.count_at-more-requires
count_at-more-requires g c = search laws

pub returns-then-s-more : goal.returns-then-s-more
returns-then-s-more g c = search laws

pub offset-start-requires : goal.offset-start-requires
offset-start-requires g c = search laws

pub returns : goal.returns
returns g c = search laws
