-- `lines::reading::advance` meets its contract: one loop over the bytes.
use borrow.Author.Rules.{rules}
use Rattle.lines.proofs.Laws.Steps.{advancing_start, advancing_more, advancing_stop, advancing_end}
use Rattle.lines.proofs.reading.advance.Goals as goal

ruleset laws = (rules, advancing_start, advancing_more, advancing_stop, advancing_end)

pub loop-i-init : goal.loop-i-init
loop-i-init c = search laws

pub returns-then-s-i-eq10 : goal.returns-then-s-i-eq10
returns-then-s-i-eq10 c = search laws

pub loop-i-preserved : goal.loop-i-preserved
loop-i-preserved c = search laws

pub returns : goal.returns
returns c = search laws
