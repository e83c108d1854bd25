-- `sizes::numbers::copy` meets its contract: each turn writes one byte more, from a place that no turn before has written.
use borrow.Author.Rules.{rules}
use Rattle.sizes.proofs.Laws.Parts.{written_start, copied, written_end, length_part}
use Rattle.sizes.proofs.numbers.copy.Goals as goal

ruleset laws = (rules, written_start, copied, written_end, length_part)

pub loop-k-init : goal.loop-k-init
loop-k-init c = search laws

pub loop-k-preserved : goal.loop-k-preserved
loop-k-preserved c = search laws

pub returns : goal.returns
returns c = search laws
