-- `sizes::numbers::bring` meets its contract: each turn writes one byte more.
use borrow.Author.Rules.{rules}
use Rattle.sizes.proofs.Laws.Parts.{written_start, brought, written_end, length_part}
use Rattle.sizes.proofs.numbers.bring.Goals as goal

ruleset laws = (rules, written_start, brought, written_end, length_part)

pub loop-k-init : goal.loop-k-init
loop-k-init c = search laws

pub loop-k-preserved : goal.loop-k-preserved
loop-k-preserved c = search laws

pub returns : goal.returns
returns c = search laws
