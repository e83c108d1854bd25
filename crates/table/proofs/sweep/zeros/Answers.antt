-- `table::sweep::zeros` meets its contract: one loop over the words of a block.
use mathlib.Core.Path.{refl}
use Rattle.table.proofs.Laws.Passes.{none_unused, masking_more, masking_end}
use Rattle.table.proofs.sweep.zeros.Goals as goal

pub returns-then-long-used : goal.returns-then-long-used
returns-then-long-used c = none_unused _ _ _ _ c.if-long-used.true

pub loop-j-preserved : goal.loop-j-preserved
loop-j-preserved c =
    let p = c.requires in
    masking_more _ _ _ _ _ _ c.loop-j.invariant _ _ p.1 p.2 p.3 c.if-long-used.false _ p.4 c.loop-j-test.true _ _ c.word.ensures c.word.type_inv refl

pub returns : goal.returns
returns c = masking_end _ _ _ _ _ _ c.loop-j.invariant c.loop-j-test.false _ _ c.requires.2 c.requires.3
