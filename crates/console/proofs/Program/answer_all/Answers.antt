use Rattle.std.proofs.Common.{refl}
use Rattle.console.specs.Input.{goes_on, ends}
use Rattle.console.proofs.Laws.Input.{so_far_more, so_far_all}
use Rattle.console.proofs.Program.answer_all.Goals as goal

pub loop-at-preserved-then-at-bytes : goal.loop-at-preserved-then-at-bytes
loop-at-preserved-then-at-bytes c =
    so_far_more _ _ _ _ _ _ c.loop-at.invariant (ends _ _ c.advance-went.ensures c.if-at-bytes.true refl (record { reader = c.answer_line.ensures.reader; step = c.answer_line.ensures.step }))

pub loop-at-preserved : goal.loop-at-preserved
loop-at-preserved c = so_far_more _ _ _ _ _ _ c.loop-at.invariant (goes_on c.if-at-bytes.false c.advance-went.ensures refl refl)

pub returns : goal.returns
returns c = so_far_all _ _ _ _ c.loop-at.invariant c.loop-at-test.false
