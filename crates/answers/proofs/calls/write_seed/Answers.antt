use Rattle.std.proofs.Common.{rules, refl}
use Rattle.sizes.specs.Numbers.{rows}
use Rattle.answers.specs.Asked.{seed_asked}
use Rattle.answers.proofs.Laws.Asked.{seeding_more, seeding_end, ten_asked}
use Rattle.answers.proofs.calls.write_seed.Goals as goal

pub loop-i-init : goal.loop-i-init
unfolding rows
loop-i-init c = refl

pub loop-i-preserved : goal.loop-i-preserved
loop-i-preserved c = rw c.put4.ensures (seeding_more _ _ _ (search rules) (ten_asked c.args.pieces (search rules)) c.loop-i.invariant c.loop-i-test.true)

pub returns : goal.returns
unfolding seed_asked
returns c = seeding_end _ _ _ (search rules) (ten_asked c.args.pieces (search rules)) c.loop-i.invariant c.loop-i.auto.i-end c.loop-i-test.false
