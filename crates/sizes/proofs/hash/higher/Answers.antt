-- The loop's start, and a power more.
use Rattle.std.proofs.Common.{◌≡◌, ◌*◌, ◌%◌}
use Rattle.sizes.proofs.Laws.Powers.{dividing_start, dividing_more}
use Rattle.sizes.proofs.hash.higher.Goals as goal

pub loop-j-init : goal.loop-j-init
loop-j-init c = rw c.from-power.ensures (dividing_start _ _ _ c.requires.0 c.if-h-eq0.false c.requires.1 c.requires.2)

pub loop-j-preserved : goal.loop-j-preserved
loop-j-preserved c =
    let e : c.args.h % (c.loop-j.power * c.args.gamma) ≡ 0 = rw (← c.from.ensures, ← c.from-in-loop-j.ensures) c.if-from-next-ne0.false in
    rw c.from.ensures (dividing_more _ _ _ c.requires.0 _ _ c.loop-j.invariant c.loop-j-test.true e)
