-- AFTER j STEPS the power is gamma^j, which divides h, and the search goes on from j.
use Rattle.sizes.proofs.Laws.Powers.{Dividing}
use Rattle.sizes.proofs.hash.higher.Given as goal

abbrev pub invariant-loop-j : goal.invariant-loop-j
invariant-loop-j l = Dividing l.h l.gamma l.most l.j l.power
