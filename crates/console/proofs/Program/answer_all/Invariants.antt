-- Each turn goes on by a byte at least.
use Rattle.std.proofs.Common.{◌-◌, length}
use Rattle.console.proofs.Laws.Input.{SoFar}
use Rattle.console.proofs.Program.answer_all.Given as goal

abbrev pub invariant-loop-at : goal.invariant-loop-at
invariant-loop-at l = SoFar l.bytes l.initial.self l.at l.self

abbrev pub decreases-loop-at : goal.decreases-loop-at
decreases-loop-at l = length l.bytes - l.at
