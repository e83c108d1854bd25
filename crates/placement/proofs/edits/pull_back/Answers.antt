-- The removal ends at an empty block, or after one round.
use Rattle.std.proofs.Common.{rules}
use Rattle.placement.proofs.Laws.Loops.{pulling_end, pulling_empty}
use Rattle.placement.proofs.edits.pull_back.Goals as goal
use Rattle.placement.proofs.edits.pull_back.Goals.{else-loop-k-test, then-loop-k-test+then-l-eq0}

ruleset laws = (rules, pulling_end, pulling_empty)

pub returns : goal.returns
returns c = elim c.loop-k-test.branch [ else-loop-k-test w ↦ search laws | then-loop-k-test+then-l-eq0 w ↦ search laws ]
