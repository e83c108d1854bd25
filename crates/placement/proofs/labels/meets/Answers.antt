-- Where the level decides.
use Rattle.std.proofs.Common.{rules}
use Rattle.placement.proofs.Laws.Loops.{meets_level}
use Rattle.placement.proofs.labels.meets.Goals as goal

pub returns-then-level-want : goal.returns-then-level-want
returns-then-level-want c = meets_level _ _ _ _ _ _ _ c.offset-at.ensures.0 (search rules) c.if-level-want.true c.args.a c.requires.2 (search rules) _ (search rules) (search rules) _ c.past_if.ensures
