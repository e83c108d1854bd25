-- What the loop of `past_fours` keeps.
use Rattle.std.proofs.Common.{◌-◌}
use Rattle.placement.specs.Place.{GoesOn}
use Rattle.placement.proofs.search.past_fours.Given as goal

abbrev pub invariant-loop-i : goal.invariant-loop-i
invariant-loop-i l = GoesOn l.s l.table l.want l.start l.i

abbrev pub decreases-loop-i : goal.decreases-loop-i
decreases-loop-i l = l.s.blocks - l.i
