-- What the loop of `past_lower` keeps.
use Rattle.placement.specs.Place.{GoesOn}
use Rattle.placement.proofs.search.past_lower.Given as goal

abbrev pub invariant-loop-i : goal.invariant-loop-i
invariant-loop-i l = GoesOn l.s l.table l.want l.start l.i
