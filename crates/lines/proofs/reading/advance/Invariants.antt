-- What the loop of `advance` keeps: what is still to be read gives the same from here on.
use Rattle.lines.proofs.Laws.Steps.{Advancing}
use Rattle.lines.proofs.reading.advance.Given as goal

abbrev pub invariant-loop-i : goal.invariant-loop-i
invariant-loop-i l = Advancing l.s l.at l.initial.reader l.reader l.i
