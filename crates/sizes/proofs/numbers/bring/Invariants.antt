-- What the loop of `bring` keeps: so many bytes are written over those of the start.
use Rattle.std.proofs.Common.{take, drop}
use Rattle.sizes.proofs.Laws.Parts.{Written}
use Rattle.sizes.proofs.numbers.bring.Given as goal

abbrev pub invariant-loop-k : goal.invariant-loop-k
invariant-loop-k l = Written l.initial.s l.at (take l.n (drop l.start l.from)) l.n l.s l.k
