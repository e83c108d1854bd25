-- k fields are written.
use Rattle.sizes.proofs.Laws.HeaderWrites.{Heading}
use Rattle.sizes.proofs.header.Header.write.Given as goal

abbrev pub invariant-loop-k : goal.invariant-loop-k
invariant-loop-k l = Heading l.self.sizes l.self.held l.initial.table l.table l.k
