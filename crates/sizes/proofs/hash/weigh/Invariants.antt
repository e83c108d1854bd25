-- The sum, and the k-th power of the key times what is left of the polynomial, are the hash.
use Rattle.sizes.proofs.Laws.Hashes.{Weighing}
use Rattle.sizes.proofs.hash.weigh.Given as goal

abbrev pub invariant-loop-k : goal.invariant-loop-k
invariant-loop-k l = Weighing l.s l.at l.x l.sum l.k
