-- AFTER p-index STEPS the power is the key's p-index-th, and those before it are in their places.
use Rattle.sizes.proofs.Laws.Powers.{Powering}
use Rattle.sizes.proofs.hash.powers.Given as goal

abbrev pub invariant-loop-p : goal.invariant-loop-p
invariant-loop-p l = Powering l.x l.p-items l.power l.p-index
