use native.Mathlib.Omega.{arith}
use Rattle.readings.proofs.Laws.Answers.{known_at, known_sizes, visit_whole}
use Rattle.readings.proofs.calls.visit_all.Goals as goal

pub highest-requires : goal.highest-requires
highest-requires c = let p = c.requires in let k = known_sizes _ _ (known_at _ _ p.0 p.3) in (k.1, k.2)

pub visit_partition-requires : goal.visit_partition-requires
visit_partition-requires c = let p = c.requires in (known_at _ _ p.0 p.3, omega (arith, c.highest.ensures.1), omega (arith, c.highest.ensures.0), p.2)

pub returns : goal.returns
returns c = let p = c.requires in visit_whole _ _ _ _ _ (known_at _ _ p.0 p.3) p.3 c.highest.ensures.0 p.1 p.2 _ _ c.visit_partition.ensures
