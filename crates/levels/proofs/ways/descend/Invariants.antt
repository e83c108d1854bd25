-- `levels::ways::descend` meets its contract: what its loop keeps, of the levels above the one come to, and of the hash of the key that heads its partition.
use mathlib.Core.Path.{◌≡◌}
use Rattle.sizes.specs.Hash.{hash_from}
use Rattle.levels.proofs.Laws.Ways.{Down}
use Rattle.levels.proofs.ways.descend.Given as goal

abbrev pub invariant-loop-under : goal.invariant-loop-under
invariant-loop-under l = (Down l.q.sizes l.table l.q.top l.l l.y l.initial.path l.under l.t l.path) × (l.g ≡ hash_from 5 5 l.q.sizes.seed l.first)
