-- `table::sweep::mask` meets its contract.
use mathlib.Core.Path.{refl}
use Rattle.table.proofs.Laws.Passes.{mask_made}
use Rattle.table.proofs.sweep.mask.Goals as goal

pub returns : goal.returns
returns c = mask_made _ _ (c.fill.ensures.after (λ y e. e)) refl
