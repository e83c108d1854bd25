-- Bytes that pass are an image.
use mathlib.Core.Path.{sym, subst}
use Rattle.table.specs.Check.{Examined}
use Rattle.table.proofs.Laws.Decided.{examined}
use Rattle.table.proofs.checking.examine.Goals as goal

pub returns : goal.returns
returns c = subst (Examined c.args.table.now) (sym c.ok_or.ensures.value) (examined _ c.type_inv.table _ c.passes.ensures)
