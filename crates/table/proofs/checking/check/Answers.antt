-- Question 4 is the only one.
use mathlib.Core.Path.{refl}
use Rattle.std.proofs.lemmas.Result.{err_from_is_err_and}
use Rattle.table.proofs.Laws.Decided.{checked_yes, checked_no}
use Rattle.table.proofs.checking.check.Goals as goal

pub returns-in_err-examine : goal.returns-in_err-examine
returns-in_err-examine c =
    let p = err_from_is_err_and c.from_residual.result c.from_residual.ensures.1 in
    rw (p.1, p.2) (checked_no _ _ c.in_err-examine.ensures, refl)

pub returns : goal.returns
returns c = (checked_yes _ _ c.in_ok-examine.ensures, refl)
