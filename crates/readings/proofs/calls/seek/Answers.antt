use mathlib.Core.Path.{refl}
use Rattle.std.proofs.lemmas.Result.{err_from_is_err_and}
use Rattle.readings.proofs.Laws.Replies.{range_asked, seek_turned, seek_rest}
use Rattle.readings.proofs.calls.seek.Goals as goal

pub returns-in_err-range : goal.returns-in_err-range
returns-in_err-range c =
    let p = err_from_is_err_and c.from_residual.result c.from_residual.ensures.1 in
    rw (p.1, p.2) (seek_turned _ _ _ _ _ c.in_err-range.ensures, refl)

pub first_with-requires : goal.first_with-requires
first_with-requires c = range_asked _ _ _ c.in_ok-range.ensures

pub returns : goal.returns
returns c = rw c.ok_or.ensures.value (seek_rest _ _ _ _ c.in_ok-range.ensures _ c.first_with.ensures, refl)
