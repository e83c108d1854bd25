use borrow.Author.Tests.{le-leb, lt-leb}
use mathlib.Core.Path.{refl}
use mathlib.Core.Bool.{true, false, and-false}
use Rattle.std.proofs.lemmas.Result.{err_from_is_err_and}
use Rattle.readings.proofs.Laws.Replies.{range_number, range_4}
use Rattle.readings.proofs.calls.range.Goals as goal
use Rattle.readings.proofs.calls.range.Goals.{then-not-is_key-via-then-not-is_key, then-not-is_key-via-else-not-is_key+then-not-is_key-2}

pub returns-in_err-examine : goal.returns-in_err-examine
returns-in_err-examine c =
    let p = err_from_is_err_and c.from_residual.result c.from_residual.ensures.1 in
    rw (p.1, p.2) (range_4 _ _ _ _ c.in_err-examine.ensures)

pub returns-then-not-is_key : goal.returns-then-not-is_key
returns-then-not-is_key c =
    elim c.then-not-is_key.branch [
      | then-not-is_key-via-then-not-is_key w ↦ range_number _ _ _ true false _ c.in_ok-examine.ensures.0 (rw (← c.is_key.ensures, w.if-not-is_key.true)) refl
      | then-not-is_key-via-else-not-is_key+then-not-is_key-2 w ↦
          range_number _ _ _ true false _ c.in_ok-examine.ensures.0 (rw (← w.is_key-else-not-is_key.ensures, w.if-not-is_key-2.true, and-false)) refl
    ]

pub returns-then-hi-lo : goal.returns-then-hi-lo
returns-then-hi-lo c =
    range_number _ _ _ true true false c.in_ok-examine.ensures.0 (rw (← c.if-not-is_key.ensures, ← c.if-not-is_key-2.ensures)) (lt-leb _ _ c.if-hi-lo.true)

pub returns : goal.returns
returns c =
    range_number _ _ _ true true true c.in_ok-examine.ensures.0 (rw (← c.if-not-is_key.ensures, ← c.if-not-is_key-2.ensures)) (le-leb _ _ c.if-hi-lo.false)
