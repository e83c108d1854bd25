use mathlib.Core.Path.{refl}
use Rattle.std.proofs.lemmas.Result.{err_from_is_err_and}
use Rattle.readings.proofs.Laws.Answers.{known_long}
use Rattle.readings.proofs.Laws.Replies.{range_asked, span_turned, span_short, span_filled}
use Rattle.readings.proofs.calls.span.Goals as goal

pub returns-in_err-range : goal.returns-in_err-range
returns-in_err-range c =
    let p = err_from_is_err_and c.from_residual.result c.from_residual.ensures.1 in
    rw (p.1, p.2) (span_turned _ _ _ _ _ c.in_err-range.ensures, refl)

pub read-h-requires : goal.read-h-requires
read-h-requires c = known_long _ (range_asked _ _ _ c.in_ok-range.ensures).0

pub visit_all-n-requires : goal.visit_all-n-requires
visit_all-n-requires c =
    let p = range_asked _ _ _ c.in_ok-range.ensures in
    rw c.new.ensures (p.0, p.1, p.2, c.read-h.ensures.0)

pub returns-then-output-rows : goal.returns-then-output-rows
returns-then-output-rows c = (
  span_short _ _ _ _ c.in_ok-range.ensures _ _ (rw c.new.ensures at c.visit_all-n.ensures)
      _ (rw (c.row.ensures.0, c.read-h.ensures.0) at c.rows.ensures.0) c.if-output-rows.true,
  refl,
)

pub visit_all-requires : goal.visit_all-requires
visit_all-requires c =
    let p = range_asked _ _ _ c.in_ok-range.ensures in
    rw c.new-2.ensures (p.0, p.1, p.2, c.read-h.ensures.0)

pub returns : goal.returns
returns c = (
  span_filled _ _ _ _ c.in_ok-range.ensures _ _ (rw c.new.ensures at c.visit_all-n.ensures)
      _ (rw (c.row.ensures.0, c.read-h.ensures.0) at c.rows.ensures.0) c.if-output-rows.false _ _ (rw c.new-2.ensures at c.visit_all.ensures),
  refl,
)
