-- 14, 5 and 6 are asked together; then the way to the key ends at its order, or the key is not held.
use Rattle.std.proofs.Common.{◌≡◌, arith, Some, None, sym, ◌∙◌}
use Rattle.std.proofs.lemmas.Result.{err_from_is_err_and}
use Rattle.table.specs.Calls.{AmendSays}
use Rattle.table.specs.declared.Refusal.TheVariants.{NotHeld}
use Rattle.readings.proofs.Laws.Answers.{known_at}
use Rattle.edits.proofs.Laws.EditAnswers.{refused_4, asked_sure, amend_asked}
use Rattle.edits.proofs.Laws.AmendAnswers.{amend_no_9, amend_done}
use Rattle.edits.proofs.changes.amend.Goals as goal

pub returns-in_err-examine : goal.returns-in_err-examine
unfolding AmendSays
returns-in_err-examine c =
    let p = err_from_is_err_and c.from_residual.result c.from_residual.ensures.1 in
    rw (p.1, p.2) (refused_4 _ _ _ c.in_err-examine.ensures)

pub returns-in_err-asked : goal.returns-in_err-asked
returns-in_err-asked c =
    let p = err_from_is_err_and c.from_residual-in_err-asked.result c.from_residual-in_err-asked.ensures.1 in
    rw (p.1, p.2) (amend_asked _ c.in_ok-examine.ensures.0 _ c.geometry_of-q.ensures _ _ c.in_err-asked.ensures)

pub way_down-w-requires : goal.way_down-w-requires
way_down-w-requires c = (known_at _ _ c.in_ok-examine.ensures.0 c.geometry_of-q.ensures).shaped

pub returns-in_err-place : goal.returns-in_err-place
returns-in_err-place c =
    let s = asked_sure _ c.in_ok-examine.ensures.0 _ c.geometry_of-q.ensures _ c.in_ok-asked.ensures in
    let none : c.place_of.result ≡ None = grind arith in
    let e : c.in_err-place.field-0.0 ≡ NotHeld = grind arith in
    let p = err_from_is_err_and c.from_residual-in_err-place.result c.from_residual-in_err-place.ensures.1 in
    rw (p.1, p.2, e) (amend_no_9 _ _ c.geometry_of-q.result s _ c.way_down-w.ensures.0 (sym c.place_of.ensures.0 ∙ none))

pub returns : goal.returns
returns c =
    let s = asked_sure _ c.in_ok-examine.ensures.0 _ c.geometry_of-q.ensures _ c.in_ok-asked.ensures in
    let some : c.place_of.result ≡ Some c.in_ok-place.place = grind arith in
    amend_done _ _ c.geometry_of-q.result s _ c.way_down-w.ensures.0 _ (sym c.place_of.ensures.0 ∙ some) _ c.write_node.ensures
