-- 14, 5 and 6 are asked together; then the key is held, or it is free and there are N orders, or fewer.
use Rattle.std.proofs.Common.{arith}
use Rattle.std.proofs.lemmas.Result.{err_from_is_err_and}
use Rattle.table.specs.Calls.{EnterSays}
use Rattle.readings.proofs.Laws.Answers.{known_at, known_long}
use Rattle.readings.proofs.Laws.Replies.{sought_absent, sought_there}
use Rattle.edits.proofs.Laws.EditAnswers.{refused_4, asked_sure, enter_asked, key_some, held_told}
use Rattle.edits.proofs.Laws.SweptImage.{swept_full}
use Rattle.edits.proofs.Laws.EnterAnswers.{enter_no_13, enter_no_7, enter_free}
use Rattle.edits.proofs.changes.enter.Goals as goal

pub returns-in_err-full : goal.returns-in_err-full
unfolding EnterSays
returns-in_err-full c =
    let p = err_from_is_err_and c.from_residual.result c.from_residual.ensures.1 in
    rw (p.1, p.2) (refused_4 _ _ _ c.in_err-full.ensures)

pub returns-in_err-asked : goal.returns-in_err-asked
returns-in_err-asked c =
    let p = err_from_is_err_and c.from_residual-in_err-asked.result c.from_residual-in_err-asked.ensures.1 in
    rw (p.1, p.2) (enter_asked _ c.in_ok-full.ensures.0 _ c.geometry_of-q.ensures _ _ c.in_err-asked.ensures)

pub order_of-requires : goal.order_of-requires
order_of-requires c =
    let p = asked_sure _ c.in_ok-full.ensures.0 _ c.geometry_of-q.ensures _ c.in_ok-asked.ensures in
    let k = key_some _ p.key in
    (known_at _ _ p.image p.sizes_are, omega arith)

pub returns-in_default : goal.returns-in_default
returns-in_default c =
    let p = asked_sure _ c.in_ok-full.ensures.0 _ c.geometry_of-q.ensures _ c.in_ok-asked.ensures in
    enter_no_13 _ _ _ p (sought_there _ _ _ c.order_of.ensures c.in_default.field-0 c.in_default.is).0

pub field-held-requires : goal.field-held-requires
field-held-requires c = (known_long _ c.in_ok-full.ensures.0, omega arith)

pub returns-then-q-held : goal.returns-then-q-held
returns-then-q-held c =
    let p = asked_sure _ c.in_ok-full.ensures.0 _ c.geometry_of-q.ensures _ c.in_ok-asked.ensures in
    enter_no_7 _ _ _ p (sought_absent _ _ _ c.order_of.ensures c.in-None.is) _ (held_told _ _ c.field-held.ensures) c.if-q-held.true

pub enter_free-requires : goal.enter_free-requires
enter_free-requires c =
    let m = c.in_ok-full.ensures in
    let q = c.geometry_of-q.ensures in
    let p = asked_sure _ m.0 _ q _ c.in_ok-asked.ensures in
    let h = held_told _ _ c.field-held.ensures in
    (p, enter_free _ _ _ p (sought_absent _ _ _ c.order_of.ensures c.in-None.is) _ h c.if-q-held.false, h, swept_full _ _ _ m.1 q m.0)
