-- The key is one that an order may have, and an order has it.
use Rattle.std.proofs.Common.{◌≡◌, sym, arith, Some, None}
use Rattle.std.proofs.lemmas.Result.{err_from_is_err_and}
use Rattle.table.specs.Calls.{CancelSays}
use Rattle.table.specs.declared.Refusal.TheVariants.{NotHeld}
use Rattle.readings.proofs.Laws.Answers.{known_at}
use Rattle.readings.proofs.Laws.Replies.{sought_absent, sought_there}
use Rattle.edits.proofs.Laws.EditAnswers.{refused_4, key_some}
use Rattle.edits.proofs.Laws.CancelAnswers.{cancel_no_5, cancel_no_9}
use Rattle.edits.proofs.changes.cancel.Goals as goal

pub returns-in_err-examine : goal.returns-in_err-examine
unfolding CancelSays
returns-in_err-examine c =
    let p = err_from_is_err_and c.from_residual.result c.from_residual.ensures.1 in
    rw (p.1, p.2) (refused_4 _ _ _ c.in_err-examine.ensures)

pub returns-then-not-is_key : goal.returns-then-not-is_key
returns-then-not-is_key c = cancel_no_5 _ _ c.in_ok-examine.ensures.0 (sym c.if-not-is_key.ensures)

pub order_of-requires : goal.order_of-requires
order_of-requires c =
    (known_at _ _ c.in_ok-examine.ensures.0 c.geometry_of-q.ensures, key_some _ (sym c.if-not-is_key.ensures))

pub returns-in_default : goal.returns-in_default
returns-in_default c =
    cancel_no_9 _ _ c.in_ok-examine.ensures.0 (sym c.if-not-is_key.ensures) (sought_absent _ _ _ c.order_of.ensures c.in_default.is)

pub cancel_held-requires : goal.cancel_held-requires
cancel_held-requires c =
    (c.in_ok-examine.ensures.0, sym c.if-not-is_key.ensures, (sought_there _ _ _ c.order_of.ensures _ c.in-Some.is).0, c.geometry_of-q.ensures)
