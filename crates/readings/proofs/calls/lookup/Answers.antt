use mathlib.Core.Path.{refl, sym, ◌∙◌}
use Rattle.std.proofs.lemmas.Result.{err_from_is_err_and}
use Rattle.readings.proofs.Laws.Answers.{known_at}
use Rattle.readings.proofs.Laws.Replies.{key_least, look_4, look_5, look_rest}
use Rattle.readings.proofs.calls.lookup.Goals as goal

pub returns-in_err-examine : goal.returns-in_err-examine
returns-in_err-examine c =
    let p = err_from_is_err_and c.from_residual.result c.from_residual.ensures.1 in
    rw (p.1, p.2) (look_4 _ _ _ c.in_err-examine.ensures, refl)

pub returns-then-not-is_key : goal.returns-then-not-is_key
returns-then-not-is_key c = (look_5 _ _ c.in_ok-examine.ensures.0 (sym c.if-not-is_key.ensures), refl)

pub order_of-requires : goal.order_of-requires
order_of-requires c = (known_at _ _ c.in_ok-examine.ensures.0 c.geometry_of.ensures, key_least _ _ c.is_key.ensures c.if-not-is_key.false)

pub returns-in_default : goal.returns-in_default
returns-in_default c = (look_rest _ _ c.in_ok-examine.ensures.0 (sym c.if-not-is_key.ensures) _ (sym c.in_default.is ∙ c.order_of.ensures), refl)

pub returns : goal.returns
returns c = (look_rest _ _ c.in_ok-examine.ensures.0 (sym c.if-not-is_key.ensures) _ (sym c.in-Some.is ∙ c.order_of.ensures), refl)
