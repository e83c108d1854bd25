-- What a step does follows from what its questions answer: `told`.
use borrow.Author.Tests.{lt-ltb, le-ltb}
use mathlib.Core.Path.{refl, sym, ◌∙◌}
use mathlib.Core.Bool.{true, false}
use Rattle.readings.proofs.Laws.Visits.{told, step_found}
use Rattle.readings.proofs.visits.step.Goals as goal
use Rattle.readings.proofs.visits.step.Goals.{then-v, else-v}

pub returns-then-has_ended : goal.returns-then-has_ended
returns-then-has_ended c = sym (told _ _ _ _ true _ _ (sym c.has_ended.ensures ∙ c.if-has_ended.true) refl refl)

pub returns-then-v-o : goal.returns-then-v-o
returns-then-v-o c = rw c.ended.ensures (sym (told _ _ _ _ false true _ (sym c.has_ended.ensures ∙ c.if-has_ended.false) (lt-ltb _ _ c.if-v-o.true) refl))

pub returns-then-not-wanted : goal.returns-then-not-wanted
returns-then-not-wanted c =
    sym (told _ _ _ _ false false false (sym c.has_ended.ensures ∙ c.if-has_ended.false) (le-ltb _ _ c.if-v-o.false) (sym c.wanted.ensures ∙ c.if-not-wanted.true))

pub returns : goal.returns
returns c =
    let going = sym c.has_ended.ensures ∙ c.if-has_ended.false in
    let below = le-ltb _ _ c.if-v-o.false in
    let wanted = sym c.wanted.ensures ∙ c.if-not-wanted.false in
    rw c.with.ensures (
    elim c.if-v.branch [
      | then-v w ↦ step_found _ _ _ _ going below wanted _ (rw w.if-v.true (w.output-is ∙ (rw (w.rows.ensures.0, w.row.ensures.0) at w.write_row.ensures)))
      | else-v w ↦ step_found _ _ _ _ going below wanted _ (rw w.if-v.false w.output-is)
    ]
    )
