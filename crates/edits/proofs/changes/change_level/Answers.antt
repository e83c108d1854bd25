-- A level of an enter or a cancel, at the key's own level or below it.
use mathlib.Core.Path.{◌≡◌, ap, ◌∙◌}
use Rattle.edits.specs.Change.{key_of}
use Rattle.edits.proofs.Laws.EnterTurns.{enter_turn_in, enter_turn_below}
use Rattle.edits.proofs.Laws.CancelTurns.{cancel_turn_in, cancel_turn_below}
use Rattle.edits.proofs.changes.change_level.Goals as goal

pub returns-then-level-l : goal.returns-then-level-l
returns-then-level-l c =
    let e : c.key-y.result ≡ c.in-Enter.o.key = c.key-y.ensures ∙ ap key_of c.in-Enter.is in
    rw c.in-Enter.is (enter_turn_in _ _ _ _ _ _ _ _ (rw e at c.scan-x.ensures.0) c.if-level-l.true c.enter_in.ensures)

pub returns-else-level-l : goal.returns-else-level-l
returns-else-level-l c =
    let e : c.key-y.result ≡ c.in-Enter.o.key = c.key-y.ensures ∙ ap key_of c.in-Enter.is in
    rw c.in-Enter.is (enter_turn_below _ _ _ _ _ _ _ _ (rw e at c.scan-x.ensures.0) c.if-level-l.false c.enter_below.ensures)

pub returns-then-level-l-2 : goal.returns-then-level-l-2
returns-then-level-l-2 c =
    let e : c.key-y.result ≡ c.in-Cancel.field-0 = c.key-y.ensures ∙ ap key_of c.in-Cancel.is in
    rw c.in-Cancel.is (cancel_turn_in _ _ _ _ _ _ _ _ (rw e at c.scan-x.ensures.0) c.if-level-l-2.true c.cancel_in.ensures)

pub returns-else-level-l-2 : goal.returns-else-level-l-2
returns-else-level-l-2 c =
    let e : c.key-y.result ≡ c.in-Cancel.field-0 = c.key-y.ensures ∙ ap key_of c.in-Cancel.is in
    rw c.in-Cancel.is (cancel_turn_below _ _ _ _ _ _ _ _ _ (rw e at c.scan-x.ensures.0) c.if-level-l-2.false (rw e at c.scan-own.ensures.0) (rw e at c.cancel_below.ensures))
