-- What the call says of the front of the buffer, said of the table.
use Rattle.std.proofs.Common.{◌∙◌}
use Rattle.answers.proofs.Laws.Asked.{make_asked, long_or_none}
use Rattle.answers.proofs.Laws.Steps.{make_marked, make_done, make_refused}
use Rattle.answers.proofs.calls.Table.make.Goals as goal

pub returns-then-long-gt65536 : goal.returns-then-long-gt65536
returns-then-long-gt65536 c = make_marked _ _ (c.unwrap_or-long.ensures ∙ long_or_none _ _ c.wanted.ensures) _ c.if-long-gt65536.true

pub returns-then-is_ok : goal.returns-then-is_ok
returns-then-is_ok c =
    rw (← c.self.view_is)
    (make_done _ _ (c.unwrap_or-long.ensures ∙ long_or_none _ _ c.wanted.ensures) _ c.self.inside.long _ _ c.self.told c.if-long-gt65536.false c.make-made.auto.table
    (make_asked _ _ _ _ _ c.write_seed.ensures c.make-made.ensures.0) c.if-is_ok.ensures.value)

pub returns-else-is_ok : goal.returns-else-is_ok
returns-else-is_ok c =
    rw (← c.self.view_is)
    (make_refused _ _ (c.unwrap_or-long.ensures ∙ long_or_none _ _ c.wanted.ensures) _ c.self.inside.long _ _ c.self.told c.if-long-gt65536.false c.make-made.auto.table
    (make_asked _ _ _ _ _ c.write_seed.ensures c.make-made.ensures.0) c.if-is_ok.ensures.value)
