use mathlib.Core.Path.{ap, ◌∙◌}
use Rattle.levels.specs.Ways.{Trek}
use Rattle.table.proofs.Laws.Checking.{ruled_shaped, ruled_gamma, ruled_blocks, ruled_base_most, ruled_orders}
use Rattle.readings.proofs.Laws.Shown.{descent_short, descent_4, descent_5, descent_11, descent_rest}
use Rattle.readings.proofs.descent.path_to.Goals as goal
use borrow.Author.Rules.{rules}

pub returns-then-table-lt-LENGTH : goal.returns-then-table-lt-LENGTH
returns-then-table-lt-LENGTH c = descent_short _ _ _ c.if-table-lt-LENGTH.true

pub returns-then-not-rule_of : goal.returns-then-not-rule_of
returns-then-not-rule_of c = descent_4 _ _ _ _ c.rule_of.ensures c.if-not-rule_of.true

pub returns-then-not-is_key : goal.returns-then-not-is_key
returns-then-not-is_key c = descent_5 _ _ _ _ c.rule_of.ensures c.if-not-rule_of.false _ c.is_key.ensures c.if-not-is_key.true

pub reckon-q-requires : goal.reckon-q-requires
reckon-q-requires c = search (rules, ruled_gamma, ruled_blocks, ruled_base_most, ruled_orders)

pub descend-t-requires : goal.descend-t-requires
descend-t-requires c = ruled_shaped _ _ c.rule_of.ensures c.if-not-rule_of.false _ (c.reckon-q.ensures ∙ c.read-h.ensures.0)

pub returns-then-path-t : goal.returns-then-path-t
returns-then-path-t c =
    descent_11 _ _ _ _ c.rule_of.ensures c.if-not-rule_of.false _ c.is_key.ensures c.if-not-is_key.false
    c.reckon-q.result (c.reckon-q.ensures ∙ c.read-h.ensures.0) _ _ _ c.descend-t.ensures.0 c.if-path-t.true

pub write_path-requires : goal.write_path-requires
write_path-requires c = (
  ruled_shaped _ _ c.rule_of.ensures c.if-not-rule_of.false _ (c.reckon-q.ensures ∙ c.read-h.ensures.0),
  record { output = _; number = ap (λ (x : Trek). x.trail.count) c.descend-t.ensures.0; is = ap (λ (x : Trek). x.path) c.descend-t.ensures.0 },
  c.if-path-t.false,
)

pub returns : goal.returns
returns c =
    descent_rest _ _ _ _ c.rule_of.ensures c.if-not-rule_of.false _ c.is_key.ensures c.if-not-is_key.false
    c.reckon-q.result (c.reckon-q.ensures ∙ c.read-h.ensures.0) _ _ _ c.descend-t.ensures.0 c.if-path-t.false _ c.write_path.ensures _ c.order_at.ensures
