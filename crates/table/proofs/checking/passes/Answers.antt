-- `table::checking::passes` meets its contract: rule 1, the pass over the blocks and the walk.
use mathlib.Core.Path.{◌≡◌, sym, ◌∙◌, subst}
use native.Mathlib.Omega.{arith}
use Rattle.table.specs.Check.{ended, check_passes, Passed}
use Rattle.table.specs.Walk.{Walkable}
use Rattle.table.proofs.Laws.Checking.{passes_short, passes_unruled, ruled_walkable, ruled_held, passes_unclean, passes_counted, passes_walked, passed_some}
use Rattle.table.proofs.checking.passes.Goals as goal
use Rattle.table.proofs.checking.passes.Goals.{Else-not-rule_of, After-reckon-q, After-walk_partition-end}

-- what rule 1 says of the sizes
ruled : (c : Else-not-rule_of) → Walkable c.read-h.result.sizes c.args.table.now
ruled c = ruled_walkable _ _ c.rule_of.ensures c.if-not-rule_of.false _ c.read-h.ensures.0

reckoned : (c : After-reckon-q) → Walkable c.reckon-q.result.sizes c.args.table.now
reckoned c = ruled_walkable _ _ c.rule_of.ensures c.if-not-rule_of.false _ (c.reckon-q.ensures ∙ c.read-h.ensures.0)

pub returns-then-table-lt-LENGTH : goal.returns-then-table-lt-LENGTH
returns-then-table-lt-LENGTH c = passes_short _ c.if-table-lt-LENGTH.true

pub returns-then-not-rule_of : goal.returns-then-not-rule_of
returns-then-not-rule_of c = passes_unruled _ _ c.rule_of.ensures c.if-not-rule_of.true

pub reckon-q-requires : goal.reckon-q-requires
reckon-q-requires c =
    let w = ruled (goal.at.reckon-q-requires c).Else-not-rule_of in
    (omega (arith, w.base), w.base_most, w.orders_most, w.shaped.some)

pub sweep-requires : goal.sweep-requires
sweep-requires c = (reckoned (goal.at.sweep-requires c).After-reckon-q).shaped

pub returns-in_err-full : goal.returns-in_err-full
returns-in_err-full c =
    subst (Passed c.args.table.now) (sym c.from_residual.ensures)
    (passes_unclean _ _ c.rule_of.ensures c.if-not-rule_of.false _ (c.reckon-q.ensures ∙ c.read-h.ensures.0) _ c.sweep.ensures c.in_err-full.ensures.value)

pub overflow_add-x : goal.overflow_add-x
overflow_add-x c = ruled_held _ _ c.rule_of.ensures c.if-not-rule_of.false _ c.read-h.ensures.0 _ c.read-h.ensures.1

pub hash-requires : goal.hash-requires
hash-requires c = ((reckoned (goal.at.hash-requires c).After-reckon-q).shaped.seeds, omega arith)

pub walk_partition-end-requires : goal.walk_partition-end-requires
walk_partition-end-requires c = (reckoned (goal.at.walk_partition-end-requires c).After-reckon-q, omega (arith, c.reckon-q.result.top_least), omega arith, c.hash.ensures.0)

-- what the walk gives is what the check asks for
walked : (c : After-walk_partition-end) → check_passes c.args.table.now ≡ ended c.walk_partition-end.result
walked c =
    passes_walked _ _ c.rule_of.ensures c.if-not-rule_of.false _ (c.reckon-q.ensures ∙ c.read-h.ensures.0) _ c.sweep.ensures _ c.in_ok-full.ensures.value _ _ c.reckon-q.result.top_is
    c.read-h.ensures.1 _ c.walk_partition-end.ensures

pub returns : goal.returns
returns c =
    subst (Passed c.args.table.now) (sym c.then_some.ensures)
    (passed_some _ _ (passes_counted _ _ c.rule_of.ensures c.if-not-rule_of.false _ (c.reckon-q.ensures ∙ c.read-h.ensures.0) _ c.sweep.ensures _ c.in_ok-full.ensures.value) _
    (walked (goal.at.returns c).After-walk_partition-end ∙ sym c.finished.ensures))
