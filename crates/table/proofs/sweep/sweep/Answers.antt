-- `table::sweep::sweep` meets its contract: one loop over the blocks.
use borrow.Author.Rules.{rules}
use mathlib.Core.Path.{refl}
use Rattle.table.proofs.Laws.Passes.{words_long, words_used, blocked_made, sweeping_start, sweeping_end, sweeping_stop, sweeping_more}
use Rattle.table.proofs.sweep.sweep.Goals as goal

ruleset laws = (rules, words_long, words_used)

pub loop-i-init : goal.loop-i-init
loop-i-init c = sweeping_start _ _ _ _ _ c.row-w.ensures.0 c.block_length-long.ensures.0 refl

pub zeros-requires : goal.zeros-requires
zeros-requires c = search laws

pub returns-then-not-zeros : goal.returns-then-not-zeros
returns-then-not-zeros c =
    sweeping_stop _ _ _ _ _ _ _ c.loop-i.invariant c.loop-i-test.true _ _ _
    (blocked_made _ _ _ _ _ _ _ _ _ c.block_length-long.ensures.0 c.offset-at.ensures.0 c.from-level.ensures c.from-n.ensures c.used.ensures) _ c.zeros.ensures c.if-not-zeros.true

pub loop-i-preserved : goal.loop-i-preserved
loop-i-preserved c =
    sweeping_more _ _ _ _ _ _ _ c.loop-i.invariant c.loop-i-test.true _ _ _
    (blocked_made _ _ _ _ _ _ _ _ _ c.block_length-long.ensures.0 c.offset-at.ensures.0 c.from-level.ensures c.from-n.ensures c.used.ensures) _ c.zeros.ensures c.if-not-zeros.false
    _ c.more-full.ensures.0 c.more-full.ensures.1

pub returns : goal.returns
returns c = sweeping_end _ _ _ _ _ _ _ c.loop-i.invariant c.loop-i-test.false
