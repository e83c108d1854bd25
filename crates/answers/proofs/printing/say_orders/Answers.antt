use Rattle.std.proofs.Common.{◌∙◌, arith, length-append}
use Rattle.sizes.specs.Numbers.{rows_in}
use Rattle.answers.proofs.Laws.Orders.{rows_start, rows_next, rows_said, rows_end}
use Rattle.answers.proofs.Laws.Output.{said_none}
use Rattle.answers.proofs.printing.say_orders.Goals as goal

pub loop-row-init : goal.loop-row-init
unfolding rows_in
loop-row-init c = rw c.into_iter-row-iterator.ensures.into_iter_gives (record {
  size = c.chunks_exact-row-items.ensures.size;
  rows = rows_start _ _ _ _ _ c.requires.2 c.rows.ensures.0 c.chunks_exact-row-items.ensures.rest;
  said = said_none _;
})

pub loop-row-preserved : goal.loop-row-preserved
loop-row-preserved c =
    let i = c.loop-row.invariant in
    let s = c.in-Some.ensures.steps in
    let r = rw s.1.0 at i.rows in
    simp length-append (record {
      size = s.0 ∙ i.size;
      rows = rows_next _ _ _ _ _ _ r (s.1.1 ∙ i.size);
      said = rows_said _ _ _ _ _ _ r (s.1.1 ∙ i.size) c.requires.0 _ _ _ i.said c.say_order.ensures;
    })

pub returns : goal.returns
returns c =
    let i = c.loop-row.invariant in
    rw (rows_end _ _ _ _ _ i.rows (omega (arith, c.in-None.ensures.steps.1.0, i.size))) at i.said
