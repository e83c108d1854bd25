-- What is left of a chunk and of a partition, from turn to turn: Laws/Tours.
use borrow.Author.Rules.{rules}
use borrow.Author.Tests.{eqb-true}
use mathlib.Core.Path.{sym, ◌∙◌}
use mathlib.Core.List.{[]}
use native.Mathlib.Omega.{arith}
use Rattle.placement.proofs.Laws.Loops.{search_below}
use Rattle.readings.specs.Visit.{scan}
use Rattle.readings.proofs.Laws.Tours.{left_ended, row_one, begun, nodding_orders, nodded_end, nodded_more, going_start, going_none, going_end, chunk_met, going_stop, going_more}
use Rattle.readings.proofs.visits.+visit_nodes_visit_partition.Goals as goal

pub visit_nodes-visit_orders-requires : goal.visit_nodes-visit_orders-requires
visit_nodes-visit_orders-requires t c =
    let p = c.requires in
    let b = begun _ _ _ _ _ (scan 0 c.args.v []) p.0 p.1 p.3 p.4.room p.4.nodes _ (rw c.row-long.ensures.0 at c.skipped-n.ensures.0) in
    rw (c.rows.ensures.0, c.row-long.ensures.0) (p.0, record { room = b.nodes.room; nodes = row_one _ _ _ _ c.if-level-eq1.true b.listed })

pub visit_nodes-returns-then-level-eq1 : goal.visit_nodes-returns-then-level-eq1
visit_nodes-returns-then-level-eq1 t c =
    let p = c.requires in
    let b = begun _ _ _ _ _ (scan _ c.args.v _) p.0 p.1 p.3 p.4.room p.4.nodes _ (rw c.row-long.ensures.0 at c.skipped-n.ensures.0) in
    nodding_orders _ _ _ _ _ _ _ _ _ b.nodes c.if-level-eq1.true _ (rw (c.rows.ensures.0, c.row-long.ensures.0) at c.visit_orders.ensures)

pub visit_nodes-loop-k-init : goal.visit_nodes-loop-k-init
visit_nodes-loop-k-init t c =
    let p = c.requires in
    (begun _ _ _ _ _ _ p.0 p.1 p.3 p.4.room p.4.nodes _ (rw c.row-long.ensures.0 at c.skipped-n.ensures.0)).nodes

pub visit_nodes-returns-then-has_ended : goal.visit_nodes-returns-then-has_ended
visit_nodes-returns-then-has_ended t c = left_ended _ _ _ _ c.loop-k.invariant.left (eqb-true _ _ (sym c.has_ended.ensures ∙ c.if-has_ended.true))

pub visit_nodes-loop-k-preserved : goal.visit_nodes-loop-k-preserved
visit_nodes-loop-k-preserved t c =
    nodded_more _ _ _ _ _ _ _ _ c.loop-k.invariant c.loop-k-test.true _
    (rw (c.visit_partition-w.ensures, c.node_of-o.ensures, c.rows-in-loop-k.ensures.0, c.row-long.ensures.0))

pub visit_nodes-returns : goal.visit_nodes-returns
visit_nodes-returns t c = nodded_end _ _ _ _ _ _ _ _ c.loop-k.invariant c.loop-k-test.false

pub visit_partition-loop-number-init : goal.visit_partition-loop-number-init
visit_partition-loop-number-init t c = going_start _ _ _ _ _ c.requires.1

pub visit_partition-returns-then-has_ended : goal.visit_partition-returns-then-has_ended
visit_partition-returns-then-has_ended t c = left_ended _ _ _ _ c.loop-number.invariant.left (eqb-true _ _ (sym c.has_ended.ensures ∙ c.if-has_ended.true))

pub visit_partition-returns-in_default : goal.visit_partition-returns-in_default
visit_partition-returns-in_default t c =
    let p = c.requires in
    going_none _ _ _ _ _ _ _ c.loop-number.invariant p.0 p.2 _ c.find.ensures c.in_default.is

pub visit_partition-offset-at-requires : goal.visit_partition-offset-at-requires
visit_partition-offset-at-requires t c = search (rules, search_below)

pub visit_partition-visit_nodes-w-requires : goal.visit_partition-visit_nodes-w-requires
visit_partition-visit_nodes-w-requires t c =
    let p = c.requires in
    let g = c.loop-number.invariant in
    let m = chunk_met _ _ _ _ _ _ _ g p.0 p.2 _ c.find.ensures _ c.in-Some.is _ _ c.offset-at.ensures.0 c.count_at-n.ensures.0 c.offset-at.ensures.1 in
    (omega (arith, c.decreases), (p.0, p.1, p.2, omega (arith, p.3, g.left.keeps.lo, g.left.keeps.hi), record { room = m.0; nodes = m.1 }))

pub visit_partition-returns-then-n-s : goal.visit_partition-returns-then-n-s
visit_partition-returns-then-n-s t c =
    let p = c.requires in
    going_stop _ _ _ _ _ _ _ c.loop-number.invariant p.0 p.2 _ c.find.ensures _ c.in-Some.is _ _ c.offset-at.ensures.0 c.count_at-n.ensures.0
    _ c.visit_nodes-w.ensures c.if-n-s.true

pub visit_partition-loop-number-preserved : goal.visit_partition-loop-number-preserved
visit_partition-loop-number-preserved t c =
    let p = c.requires in
    going_more _ _ _ _ _ _ _ c.loop-number.invariant p.0 p.2 _ c.find.ensures _ c.in-Some.is _ _ c.offset-at.ensures.0 c.count_at-n.ensures.0
    _ c.visit_nodes-w.ensures

pub visit_partition-returns : goal.visit_partition-returns
visit_partition-returns t c =
    let p = c.requires in
    going_end _ _ _ _ _ _ _ c.loop-number.invariant p.0 p.2 c.loop-number-test.false
