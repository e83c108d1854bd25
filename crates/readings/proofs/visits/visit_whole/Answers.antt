-- The orders come by together: their rows are the bytes of their nodes, if rows are written.
use mathlib.Core.Path.{refl}
use borrow.Author.Tests.{both_ways, not-true, not-false}
use native.Mathlib.Omega.{arith}
use Rattle.table.proofs.Laws.Decided.{bytes_all}
use Rattle.readings.proofs.Laws.Wholes.{whole_found, whole_counts, whole_writes}
use Rattle.readings.proofs.visits.visit_whole.Goals as goal

pub returns-then-not-v : goal.returns-then-not-v
returns-then-not-v c =
    let p = c.requires in
    rw c.with-w.ensures
    (whole_counts _ _ _ _ _ _ p.0 (whole_found _ _ _ _ _ _ p.1) p.2.room p.2.nodes _ (rw (c.rows.ensures.0, c.row-long.ensures.0) at c.node_of-last.ensures)
    (λ e. absurd (both_ways _ (not-true _ c.if-not-v.true) e)) _ refl)

pub returns : goal.returns
returns c =
    let p = c.requires in
    let long = c.row-long.ensures.0 in
    rw c.with-w.ensures
    (whole_writes _ _ _ _ _ _ p.0 p.1 p.2.room p.2.nodes _ (rw (c.rows.ensures.0, long) at c.node_of-last.ensures) (not-false _ c.if-not-v.false)
    (bytes_all c.args.table.now (λ i. omega (arith, c.type_inv.table i))) _ (rw (c.rows-2.ensures.0, c.rows-3.ensures.0, long) at c.bring.ensures))
