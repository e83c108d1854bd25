-- The walk meets its contract: two functions that call each other, the level falling.
use mathlib.Core.Path.{◌∙◌}
use Prim.Native.Nat.{ℕ}
use native.Mathlib.Omega.{arith}
use Rattle.placement.proofs.Laws.Loops.{search_below}
use Rattle.table.proofs.Laws.Turns.{noding_end, noding_gone, noding_wrong, noding_more, noding_ahead, opens_empty, keyed_made, keyed_none, Entering, chunking_start, chunking_end, chunking_none, chunking_wrong, chunk_found, entering_made, entering_gone, entering_stop, entering_more, higher_nodes, enters_some, enters_chunks, chunk_room}
use Rattle.table.proofs.walk.+partition_nodes.Goals as goal
use Rattle.table.proofs.walk.+partition_nodes.Goals.{nodes-then-behind-gt0+else-ends_at_once, nodes-else-behind-gt0, partition-Else-not-enters}

pub nodes-returns-then-not-comes_by : goal.nodes-returns-then-not-comes_by
nodes-returns-then-not-comes_by t c = noding_wrong _ _ _ _ _ _ _ _ _ _ _ _ _ c.loop-behind.invariant.0 _ c.comes_by.ensures c.loop-behind-test.true c.if-not-comes_by.true

pub nodes-returns-then-ends_at_once : goal.nodes-returns-then-ends_at_once
nodes-returns-then-ends_at_once t c =
    let p = c.requires in
    noding_ahead _ _ _ _ _ _ _ _ _ _ _ _ _ c.loop-behind.invariant.0 _ c.comes_by.ensures (omega (arith, c.if-behind-gt0.true)) _ c.row-w.ensures.0 c.if-not-comes_by.false _ c.be4-key.ensures
    (opens_empty _ _ _ _ p.0.shaped (omega (arith, p.1)) _ (rw c.label-want.ensures at c.ends_at_once.ensures) c.if-ends_at_once.true)

pub nodes-returns-in_err-seen : goal.nodes-returns-in_err-seen
nodes-returns-in_err-seen t c =
    c.from_residual.ensures ∙ noding_gone _ _ _ _ _ _ _ _ _ _ _ _ _ c.loop-behind.invariant.0 c.loop-behind-test.true _ c.be4-in-loop-behind.ensures c.in_err-seen.ensures

pub nodes-loop-behind-preserved : goal.nodes-loop-behind-preserved
nodes-loop-behind-preserved t c = (
  noding_more _ _ _ _ _ _ _ _ _ _ _ _ _ c.loop-behind.invariant.0 _ c.comes_by.ensures c.loop-behind-test.true _ c.row-w.ensures.0 c.if-not-comes_by.false _ c.be4-in-loop-behind.ensures
      _ c.in_ok-seen.ensures,
  elim c.if-behind-gt0.branch [
    | nodes-then-behind-gt0+else-ends_at_once w ↦ keyed_made _ _ _ _ _ _ w.be4-key.ensures (w.next-is ∙ w.hash-next.ensures.0)
    | nodes-else-behind-gt0 w ↦ keyed_none _ _ _ _ _ (omega (arith, w.if-behind-gt0.false))
  ],
)

pub nodes-returns : goal.nodes-returns
nodes-returns t c = noding_end _ _ _ _ _ _ _ _ _ _ _ _ _ c.loop-behind.invariant.0 c.loop-behind-test.false

-- a chunk that may come next
entering : (t : ℕ) (c : partition-Else-not-enters t)
    → Entering c.args.q.sizes c.args.table.now c.args.level c.args.first c.args.x c.loop-number.number c.loop-number.seen c.offset-at.result c.from-n.result
entering t c =
    entering_made _ _ _ _ _ _ _ c.loop-number.invariant c.loop-number-test.true _ (chunk_found _ _ _ _ _ _ (rw c.label-want.ensures at c.find_over.ensures)) _ c.in-Some.is _ _ c.offset-at.ensures.0 c.from-n.ensures _
    c.enters.ensures c.if-not-enters.false

pub partition-loop-number-init : goal.partition-loop-number-init
partition-loop-number-init t c = chunking_start _ _ _ _ _ c.requires.1

pub partition-returns-in_default : goal.partition-returns-in_default
partition-returns-in_default t c =
    chunking_none _ _ _ _ _ _ _ c.loop-number.invariant c.loop-number-test.true _ (chunk_found _ _ _ _ _ _ (rw c.label-want.ensures at c.find_over.ensures)) _ c.in_default.is c.ended.ensures

pub partition-offset-at-requires : goal.partition-offset-at-requires
partition-offset-at-requires t c =
    let p = c.requires.0.shaped in
    (search_below _ _ _ _ _ c.in-Some.is c.find_over.ensures p, p.most, p.few)

pub partition-returns-then-not-enters : goal.partition-returns-then-not-enters
partition-returns-then-not-enters t c =
    chunking_wrong _ _ _ _ _ _ _ c.loop-number.invariant c.loop-number-test.true _ (chunk_found _ _ _ _ _ _ (rw c.label-want.ensures at c.find_over.ensures)) _ c.in-Some.is _ _ c.offset-at.ensures.0 c.from-n.ensures _
    c.enters.ensures c.if-not-enters.true

pub partition-entered-requires : goal.partition-entered-requires
partition-entered-requires t c = enters_chunks _ _ _ _ c.enters.ensures c.if-not-enters.false

pub partition-nodes-requires : goal.partition-nodes-requires
partition-nodes-requires t c =
    let p = c.requires in
    let e = c.enters.ensures in
    let h = c.if-not-enters.false in (
      omega (arith, c.decreases),
      (p.0, omega (arith, c.if-level-eq1.false, p.1), p.2, enters_some _ _ _ _ e h, chunk_room _ _ p.0 _ _ _ e h _ c.offset-at.ensures.1),
    )

pub partition-returns-in_err-seen : goal.partition-returns-in_err-seen
partition-returns-in_err-seen t c =
    c.from_residual.ensures
    ∙ entering_gone _ _ _ _ _ _ _ _ _ (entering t (goal.at.partition-returns-in_err-seen t c).Else-not-enters)
    (higher_nodes _ _ _ _ _ _ _ _ _ _ c.in_err-seen.ensures c.entered.ensures)

pub partition-returns-then-n-q : goal.partition-returns-then-n-q
partition-returns-then-n-q t c =
    entering_stop _ _ _ _ _ _ _ _ _ (entering t (goal.at.partition-returns-then-n-q t c).Else-not-enters)
    _ (higher_nodes _ _ _ _ _ _ _ _ _ _ c.in_ok-seen.ensures c.entered.ensures) c.if-n-q.true

pub partition-loop-number-preserved : goal.partition-loop-number-preserved
partition-loop-number-preserved t c =
    entering_more _ _ _ _ _ _ _ _ _ (entering t (goal.at.partition-loop-number-preserved t c).Else-not-enters)
    _ (higher_nodes _ _ _ _ _ _ _ _ _ _ c.in_ok-seen.ensures c.entered.ensures) c.if-n-q.false

pub partition-returns : goal.partition-returns
partition-returns t c = chunking_end _ _ _ _ _ _ _ c.loop-number.invariant c.loop-number-test.false
