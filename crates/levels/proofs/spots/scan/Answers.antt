-- `levels::spots::scan` meets its contract: each goal follows from a law of the chunks that came by.
use Rattle.std.proofs.Common.{◌≡◌, sym, subst, rules}
use Rattle.placement.proofs.Laws.Loops.{search_below}
use Rattle.levels.specs.declared.Spot.{Spot}
use Rattle.levels.proofs.Laws.Scanning.{start, Scanning, scanning_start, scanning_end, scanning_none, scanning_wide, scanning_more, scanned}
use Rattle.levels.proofs.Laws.Ways.{reached_room}
use Rattle.levels.proofs.spots.scan.Goals as goal

ruleset laws = (rules, search_below, reached_room, scanning_end, scanning_none, scanning_wide, scanned)

pub loop-number-init : goal.loop-number-init
loop-number-init c =
    let d = c.default-spot.ensures in
    let e : start ≡ c.default-spot.result = λ i. record { below = sym d.0 i; last = sym d.1.0 i; size = sym d.1.1 i } in
    subst (λ (z : Spot). Scanning c.args.q.sizes c.args.table.now c.args.level c.args.first c.args.y 0 z) e (scanning_start _ _ _ _ _)

pub returns-in_default : goal.returns-in_default
returns-in_default c = search laws

pub count_at-n-requires : goal.count_at-n-requires
count_at-n-requires c = search laws

pub returns-then-s-n : goal.returns-then-s-n
returns-then-s-n c = search laws

pub offset-at-requires : goal.offset-at-requires
offset-at-requires c = search laws

pub pass_nodes-spot-requires : goal.pass_nodes-spot-requires
pass_nodes-spot-requires c = search (laws, c.requires.0)

pub returns-then-n-s : goal.returns-then-n-s
returns-then-n-s c =
    let q =
    scanning_more _ _ _ _ _ _ _ c.loop-number.invariant _ c.chunk.ensures _ c.in-Some.is _ c.count_at-n.ensures.0 c.loop-number-test.true
    c.if-s-n.false c.requires.0.few _ _ _ c.offset-at.ensures.0 c.row.ensures.0 c.pass_nodes-spot.ensures.0 c.pass_nodes-spot.ensures.1 c.pass_nodes-spot.ensures.2 in
    scanned _ _ _ _ _ _ _ q.next c.requires.0.most (q.stop c.if-n-s.true)

pub loop-number-preserved : goal.loop-number-preserved
loop-number-preserved c =
    (scanning_more _ _ _ _ _ _ _ c.loop-number.invariant _ c.chunk.ensures _ c.in-Some.is _ c.count_at-n.ensures.0 c.loop-number-test.true
    c.if-s-n.false c.requires.0.few _ _ _ c.offset-at.ensures.0 c.row.ensures.0 c.pass_nodes-spot.ensures.0 c.pass_nodes-spot.ensures.1 c.pass_nodes-spot.ensures.2).next

pub returns : goal.returns
returns c = search laws
