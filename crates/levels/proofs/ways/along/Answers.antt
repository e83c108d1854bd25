-- `levels::ways::along` meets its contract: each goal follows from a law of the chunks gone through.
use borrow.Author.Rules.{rules}
use Rattle.sizes.proofs.Laws.Hashes.{hash_below}
use Rattle.levels.proofs.Laws.Ways.{along_start, along_end, along_none, along_below, along_behind, along_short, along_last, along_more, trod_long}
use Rattle.levels.proofs.ways.along.Goals as goal

ruleset laws = (rules, hash_below, along_start, along_below, trod_long)

pub home_over-start-requires : goal.home_over-start-requires
home_over-start-requires c = search laws

pub loop-number-init : goal.loop-number-init
loop-number-init c = search laws

pub returns-in_default : goal.returns-in_default
returns-in_default c =
    along_none _ _ _ _ _ _ c.requires.0 _ _ _ _ c.loop-number.invariant c.loop-number-test.true _ c.find_past.ensures c.in_default.is

pub reached-n-requires : goal.reached-n-requires
reached-n-requires c = search laws

pub returns-then-n-eq0 : goal.returns-then-n-eq0
returns-then-n-eq0 c =
    along_short _ _ _ _ _ _ c.requires.0 _ _ _ _ c.loop-number.invariant c.loop-number-test.true _ c.find_past.ensures _ c.in-Some.is _
    c.reached-n.ensures.0 c.if-n-eq0.true

pub tread-w-requires : goal.tread-w-requires
tread-w-requires c = search laws

pub returns-then-ends_here : goal.returns-then-ends_here
returns-then-ends_here c =
    along_last _ _ _ _ _ _ c.requires.0 _ _ _ _ c.loop-number.invariant c.loop-number-test.true _ c.find_past.ensures _ c.in-Some.is _
    c.reached-n.ensures.0 c.if-n-eq0.false _ _ c.tread-w.ensures.0 c.tread-w.ensures.1 c.tread-w.ensures.2 c.if-ends_here.true

pub behind-start-requires : goal.behind-start-requires
behind-start-requires c =
    along_behind _ _ _ _ c.args.t _ c.requires.0 _ _ _ _ c.loop-number.invariant c.loop-number-test.true _ c.find_past.ensures _ c.in-Some.is _ c.requires.1 (search laws)

pub loop-number-preserved : goal.loop-number-preserved
loop-number-preserved c =
    along_more _ _ _ _ c.args.t _ c.requires.0 _ _ _ _ c.loop-number.invariant c.loop-number-test.true _ c.find_past.ensures _ c.in-Some.is _
    c.reached-n.ensures.0 c.if-n-eq0.false _ _ c.tread-w.ensures.0 c.tread-w.ensures.1 c.tread-w.ensures.2 c.if-ends_here.false
    c.requires.2 (search laws) _ c.behind-start.ensures.0 c.behind-start.ensures.1

pub returns : goal.returns
returns c =
    along_end _ _ _ _ _ _ c.requires.0 _ _ _ _ c.loop-number.invariant c.loop-number-test.false
