-- `table::walk::walk_lowest` meets its contract: a loop over the blocks of a partition, and one over the nodes of a block.
use borrow.Author.Rules.{rules}
use mathlib.Core.Path.{◌≡◌, refl}
use mathlib.Core.Bool.{true}
use native.Mathlib.Omega.{arith}
use Rattle.sizes.proofs.Laws.Hashes.{hash_below}
use Rattle.placement.proofs.Laws.Behind.{starts_home}
use Rattle.table.specs.Walk.{chunk_spot}
use Rattle.table.proofs.Laws.Turns.{Entering, chunking_start, chunking_end, chunking_none, starting_next, starting_found, entering_made, chunk_below, enters_chunks, chunk_room}
use Rattle.table.proofs.Laws.Lowest.{lowering_start, lowering_more, comes_fits, lowest_enters, lowest_few, lowest_refused, lowest_wrong, lowest_stop, lowest_more}
use Rattle.table.proofs.walk.walk_lowest.Goals as goal
use Rattle.table.proofs.walk.walk_lowest.Goals.{After-find_from, Else-not-enters_lowest}

ruleset laws = (rules, hash_below, chunking_start, starts_home, comes_fits)

-- the chunk that was found is the partition's next one
found : (c : After-find_from) → c.find_from.result ≡ chunk_spot c.args.q.sizes c.args.table.now 1 c.args.first c.loop-number.number
found c = starting_found _ _ _ _ _ _ c.loop-number.invariant.1 (rw c.label-want.ensures at c.find_from.ensures)

-- .. and may come next
entering : (c : Else-not-enters_lowest) → Entering c.args.q.sizes c.args.table.now 1 c.args.first c.args.x c.loop-number.number c.loop-number.seen c.offset-at.result c.from-n.result
entering c =
    entering_made _ _ _ _ _ _ _ c.loop-number.invariant.0 c.loop-number-test.true _ (starting_found _ _ _ _ _ _ c.loop-number.invariant.1 (rw c.label-want.ensures at c.find_from.ensures)) _ c.in-Some.is _ _
    c.offset-at.ensures.0 c.from-n.ensures true (lowest_enters _ _ _ _ c.enters_lowest.ensures c.if-not-enters_lowest.false) refl

pub home_over-start-requires : goal.home_over-start-requires
home_over-start-requires c = rw c.label-front.ensures (search laws)

pub loop-number-init : goal.loop-number-init
loop-number-init c = (search laws, starts_home _ _ _ _ (rw c.label-front.ensures at c.home_over-start.ensures.0) c.home_over-start.ensures.1)

pub returns-in_default : goal.returns-in_default
returns-in_default c =
    chunking_none _ _ _ _ _ _ _ c.loop-number.invariant.0 c.loop-number-test.true _ (found (goal.at.returns-in_default c).After-find_from) _ c.in_default.is c.ended.ensures

pub offset-at-requires : goal.offset-at-requires
offset-at-requires c =
    let p = c.requires.0.shaped in
    (chunk_below _ _ _ _ _ _ _ c.in-Some.is (found (goal.at.offset-at-requires c).After-find_from) p, p.most, p.few)

pub returns-then-not-enters_lowest : goal.returns-then-not-enters_lowest
returns-then-not-enters_lowest c =
    lowest_refused _ _ _ _ _ _ c.loop-number.invariant.0 c.loop-number-test.true _ (found (goal.at.returns-then-not-enters_lowest c).After-find_from) _ c.in-Some.is _ _ c.offset-at.ensures.0
    c.from-n.ensures _ c.enters_lowest.ensures c.if-not-enters_lowest.true

pub loop-k-init : goal.loop-k-init
loop-k-init c =
    let e = c.enters_lowest.ensures in
    let h = c.if-not-enters_lowest.false in
    lowering_start _ _ _ _ _ _ _ (lowest_few _ _ _ _ e h) (chunk_room _ _ c.requires.0 _ _ _ (lowest_enters _ _ _ _ e h) refl _ c.offset-at.ensures.1)

pub returns-then-not-comes : goal.returns-then-not-comes
returns-then-not-comes c =
    lowest_wrong _ _ _ _ _ _ _ _ (entering (goal.at.returns-then-not-comes c).Else-not-enters_lowest) _ _ _ _ c.loop-k.invariant c.loop-k-test.true _ c.comes.ensures c.if-not-comes.true

pub overflow_add-low : goal.overflow_add-low
overflow_add-low c = search laws

pub loop-k-preserved : goal.loop-k-preserved
loop-k-preserved c =
    lowering_more _ _ _ _ _ _ _ _ _ _ _ c.loop-k.invariant c.loop-k-test.true _ c.comes.ensures _ c.row-w.ensures.0 c.if-not-comes.false _ c.be4-low.ensures

pub passed-seen-requires : goal.passed-seen-requires
passed-seen-requires c =
    let e = c.enters_lowest.ensures in
    let h = c.if-not-enters_lowest.false in
    (lowest_few _ _ _ _ e h, enters_chunks _ _ _ _ (lowest_enters _ _ _ _ e h) refl)

pub returns-then-n-q : goal.returns-then-n-q
returns-then-n-q c =
    lowest_stop _ _ _ _ _ _ _ _ (entering (goal.at.returns-then-n-q c).Else-not-enters_lowest) _ _ _ _ c.loop-k.invariant _ c.passed-seen.ensures c.loop-k-test.false c.loop-k.auto._k-end
    c.if-n-q.true

pub behind-start-requires : goal.behind-start-requires
behind-start-requires c =
    let p = c.requires in
    let s = p.0.shaped in
    let i = chunk_below _ _ _ _ _ _ _ c.in-Some.is (found (goal.at.behind-start-requires c).After-find_from) s in
    rw c.label-next.ensures (i, p.1, search laws, omega arith, omega (arith, c.loop-number-test.true, s.most))

pub loop-number-preserved : goal.loop-number-preserved
loop-number-preserved c = (
  lowest_more _ _ _ _ _ _ _ _ (entering (goal.at.loop-number-preserved c).Else-not-enters_lowest) _ _ _ _ c.loop-k.invariant _ c.passed-seen.ensures c.loop-k-test.false c.loop-k.auto._k-end
      c.if-n-q.false,
  starting_next _ _ _ _ _ _ (found (goal.at.loop-number-preserved c).After-find_from) c.in-Some.is (omega (arith, c.loop-number-test.true, c.requires.0.shaped.most)) _ (rw c.label-next.ensures at c.behind-start.ensures.0)
      c.behind-start.ensures.1,
)

pub returns-after-loop-number : goal.returns-after-loop-number
returns-after-loop-number c = chunking_end _ _ _ _ _ _ _ c.loop-number.invariant.0 c.loop-number-test.false
