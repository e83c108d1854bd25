-- `levels::growth::grown` meets its contract: in each case the chunks then are no fewer, and the difference is what a key adds.
use Rattle.levels.proofs.Laws.Growing.{same_less, grown_same, under_less, grown_under}
use Rattle.levels.proofs.growth.grown.Goals as goal
use Rattle.levels.proofs.growth.grown.Goals.{then-level-l, else-level-l}

pub overflow_sub-result : goal.overflow_sub-result
overflow_sub-result c =
    let now = c.chunks_of-2.ensures.0 in
    elim c.if-level-l.branch [
      | then-level-l w ↦ rw w.then-is (same_less _ c.requires.0 c.args.level c.args.l c.args.x _ _ w.chunks_of-then.ensures.0 now)
      | else-level-l w ↦ rw w.then-is (under_less _ c.requires.0 c.args.level c.args.l c.args.x _ _ _ w.chunks_of.ensures.0 w.chunks_of-else-level-l.ensures.0 now c.requires.1)
    ]

pub returns : goal.returns
returns c =
    let now = c.chunks_of-2.ensures.0 in
    elim c.if-level-l.branch [
      | then-level-l w ↦ rw w.then-is (grown_same _ c.requires.0 _ _ _ _ _ w.chunks_of-then.ensures.0 now w.if-level-l.true)
      | else-level-l w ↦ rw w.then-is (grown_under _ c.requires.0 _ _ _ _ _ _ w.chunks_of.ensures.0 w.chunks_of-else-level-l.ensures.0 now c.requires.1 w.if-level-l.false)
    ]
