-- `levels::ways::descend` meets its contract: each goal follows from a law of the levels gone through.
use mathlib.Core.Path.{sym, ap, ◌∙◌}
use borrow.Author.Rules.{rules}
use Rattle.sizes.specs.Hash.{hash_from}
use Rattle.levels.proofs.Laws.Ways.{down_start, down_room, down_more, down_end}
use Rattle.levels.proofs.ways.descend.Goals as goal
use Rattle.levels.proofs.ways.descend.Goals.{then-t-first, else-t-first}

ruleset laws = (rules, down_start, down_room, down_more, down_end)

pub along-t-requires : goal.along-t-requires
along-t-requires c =
    let i = c.loop-under.invariant.1 in (
      search laws,
      elim c.if-t-first.branch [ then-t-first w ↦ w.g-is ∙ w.hash-g-then-t-first.ensures.0 | else-t-first w ↦ w.g-is ∙ i ∙ ap (hash_from 5 5 _) (sym w.if-t-first.false) ],
      search laws,
      search laws,
      search laws,
    )

pub loop-under-preserved : goal.loop-under-preserved
loop-under-preserved c =
    let i = c.loop-under.invariant.1 in
    (search laws, elim c.if-t-first.branch [ then-t-first w ↦ w.g-is ∙ w.hash-g-then-t-first.ensures.0 ∙ ap (hash_from 5 5 _) (sym w.first-is) | else-t-first w ↦ w.g-is ∙ i ∙ ap (hash_from 5 5 _) (sym w.first-is) ])

pub returns : goal.returns
returns c = search laws
