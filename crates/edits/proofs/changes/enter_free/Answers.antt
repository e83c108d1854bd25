-- The blocks that a new key asks for are counted, and then it comes in.
use Rattle.std.proofs.Common.{arith}
use Rattle.edits.proofs.Laws.EditAnswers.{image_asked, key_some}
use Rattle.edits.proofs.Laws.EnterAnswers.{enter_no_8, enter_done, enter_sum}
use Rattle.edits.proofs.changes.enter_free.Goals as goal

pub level_of-l-requires : goal.level_of-l-requires
level_of-l-requires c = let a = image_asked _ c.requires.0.image _ c.requires.0.sizes_are in (a.seeds, a.gamma_some, c.args.q.top_is)

pub lead-first-requires : goal.lead-first-requires
lead-first-requires c = ((image_asked _ c.requires.0.image _ c.requires.0.sizes_are).shaped, key_some _ c.requires.0.key)

pub growth-more-requires : goal.growth-more-requires
growth-more-requires c = let a = image_asked _ c.requires.0.image _ c.requires.0.sizes_are in (a.shaped, a.nodes_least, omega arith)

pub overflow_add-too_few : goal.overflow_add-too_few
overflow_add-too_few c =
    enter_sum _ _ _ _ _ _ c.requires.3 c.requires.0.image c.requires.0.sizes_are c.growth-more.ensures.1 c.level_of-l.ensures.1 c.args.q.top_most

pub returns-then-too_few : goal.returns-then-too_few
returns-then-too_few c =
    enter_no_8 _ _ _ c.requires.0 c.requires.1 _ c.level_of-l.ensures.0 _ _ _ c.requires.3 c.lead-first.ensures c.growth-more.ensures.0 (omega arith)

pub change_levels-requires : goal.change_levels-requires
change_levels-requires c = let a = image_asked _ c.requires.0.image _ c.requires.0.sizes_are in (a.shaped, a.nodes_least, omega arith)

pub put2-requires : goal.put2-requires
put2-requires c = let a = image_asked _ c.requires.0.image _ c.requires.0.sizes_are in omega (arith, a.long, c.change_levels.auto.table)

pub returns : goal.returns
returns c =
    enter_done _ _ _ c.requires.0 c.requires.1 _ c.level_of-l.ensures.0 _ _ _ c.requires.3 c.lead-first.ensures c.growth-more.ensures.0 _ _ _ (omega arith)
    c.change_levels.ensures c.requires.2 c.put2.ensures
