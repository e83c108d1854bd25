-- A held key goes out: the header has one order fewer.
use Rattle.std.proofs.Common.{arith}
use Rattle.edits.proofs.Laws.EditAnswers.{image_asked, key_some, held_told}
use Rattle.edits.proofs.Laws.CancelAnswers.{held_some, cancel_done}
use Rattle.edits.proofs.changes.cancel_held.Goals as goal

pub field-held-requires : goal.field-held-requires
field-held-requires c = ((image_asked _ c.requires.0 _ c.requires.3).long, omega arith)

pub level_of-l-requires : goal.level_of-l-requires
level_of-l-requires c = let a = image_asked _ c.requires.0 _ c.requires.3 in (a.seeds, a.gamma_some, c.args.q.top_is)

pub lead-first-requires : goal.lead-first-requires
lead-first-requires c = ((image_asked _ c.requires.0 _ c.requires.3).shaped, key_some _ c.requires.1)

pub change_levels-requires : goal.change_levels-requires
change_levels-requires c = let a = image_asked _ c.requires.0 _ c.requires.3 in (a.shaped, a.nodes_least, omega arith)

pub overflow_sub-held : goal.overflow_sub-held
overflow_sub-held c = held_some _ _ c.requires.0 c.requires.2 _ (held_told _ _ c.field-held.ensures)

pub put2-requires : goal.put2-requires
put2-requires c = let a = image_asked _ c.requires.0 _ c.requires.3 in omega (arith, a.long, c.change_levels.auto.table)

pub returns : goal.returns
returns c =
    cancel_done _ _ c.requires.0 c.requires.2 _ _ _ _ _ _ c.requires.1 c.requires.3 c.level_of-l.ensures.0 c.lead-first.ensures c.change_levels.ensures
    (held_told _ _ c.field-held.ensures) c.put2.ensures
