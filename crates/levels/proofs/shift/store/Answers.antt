-- `levels::shift::store` meets its contract: each goal follows from a law of a chunk set. The goal where no node comes in has the words of its condition in its name,
-- so it is left to the search: a wrong program changes the condition.
use Rattle.std.proofs.Common.{rules}
use Rattle.placement.proofs.Laws.Loops.{search_below, shaped_same}
use Rattle.levels.proofs.Laws.Flushes.{put_room}
use Rattle.levels.proofs.Laws.Stores.{store_absent, store_over}
use Rattle.levels.proofs.shift.store.Goals as goal

ruleset laws = (rules, put_room, store_absent, search_below, shaped_same, store_over)

pub returns-in_default : goal.returns-in_default
returns-in_default c = search laws

pub pull_back-requires : goal.pull_back-requires
pull_back-requires c = search laws

pub write_block-requires : goal.write_block-requires
write_block-requires c = search laws

pub returns : goal.returns
returns c = search laws
