-- `levels::growth::lead` meets its contract: the way to the key before comes to the partition.
use Rattle.levels.proofs.Laws.Arriving.{lead_right}
use Rattle.levels.proofs.growth.lead.Goals as goal

pub returns : goal.returns
returns c = lead_right _ _ _ _ _ c.args.q.top_is c.requires.1 _ c.way_down.ensures.0
