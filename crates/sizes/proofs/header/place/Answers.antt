-- The constant table is the list of places and widths.
use Rattle.sizes.proofs.Laws.HeaderLoops.{placed}
use Rattle.sizes.proofs.header.place.Goals as goal

pub returns : goal.returns
returns c = let p = placed c.args.k c.requires in (p.at_is, p.width_is, p.ends, p.widths)
