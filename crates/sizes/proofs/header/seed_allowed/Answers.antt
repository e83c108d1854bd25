-- Each number is below p exactly if the seed is good.
use Rattle.std.proofs.Common.{rules}
use Rattle.sizes.proofs.Laws.HeaderLoops.{seeds_each}
use Rattle.sizes.proofs.header.seed_allowed.Goals as goal

pub returns : goal.returns
returns c = seeds_each c.all.result c.args.s.seed (search rules)
