-- The numbers of the seed are those that a header's seed would have.
use Rattle.std.proofs.Common.{◌≡◌, rules}
use Rattle.sizes.specs.Header.{seed_in}
use Rattle.skiplist.specs.Questions.{sizes}
use Rattle.table.proofs.Laws.Seeds.{seed_given}
use Rattle.table.proofs.making.sizes_of.Goals as goal

pub returns : goal.returns
unfolding sizes
returns c = let e : c.from_fn.result ≡ seed_in 10 c.args.seed.now = seed_given 10 _ _ c.from_fn.ensures.items.long (search rules) in rw e
