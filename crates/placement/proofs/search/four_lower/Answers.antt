-- The chain of `four_lower` asks of each of the four.
use Rattle.std.proofs.Common.{◌+◌, ◌∙◌, refl, rules, tests}
use Rattle.std.proofs.lemmas.Iterator.{YieldsList-from_range}
use Rattle.std.proofs.lemmas.Iterator.Search.{all_from_yields_List}
use Rattle.sizes.specs.Header.{block_long}
use Rattle.placement.specs.Place.{label_in, is_lower}
use Rattle.placement.proofs.Laws.Loops.{four_listed}
use Rattle.placement.proofs.search.four_lower.Goals as goal

pub returns : goal.returns
returns c =
    all_from_yields_List (λ k. is_lower (label_in (block_long c.args.s) c.args.table.now) c.args.level (c.args.i + k)) _ _ c.all.result c.all.ensures.ran
    (YieldsList-from_range 0 4 4 (search rules) refl) (λ x b q k. search (rules, tests))
    ∙ four_listed _ c.args.level c.args.i
