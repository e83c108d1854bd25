-- The chain of `free` is the search of the theory.
use Rattle.std.proofs.Common.{◌+◌, ◌%◌, ◌==◌, ◌∙◌, sym, rules, tests}
use Rattle.std.proofs.lemmas.Iterator.{YieldsList-from_range, YieldsList-from_map}
use Rattle.std.proofs.lemmas.Iterator.Adapters.{option_map_id}
use Rattle.std.proofs.lemmas.Iterator.Search.{find_from_yields_List}
use Rattle.sizes.specs.Header.{block_long}
use Rattle.placement.specs.Place.{label_in}
use Rattle.placement.proofs.Laws.Loops.{free_found}
use Rattle.placement.proofs.search.free.Goals as goal

pub returns : goal.returns
returns c =
    let e = find_from_yields_List (λ i. (label_in (block_long c.args.s) c.args.table.now i).level == 0) _ _ c.find.result c.find.ensures.ran
    (YieldsList-from_map _ (λ k. (c.args.start + k) % c.args.s.blocks) (YieldsList-from_range 0 c.args.s.blocks c.args.s.blocks (search rules) (search rules)) c.map.ensures.closure (λ x r q k. search (rules, tests))) (λ x b q k. search (rules, tests)) in
    sym (option_map_id c.find.result) ∙ e ∙ free_found (label_in (block_long c.args.s) c.args.table.now) c.args.s.blocks c.args.start c.args.s.blocks
