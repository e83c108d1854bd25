-- `levels::ways::upto` meets its contract: its chain finds the first key that is above.
use Rattle.std.proofs.Common.{◌+◌, ◌*◌, ◌≤◌, ◌<◌, rules, tests}
use Rattle.std.proofs.lemmas.Iterator.{first_from_Range}
use Rattle.sizes.specs.Numbers.{field}
use Rattle.levels.proofs.Laws.Ways.{upto_found}
use Rattle.levels.proofs.ways.upto.Goals as goal

pub returns : goal.returns
returns c =
    let a = c.args in
    upto_found a.w a.table.now a.n a.at a.y _ _ c.unwrap_or.ensures
    (first_from_Range _ _ _ c.find.result (λ i. a.y < field (a.at + a.w * i) 4 a.table.now) (λ i. field (a.at + a.w * i) 4 a.table.now ≤ a.y) c.find.ensures.ran (λ x q k. search (rules, tests)) (λ x q k. search (rules, tests)))
