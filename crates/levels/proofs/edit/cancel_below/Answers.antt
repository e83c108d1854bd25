-- `levels::edit::cancel_below` meets its contract: each goal follows from a law of partitions joined.
use Rattle.std.proofs.Common.{◌≡◌, ◌+◌, ◌-◌, ◌*◌, ◌<◌, refl, ◌∙◌, arith, rules}
use Rattle.levels.proofs.Laws.Levels.{numbers_fit}
use Rattle.levels.proofs.Laws.Parting.{cancel_below_none, cancel_below_made}
use Rattle.levels.proofs.edit.cancel_below.Goals as goal

pub returns-then-chunk-eq0 : goal.returns-then-chunk-eq0
returns-then-chunk-eq0 c =
    let p = c.requires in
    cancel_below_none _ _ _ _ _ _ _ p.1 p.0.few _ c.later-count.result _ _ refl _ _ _ (rw c.new-carry.ensures.1 at c.take.ensures.2) _ _ _ (rw c.new-chunk.ensures.1 at c.take-2.ensures.2) c.if-chunk-eq0.true

pub pour-requires : goal.pour-requires
pour-requires c =
    let fit = numbers_fit _ c.args.x.below c.args.size _ _ c.requires.1 (search rules) (search rules) refl 0 c.later-count.ensures in
    let n : c.follow.new.self.count < 2 * c.args.s.nodes = omega (arith, c.requires.1, c.new-chunk.ensures.1, c.new-carry.ensures.1, c.take.ensures.1, c.take-2.ensures.1, c.follow.ensures.0, c.if-chunk-eq0.false) in
    (c.take-2.ensures.0.shaped, c.requires.1, refl, c.requires.2, n, fit, omega (arith, fit))

pub returns : goal.returns
returns c =
    let p = c.requires in
    let k : c.follow.new.self.count ≡ c.take.new.self.count + c.take-2.new.self.count - 1 = omega (arith, c.follow.ensures.0, c.if-chunk-eq0.false) in
    cancel_below_made _ _ _ _ _ _ _ p.1 p.0.few _ _ _ _ refl _ _ _ (rw c.new-carry.ensures.1 at c.take.ensures.2) _ _ _ (rw c.new-chunk.ensures.1 at c.take-2.ensures.2) c.later-count.ensures (c.take.ensures.0.long ∙ c.new-carry.ensures.0) _ c.follow.ensures.1 _ (rw k at c.pour.ensures)
