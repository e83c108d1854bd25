-- `levels::edit::enter_below` meets its contract: each goal follows from a law of a partition split.
use Rattle.std.proofs.Common.{◌≡◌, ◌+◌, ◌-◌, ◌*◌, ◌<◌, refl, arith, rules}
use Rattle.levels.proofs.Laws.Levels.{numbers_fit}
use Rattle.levels.proofs.Laws.Parting.{enter_below_short, enter_below_made}
use Rattle.levels.proofs.edit.enter_below.Goals as goal

pub returns-then-chunk-here : goal.returns-then-chunk-here
returns-then-chunk-here c =
    let p = c.place_of-here.ensures in
    enter_below_short _ _ _ _ _ c.requires.1 _ _ _ refl p.1 _ _ (rw (p.0, c.new-chunk.ensures.1) at c.read.ensures.2) c.requires.0.few _ c.if-chunk-here.true

pub pour-requires : goal.pour-requires
pour-requires c =
    let p = c.place_of-here.ensures in
    let fit = numbers_fit _ c.args.x.below c.args.x.size _ _ c.requires.1 (search rules) (search rules) refl _ p.2 in
    let n : c.follow.new.self.count < 2 * c.args.s.nodes = omega (arith, c.requires.1, c.new-chunk.ensures.1, c.new-carry.ensures.1, c.read.ensures.1, c.push.ensures.0, c.follow.ensures.0, c.if-chunk-here.false) in
    rw p.0 (c.store.ensures.0, c.requires.1, refl, c.requires.2, n, omega (arith, fit), fit)

pub returns : goal.returns
returns c =
    let p = c.place_of-here.ensures in
    let z = c.new-carry.ensures in
    let k₁ : c.push.new.self.count ≡ 1 = omega (arith, z.1, c.push.ensures.0) in
    let k₂ : c.follow.new.self.count ≡ c.read.new.self.count - c.place_of-here.result.kept + 1 = omega (arith, k₁, c.follow.ensures.0, c.if-chunk-here.false) in
    enter_below_made _ _ _ _ _ c.requires.1 _ _ _ refl p.1 _ _ (rw (p.0, c.new-chunk.ensures.1) at c.read.ensures.2) c.requires.0.few _ _ p.2 (omega (arith, c.if-chunk-here.false)) _ (rw p.0 at c.store.ensures.1) _ _ _
    (rw (z.1, c.masked.ensures) at c.push.ensures.1) (rw k₁ at c.follow.ensures.1) z.0 _ (rw (p.0, k₂) at c.pour.ensures)
