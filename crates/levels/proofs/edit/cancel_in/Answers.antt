-- `levels::edit::cancel_in` meets its contract: each goal follows from a law of a key taken out.
use Rattle.std.proofs.Common.{◌≡◌, ◌+◌, ◌-◌, ◌≤◌, refl, arith, rules}
use Rattle.levels.proofs.Laws.Levels.{numbers_shift, cancel_in_short, cancel_in_made}
use Rattle.levels.proofs.edit.cancel_in.Goals as goal

pub returns-then-chunk-here : goal.returns-then-chunk-here
returns-then-chunk-here c =
    let p = c.place_of-here.ensures in
    cancel_in_short _ _ _ _ _ c.requires.1 _ _ _ refl p.1 _ _ (rw (p.0, c.new-chunk.ensures.1) at c.read.ensures.2) c.requires.0.few c.if-chunk-here.true

pub shift-requires : goal.shift-requires
shift-requires c =
    let p = c.place_of-here.ensures in
    let n : c.follow-2.new.self.count ≤ c.args.s.nodes + 1 = omega (arith, c.new-chunk.ensures.1, c.new-carry.ensures.1, c.read.ensures.1, c.follow.ensures.0, c.follow-2.ensures.0, c.if-chunk-here.false) in
    rw p.0
    (c.requires.0, c.requires.1, c.requires.2, n, numbers_shift _ c.args.x.below c.args.x.size _ _ c.requires.1 (search rules) (search rules) refl p.2)

pub returns : goal.returns
returns c =
    let p = c.place_of-here.ensures in
    let z = c.new-carry.ensures in
    let k₁ : c.follow.new.self.count ≡ c.place_of-here.result.kept = omega (arith, z.1, c.follow.ensures.0) in
    let k₂ : c.follow-2.new.self.count ≡ c.read.new.self.count - 1 = omega (arith, k₁, c.follow-2.ensures.0, c.if-chunk-here.false) in
    cancel_in_made _ _ _ _ _ c.requires.1 _ _ _ refl p.1 _ _ (rw (p.0, c.new-chunk.ensures.1) at c.read.ensures.2) c.requires.0.few _ p.2 (omega (arith, c.if-chunk-here.false)) _ _ _
    (rw z.1 at c.follow.ensures.1) (rw k₁ at c.follow-2.ensures.1) z.0 _ (rw (p.0, k₂) at c.shift.ensures)
