-- A level below the top, told by no more powers than it takes.
use Rattle.std.proofs.Common.{arith}
use Rattle.sizes.proofs.Laws.Hashes.{level_below}
use Rattle.sizes.proofs.hash.has_level.Goals as goal

pub returns : goal.returns
returns c =
    let r = c.requires in
    level_below _ _ _ _ _ _ r.6 r.3 c.hash-h.ensures.0 r.4 r.5 (λ e. omega (arith, e)) c.higher-2.ensures.0
