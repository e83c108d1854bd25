-- Zeros, the header and the fronts are the image of no orders.
use Rattle.std.proofs.Common.{arith}
use Rattle.sizes.proofs.Laws.Sizes.{limits}
use Rattle.table.proofs.Laws.Making.{filled_long, empty_shaped, fronts_image}
use Rattle.table.proofs.making.write_empty.Goals as goal

pub write-requires : goal.write-requires
write-requires c = (filled_long _ _ _ c.requires.1 (c.fill.ensures.after (λ y e. e)), c.requires.0, omega arith)

pub highest-requires : goal.highest-requires
highest-requires c = let m = limits _ c.requires.0 in (m.gamma_most, m.orders_most)

pub fronts-requires : goal.fronts-requires
fronts-requires c =
    (empty_shaped _ c.requires.0 _ _ _ c.requires.1 (c.fill.ensures.after (λ y e. e)) c.write.ensures, (limits _ c.requires.0).nodes_some, omega (arith, c.highest.ensures))

pub returns : goal.returns
returns c = fronts_image _ c.requires.0 _ _ _ c.requires.1 (c.fill.ensures.after (λ y e. e)) c.write.ensures _ _ c.highest.ensures.0 c.fronts.ensures
