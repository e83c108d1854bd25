-- The chunk goes to a free block, and from there to its place.
use Rattle.std.proofs.Common.{◌<◌, rules, arith}
use Rattle.placement.proofs.Laws.Loops.{free_inside, inserted_made, inserted_same}
use Rattle.placement.proofs.edits.insert.Goals as goal

pub returns-in_err-e : goal.returns-in_err-e
returns-in_err-e c = rw (c.from_residual.ensures, ← c.home-first.ensures.0) (c.in_err-e.ensures, inserted_same _ _ _ _ _)

pub write_block-requires : goal.write_block-requires
write_block-requires c =
    let h : c.in_ok-e.e < c.args.s.blocks = free_inside _ _ _ _ _ c.in_ok-e.ensures (omega arith) in
    search rules

pub distance-requires : goal.distance-requires
distance-requires c =
    let h : c.in_ok-e.e < c.args.s.blocks = free_inside _ _ _ _ _ c.in_ok-e.ensures (omega arith) in
    search rules

pub settle_in-requires : goal.settle_in-requires
settle_in-requires c =
    let h : c.in_ok-e.e < c.args.s.blocks = free_inside _ _ _ _ _ c.in_ok-e.ensures (omega arith) in
    search rules

pub returns : goal.returns
returns c = (
  rw (← c.home-first.ensures.0) c.in_ok-e.ensures,
  inserted_made _ _ _ _ _ _ _ _ _ _ c.home-first.ensures.0 c.write_block.ensures c.distance.ensures.0 c.settle_in.ensures,
)
