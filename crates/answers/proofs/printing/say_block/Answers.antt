use Rattle.answers.proofs.Laws.Blocks.{rest_is, block_empty, block_full}
use Rattle.answers.proofs.printing.say_block.Goals as goal

pub returns-then-block-eq0 : goal.returns-then-block-eq0
returns-then-block-eq0 c = block_empty _ _ _ _ _ c.if-block-eq0.true c.say_empty.ensures

pub returns : goal.returns
returns c = block_full _ _ _ _ _ c.if-block-eq0.false _ c.wide-n.ensures.0 _ _ c.head_row.ensures (rw (rest_is 8 c.args.block.now) at c.keys-row.ensures) c.say.ensures
