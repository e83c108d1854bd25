use Rattle.answers.proofs.Laws.Blocks.{head_made}
use Rattle.answers.proofs.printing.head_row.Goals as goal

pub returns : goal.returns
returns c = head_made _ _ _ _ _ _ _ c.wide.ensures.0 c.be2.ensures.0 c.be4.ensures
