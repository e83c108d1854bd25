-- `levels::spots::chunks_of` meets its contract: the quotient rounded up is the number of chunks.
use Rattle.std.proofs.Common.{◌≡◌, ◌∙◌, arith}
use Rattle.skiplist.specs.Parts.{pieces}
use Rattle.levels.proofs.Laws.Growing.{ceil_pieces, pieces_few}
use Rattle.levels.proofs.spots.chunks_of.Goals as goal

pub returns : goal.returns
returns c =
    let e : c.div_ceil.result ≡ pieces c.args.nodes c.args.n = c.div_ceil.ensures ∙ ceil_pieces c.args.nodes c.args.n c.requires in
    (e, omega (arith, e, pieces_few c.args.nodes c.args.n))
