-- The part filled is n zeros, written over the bytes.
use Rattle.std.proofs.Common.{length, replicate, ap, ◌∙◌}
use Rattle.std.proofs.lemmas.List.{length-replicate}
use Rattle.sizes.proofs.Laws.Parts.{part_written, part_of, length_part}
use Rattle.sizes.proofs.numbers.fill.Goals as goal

pub returns : goal.returns
returns c =
    let e = ap length (part_of c.args.at c.args.n c.args.s.now) ∙ length_part c.args.n c.args.at c.args.s.now c.requires in
    part_written _ _ _ _ c.requires (length-replicate c.args.n 0) _ (c.fill.ensures.after (λ y e. e) ∙ ap (λ m. replicate m 0) e)
