use Rattle.std.proofs.Common.{refl, sym, ◌∙◌}
use Rattle.console.specs.Input.{last}
use Rattle.console.proofs.Program.finish.Goals as goal

pub returns-then-is_under_way : goal.returns-then-is_under_way
returns-then-is_under_way c =
    last _ (sym c.is_under_way.ensures ∙ c.if-is_under_way.true) c.answer_line.ensures refl (record { kept = c.flush.ensures.kept; none = c.flush.ensures.none })
