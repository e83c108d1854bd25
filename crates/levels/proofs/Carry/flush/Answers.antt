-- `levels::Carry::flush` meets its contract: each goal follows from a law of a flush.
use Rattle.std.proofs.Common.{length, ap, ◌∙◌, rules}
use Rattle.std.proofs.Math.Seq.{length-sets}
use Rattle.levels.proofs.Laws.Flushes.{flush_waits, flush_writes}
use Rattle.levels.proofs.Carry.flush.Goals as goal

ruleset laws = (rules, flush_waits, flush_writes)

pub returns-then-self-s : goal.returns-then-self-s
returns-then-self-s g c = search laws

pub returns : goal.returns
returns g c = (record { shaped = c.write_some.ensures.0; long = ap length c.advance.ensures.1 ∙ simp length-sets }, search laws, search laws)
