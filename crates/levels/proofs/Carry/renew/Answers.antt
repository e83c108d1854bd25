-- `levels::Carry::renew` meets its contract: each goal follows from a law of a carry's first nodes.
use Rattle.std.proofs.Common.{length, ap, ◌∙◌, rules}
use Rattle.std.proofs.Math.Seq.{length-sets}
use Rattle.levels.proofs.Laws.Stores.{renew_all, renew_first}
use Rattle.levels.proofs.Carry.renew.Goals as goal

ruleset laws = (rules, renew_all, renew_first)

pub returns-then-self-s : goal.returns-then-self-s
returns-then-self-s g c = search laws

pub returns : goal.returns
returns g c = (record { shaped = c.store-2.ensures.0; long = ap length c.advance.ensures.1 ∙ simp length-sets }, search laws, search laws)
