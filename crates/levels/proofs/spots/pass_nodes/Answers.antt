-- `levels::spots::pass_nodes` meets its contract: each goal follows from a law of the nodes that came by.
use Rattle.std.proofs.Common.{rules}
use Rattle.levels.proofs.Laws.Scanning.{passing_start, passing_more, passing_end}
use Rattle.levels.proofs.spots.pass_nodes.Goals as goal

ruleset laws = (rules, passing_start, passing_more, passing_end)

pub loop-i-init : goal.loop-i-init
loop-i-init c = search laws

pub loop-i-preserved : goal.loop-i-preserved
loop-i-preserved c = search laws

pub returns : goal.returns
returns c = search laws
