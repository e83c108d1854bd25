-- What the loop of `find_from` keeps.
use Rattle.sizes.specs.Header.{block_long}
use Rattle.placement.specs.Labels.{before}
use Rattle.placement.specs.Place.{label_in}
use Rattle.placement.proofs.Laws.Loops.{Probing}
use Rattle.placement.proofs.search.find_from.Given as goal

abbrev pub invariant-loop : goal.invariant-loop
invariant-loop l = Probing (before l.s) (label_in (block_long l.s) l.table) l.s.blocks l.want l.most l.start l.counter l.i
