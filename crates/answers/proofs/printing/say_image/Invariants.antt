-- The blocks so far are printed, and the others lie as the header says.
use Rattle.std.proofs.Common.{◌≡◌, ◌+◌, ◌*◌, take}
use Rattle.sizes.specs.Header.{sizes_in}
use Rattle.placement.specs.Decode.{blocks_in}
use Rattle.answers.specs.Answers.{block_lines}
use Rattle.answers.specs.Output.{Said}
use Rattle.answers.proofs.Laws.Blocks.{Laid}
use Rattle.answers.proofs.printing.say_image.Given as goal

abbrev pub invariant-loop-number : goal.invariant-loop-number
invariant-loop-number l = record {
  laid : Laid l.table l.size l.w;
  at_is : l.at ≡ 53 + l.number * l.size;
  said : Said l.initial.to (block_lines 0 (take l.number (blocks_in (sizes_in l.table) l.table))) l.to;
}
