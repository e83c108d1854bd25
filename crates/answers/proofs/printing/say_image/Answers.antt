use Rattle.std.proofs.Common.{rules, ◌≡◌, ◌+◌, ◌-◌, ◌≤◌, ◌∙◌, ap, arith, length, add-one, suc-mul}
use Rattle.readings.proofs.Laws.Answers.{known_at, known_long}
use Rattle.sizes.specs.Header.{block_long}
use Rattle.sizes.specs.Sizes.{row}
use Rattle.answers.specs.Answers.{block_lines}
use Rattle.answers.proofs.Laws.Blocks.{walking_end, walking_room, walking_few, walking_count, walking_more}
use Rattle.answers.proofs.Laws.Output.{said_none}
use Rattle.answers.proofs.printing.say_image.Goals as goal

pub read-requires : goal.read-requires
read-requires c = known_long _ c.requires

pub block_length-size-requires : goal.block_length-size-requires
block_length-size-requires c = (known_at _ _ c.requires c.read.ensures.0).shaped.few

pub loop-number-init : goal.loop-number-init
unfolding block_lines
loop-number-init c = record {
  laid = record { image = c.requires; size_is = c.block_length-size.ensures.0 ∙ ap block_long c.read.ensures.0; row_is = c.row-w.ensures.0 ∙ ap row c.read.ensures.0 };
  at_is = omega arith;
  said = said_none _;
}

pub slice_bounds-say_block-end : goal.slice_bounds-say_block-end
slice_bounds-say_block-end c =
    let i = c.loop-number.invariant in
    let room : c.loop-number.at + c.block_length-size.result ≤ length c.args.table.now = walking_room _ _ _ i.laid _ _ i.at_is (rw c.read.ensures.0 at c.loop-number-test.true) in
    search rules

pub say_block-requires : goal.say_block-requires
say_block-requires c =
    let i = c.loop-number.invariant in
    let h = rw c.read.ensures.0 at c.loop-number-test.true in
    let size : c.loop-number.at + c.block_length-size.result - c.loop-number.at ≡ c.block_length-size.result = omega arith in
    rw size (search rules, walking_count _ _ _ i.laid _ _ i.at_is h, walking_few _ _ _ i.laid _ _ i.at_is h)

pub loop-number-preserved : goal.loop-number-preserved
loop-number-preserved c =
    let i = c.loop-number.invariant in
    let size : c.loop-number.at + c.block_length-size.result - c.loop-number.at ≡ c.block_length-size.result = omega arith in
    record {
      laid = i.laid;
      at_is = rw (add-one, suc-mul) (omega arith);
      said = walking_more _ _ _ i.laid _ _ i.at_is (rw c.read.ensures.0 at c.loop-number-test.true) _ _ _ i.said (rw size at c.say_block.ensures);
    }

pub returns : goal.returns
returns c = walking_end _ _ _ c.loop-number.invariant.laid _ _ _ (rw c.read.ensures.0 at c.loop-number-test.false) c.loop-number.invariant.said
