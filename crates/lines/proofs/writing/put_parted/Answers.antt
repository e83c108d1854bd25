-- One number more: a blank and the number behind those before.
use Rattle.std.proofs.Common.{arith}
use Rattle.lines.proofs.Laws.Writing.{put_on, parted_take, numeral_short}
use Rattle.lines.proofs.writing.put_parted.Goals as goal

pub loop-n-preserved : goal.loop-n-preserved
loop-n-preserved c = record {
  put = rw (parted_take c.args.numbers.now c.loop-n.n-index c.loop-n-test.true) (put_on c.loop-n.invariant.put (put_on c.put_byte-place.ensures c.put_number-place.ensures));
  room = omega (arith, numeral_short);
}
