-- A digit alone is put; a longer number's last digit is put behind its tenth.
use Rattle.std.proofs.Common.{ap, length, arith}
use Rattle.lines.proofs.Laws.Writing.{numeral_digit, numeral_more, numeral_longer, put_on}
use Rattle.lines.proofs.writing.+put_number.Goals as goal
use Rattle.lines.proofs.writing.+put_number.Goals.{then-single, else-single}

pub put_number-place-requires : goal.put_number-place-requires
put_number-place-requires t c = (omega arith, omega (arith, numeral_longer))

pub put_byte-requires : goal.put_byte-requires
put_byte-requires t c = elim c.if-single.branch [
  | then-single w ↦ omega (arith, ap length (numeral_digit c.args.n (omega arith)))
  | else-single w ↦ omega (arith, numeral_longer)
]

pub returns : goal.returns
returns t c = elim c.if-single.branch [
  | then-single w ↦ rw (numeral_digit c.args.n (omega arith), ← w.out-is, ← w.place-is) c.put_byte.ensures
  | else-single w ↦ rw (numeral_more c.args.n (omega arith) (omega arith)) (put_on w.put_number-place.ensures (rw (← w.out-is, ← w.place-is) c.put_byte.ensures))
]
