use Rattle.std.proofs.Common.{◌+◌, ◌*◌, ◌-◌, ◌≤◌, take, length}
use Rattle.lines.specs.Text.{parted, Put}
use Rattle.lines.proofs.writing.put_parted.Given as goal

-- the numbers so far are put, and there is room for the others
abbrev pub invariant-loop-n : goal.invariant-loop-n
invariant-loop-n l = record {
  put : Put l.initial.out l.out l.at (parted (take l.n-index l.numbers)) l.place;
  room : l.place + 11 * (length l.numbers - l.n-index) ≤ length l.out;
}
