-- The seed numbers so far are written.
use Rattle.std.proofs.Common.{◌≡◌, ◌*◌, take}
use Rattle.sizes.specs.Header.{seed_bytes}
use Rattle.answers.proofs.calls.write_seed.Given as goal

abbrev pub invariant-loop-i : goal.invariant-loop-i
invariant-loop-i l = take (4 * l.i) l.seed ≡ seed_bytes (take l.i l.number-items)
