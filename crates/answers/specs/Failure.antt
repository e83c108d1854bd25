-- Standard output as the program has it. No document speaks of a write that fails.
use Rattle.std.specs.Prelude.{Option}
use Rattle.std_io.specs.declared.io.error.Error.{Error}
use Rattle.answers.specs.declared.output.Output.{Output}

-- the first write that failed, if one did
abbrev pub first_failure : Output → Option Error
first_failure o = o.failed
