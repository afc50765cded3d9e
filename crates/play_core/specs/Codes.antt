-- Codes: the exit code of each status.
use Rattle.std.specs.Prelude.{ℕ}
use Rattle.play_core.specs.declared.Status.{Status}
use Rattle.play_core.specs.declared.Status.TheVariants.{Good, Usage, Expression, Trace, ReadFault, WriteFault, OpeningRefused, NoMemory}

-- the exit code of a process that ends with a status
abbrev pub code_of : Status → ℕ
code_of Good = 0
code_of Usage = 2
code_of Expression = 3
code_of Trace = 4
code_of ReadFault = 5
code_of WriteFault = 6
code_of OpeningRefused = 7
code_of NoMemory = 8
