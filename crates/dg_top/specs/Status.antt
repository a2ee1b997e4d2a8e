-- The exit status of a program.
use Rattle.std.specs.Prelude.{ℕ}
use Rattle.dg_top.specs.declared.status.Status.{Status}
use Rattle.dg_top.specs.declared.status.Status.TheVariants.{Ran, Refused, BadWords, BadLine, ReadFault, WriteFault, NoMemory, TooLong}

abbrev pub code_of : Status → ℕ
code_of Ran = 0
code_of Refused = 1
code_of BadWords = 2
code_of BadLine = 3
code_of ReadFault = 4
code_of WriteFault = 5
code_of NoMemory = 6
code_of TooLong = 7
