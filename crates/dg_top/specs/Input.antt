-- How reading a source ends.
use Rattle.std.specs.Prelude.{◌≡◌, ℕ, ◌+◌, ◌≤◌, length, Option, Result, Ok, Err}
use Rattle.std.specs.Global.{Vec}
use Rattle.std.specs.Io.KnownBytes.{Consumes, IsAtEnd}
use Rattle.dg_io.specs.Causes.{Rose}
use Rattle.dg_lex.specs.Bytes.{Bytes}
use Rattle.dg_top.specs.declared.input.InputFault.{InputFault}
use Rattle.dg_top.specs.declared.input.InputFault.TheVariants as fault
use Rattle.dg_top.specs.Output.{document_limit}
use Rattle.dg_top.specs.Runs.{TakesExactly}

-- these bytes were taken, none is left, and there was no fault
pub record EndsInput (left new_left : Option Bytes) (faults new_faults : ℕ) (bytes : Bytes) : Type 0
  where
    pub taken : Consumes left new_left bytes
    pub at_end : IsAtEnd new_left
    pub within : length bytes ≤ document_limit
    pub no_fault : new_faults ≡ faults

-- Failed comes only where the count of faults rose, TooLong where the byte past the limit was
-- taken, and NoMemory where no call failed.
abbrev pub HasInputCause : Option Bytes → Option Bytes → ℕ → ℕ → Result (Vec ℕ) InputFault → Type 0
HasInputCause left new_left faults new_faults (Ok bytes) = Unit {0}
HasInputCause left new_left faults new_faults (Err fault.Failed) = Rose faults new_faults
HasInputCause left new_left faults new_faults (Err fault.TooLong) = TakesExactly (document_limit +
    1) left new_left × (new_faults ≡ faults)
HasInputCause left new_left faults new_faults (Err fault.NoMemory) = new_faults ≡ faults
