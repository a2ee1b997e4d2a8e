-- How a run ends that has an answer to give.
use Rattle.std.specs.Prelude.{◌≡◌, ◌<◌, ℕ, [], ◌++◌, length, Option, Some, None, Result, Ok, Err}
use Rattle.std.specs.Io.KnownBytes.{Appends}
use Rattle.dg_io.specs.Causes.{Rose}
use Rattle.dg_types.specs.declared.memory.NoMemory.{NoMemory as no_memory}
use Rattle.dg_lex.specs.Bytes.{Bytes}
use Rattle.dg_top.specs.declared.answer.Answer.{Answer}
use Rattle.dg_top.specs.declared.command.Command.{Command}
use Rattle.dg_top.specs.declared.status.Status.{Status}
use Rattle.dg_top.specs.declared.status.Status.TheVariants.{WriteFault, NoMemory, TooLong}
use Rattle.dg_top.specs.declared.stream_fault.StreamFault.{StreamFault}
use Rattle.dg_top.specs.declared.stream_fault.StreamFault.TheVariants as fault
use Rattle.dg_top.specs.Output.{too_long_text, IsAnswer}

-- a front of a text was written, but not all of it
pub record WritesFrontOf (text : Bytes) (old new : Option Bytes) : Type 0 where
  pub front : Bytes
  pub rest : Bytes
  pub is_text : text ≡ front ++ rest
  pub some : 0 < length rest
  pub written : Appends old new front

-- A run with one of these answers to give ends so: all of its text was written; the sink failed
-- behind a front of it; memory lacked behind a front of it; or memory lacked before anything was
-- written. The count of the sink's faults rises where it failed, and only there.
pub data Ends (IsGiven : Status → Bytes → Type 0) (old new : Option Bytes) (faults new_faults : ℕ)
    : Status → Type 0 where
  all_written : (status : Status) (text : Bytes) → IsGiven status text → Appends old new text
      → new_faults ≡ faults → Ends IsGiven old new faults new_faults status
  sink_failed : (status : Status) (text : Bytes) → IsGiven status text → WritesFrontOf text old new
      → Rose faults new_faults → Ends IsGiven old new faults new_faults WriteFault
  memory_lacked : (status : Status) (text : Bytes) → IsGiven status text
      → WritesFrontOf text old new → new_faults ≡ faults
      → Ends IsGiven old new faults new_faults NoMemory
  nothing_written : Appends old new [] → new_faults ≡ faults
      → Ends IsGiven old new faults new_faults NoMemory

-- the answer that was made, if any
abbrev pub IsMade : Result Answer no_memory → Status → Bytes → Type 0
IsMade (Ok answer) status text = (status ≡ answer.status) × (text ≡ answer.text.items)
IsMade (Err e) status text = ⊥

-- the answer to these bytes, or to more than a document may have
abbrev pub IsAnswerTo : Command → Option Bytes → Status → Bytes → Type 0
IsAnswerTo command (Some bytes) status text = IsAnswer command bytes status text
IsAnswerTo command None status text = (status ≡ TooLong) × (text ≡ too_long_text)

-- why a front of a text was written, but not all of it
abbrev pub StopsEarly : Bytes → Option Bytes → Option Bytes → ℕ → ℕ → StreamFault → Type 0
StopsEarly text old new faults new_faults fault.Failed =
    WritesFrontOf text old new × Rose faults new_faults
StopsEarly text old new faults new_faults fault.NoMemory =
    WritesFrontOf text old new × (new_faults ≡ faults)
