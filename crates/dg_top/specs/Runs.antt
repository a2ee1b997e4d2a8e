-- What a run has done when it ends.
use Rattle.std.specs.Prelude.{◌≡◌, ◌⊎◌, ◌↔◌, ℕ, ◌+◌, ◌<◌, ◌≤◌, List, [], ◌++◌, length, take, Option, Some, None, ⊤}
use Rattle.std.specs.Io.KnownBytes.{Appends, Consumes}
use Rattle.dg_io.specs.Causes.{Rose}
use Rattle.dg_top.specs.declared.status.Status.{Status}
use Rattle.dg_top.specs.declared.status.Status.TheVariants.{Ran, Refused, BadWords, BadLine, ReadFault, WriteFault, NoMemory, TooLong}
use Rattle.dg_top.specs.declared.command.Program.{Program}
use Rattle.dg_top.specs.declared.command.Command.{Command}
use Rattle.dg_top.specs.declared.command.Command.TheVariants.{Print, Plan}
use Rattle.dg_lex.specs.Bytes.{Bytes}
use Rattle.dg_top.specs.Commands.{AsksFor}
use Rattle.dg_top.specs.Output.{document_limit, too_long_text, bad_line_text, HasFirstBad, Refuses}
use Rattle.dg_top.specs.Output.{IsAnswer, IsOutput}

-- the known bytes are followed by the whole output for these words and bytes
abbrev pub WritesAll : Program → List Bytes → Bytes → Option Bytes → Option Bytes → Status → Type 0
WritesAll program words bytes old new status =
    (text : Bytes) × IsOutput program words bytes status text × Appends old new text

-- the known bytes are followed by a front of the output, but not by all of it
abbrev pub WritesFront : Program → List Bytes → Bytes → Option Bytes → Option Bytes → Type 0
WritesFront program words bytes old new = (status : Status) × (text : Bytes) × (n : ℕ)
    × IsOutput program words bytes status text × (n < length text) × Appends old new (take n text)

-- the same, or a document whose text is empty is printed or planned; each other text has a byte
abbrev pub WritesLess : Program → List Bytes → Bytes → Option Bytes → Option Bytes → Type 0
WritesLess program words bytes old new = WritesFront program words bytes old new
    ⊎ (AsksFor program words Print × IsAnswer Print bytes Ran [] × Appends old new [])
    ⊎ (AsksFor program words Plan × IsAnswer Plan bytes Ran [] × Appends old new [])

-- What is written for these words and the bytes that were left, where the source tells them: the
-- output with its status; a front of it where writing or memory failed; nothing where reading
-- failed.
abbrev pub Writes : Program → List Bytes → Option Bytes → Option Bytes → Option Bytes → Status
    → Type 0
Writes program words None old new status = ⊤
Writes program words (Some bytes) old new ReadFault = Appends old new []
Writes program words (Some bytes) old new WriteFault = WritesFront program words bytes old new
Writes program words (Some bytes) old new NoMemory = WritesLess program words bytes old new
Writes program words (Some bytes) old new Ran = WritesAll program words bytes old new Ran
Writes program words (Some bytes) old new Refused = WritesAll program words bytes old new Refused
Writes program words (Some bytes) old new BadWords = WritesAll program words bytes old new BadWords
Writes program words (Some bytes) old new BadLine = WritesAll program words bytes old new BadLine
Writes program words (Some bytes) old new TooLong = WritesAll program words bytes old new TooLong

-- some bytes were taken, at most so many
abbrev pub TakesAtMost : ℕ → Option Bytes → Option Bytes → Type 0
TakesAtMost limit left new_left = (taken : Bytes) × Consumes left new_left taken
    × (length taken ≤ limit)

-- just so many bytes were taken
abbrev pub TakesExactly : ℕ → Option Bytes → Option Bytes → Type 0
TakesExactly count left new_left = (taken : Bytes) × Consumes left new_left taken × (length taken
    ≡ count)

-- where both ends tell their bytes, the status is BadLine exactly where a line is the first bad one
-- of a document that isn't too long, and its text was written
abbrev pub BadLineExactly : Program → List Bytes → Option Bytes → Option Bytes → Option Bytes
    → Status → Type 0
BadLineExactly program words left old new status =
    (bytes before : Bytes) → left ≡ Some bytes → old ≡ Some before
    → (status ≡ BadLine) ↔ ((command : Command) × (n : ℕ) × AsksFor program words command
    × (length bytes ≤ document_limit) × HasFirstBad command bytes n
    × (new ≡ Some (before ++ bad_line_text n)))

-- where both ends tell their bytes, the status is Refused exactly where a document that isn't too
-- long is read and refused, and the lines of its violations were written
abbrev pub RefusedExactly : Program → List Bytes → Option Bytes → Option Bytes → Option Bytes
    → Status → Type 0
RefusedExactly program words left old new status =
    (bytes before : Bytes) → left ≡ Some bytes → old ≡ Some before
    → (status ≡ Refused) ↔ ((command : Command) × (text : Bytes) × AsksFor program words command
    × (length bytes ≤ document_limit) × Refuses command bytes text
    × (new ≡ Some (before ++ text)))

-- where both ends tell their bytes, the status is TooLong exactly where the byte past the limit was
-- taken, and its text was written
abbrev pub TooLongExactly : Program → List Bytes → Option Bytes → Option Bytes → Option Bytes
    → Option Bytes → Status → Type 0
TooLongExactly program words left new_left old new status =
    (bytes before : Bytes) → left ≡ Some bytes → old ≡ Some before
    → (status ≡ TooLong) ↔ ((command : Command) × AsksFor program words command
    × TakesExactly (document_limit + 1) left new_left × (new ≡ Some (before ++ too_long_text)))

-- where the source tells its bytes, a run in which neither count of faults rose has the status of
-- the output, or there was no memory
abbrev pub IsComplete : Program → List Bytes → Option Bytes → ℕ → ℕ → ℕ → ℕ → Status → Type 0
IsComplete program words left read_faults new_read_faults write_faults new_write_faults result =
    (bytes text : Bytes) (status : Status) → left ≡ Some bytes → (Rose read_faults new_read_faults
    → ⊥) → (Rose write_faults new_write_faults → ⊥) → IsOutput program words bytes status text
    → (result ≡ status) ⊎ (result ≡ NoMemory)
