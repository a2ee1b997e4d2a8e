-- The answers to a document and to what a source gave.
use Rattle.std.specs.Prelude.{◌≢◌, ◌≤◌, ◌+◌, [], length, Option, Some, None}
use Rattle.std.specs.Io.KnownBytes.{Consumes, IsAtEnd}
use Rattle.dg_top.specs.declared.status.Status.{Status}
use Rattle.dg_top.specs.declared.status.Status.TheVariants.{Ran, Refused, TooLong}
use Rattle.dg_top.specs.declared.command.Command.{Command}
use Rattle.dg_lex.specs.Bytes.{Bytes}
use Rattle.dg_decl.specs.declared.document.Doc.{Doc}
use Rattle.dg_decl.specs.Diagnostics.{diagnostics, IsAccepted}
use Rattle.dg_top.specs.Output.{document_limit, too_long_text, lines_of, IsAnswer}
use Rattle.dg_top.specs.Runs.{TakesExactly}

-- the diagnostics of a document, or this text where it has none
pub data AnswersDoc (doc : Doc) (good : Bytes) : Status → Bytes → Type 0 where
  to_refused : diagnostics doc ≢ [] → AnswersDoc doc good Refused (lines_of (diagnostics doc))
  to_accepted : IsAccepted doc → AnswersDoc doc good Ran good

-- all bytes of a source were taken, which a document may have, or the byte past the limit was
abbrev pub IsRead : Option Bytes → Option Bytes → Option Bytes → Type 0
IsRead left new_left (Some bytes) =
    Consumes left new_left bytes × IsAtEnd new_left × (length bytes ≤ document_limit)
IsRead left new_left None = TakesExactly (document_limit + 1) left new_left

-- all bytes were taken and this is the answer to them, or the byte past the limit was taken
pub data Answers (command : Command) (left new_left : Option Bytes) : Status → Bytes → Type 0 where
  to_all : {status : Status} {text : Bytes} → (bytes : Bytes) → Consumes left new_left bytes
      → IsAtEnd new_left → length bytes ≤ document_limit → IsAnswer command bytes status text
      → Answers command left new_left status text
  to_long : TakesExactly (document_limit + 1) left new_left → Answers command left new_left TooLong
      too_long_text
