-- The status and the text that belong to a program, its words and the bytes of its input.
use Rattle.std.specs.Prelude.{◌≡◌, ◌≢◌, ◌<◌, ◌≤◌, ℕ, List, [], ◌∷◌, ◌++◌, length}
use Rattle.std.specs.Prelude.{codes, decimal}
use Rattle.std.specs.List.{flat_map}
use Rattle.dg_lex.specs.Bytes.{Bytes, line_end}
use Rattle.dg_decl.specs.declared.document.Doc.{Doc}
use Rattle.dg_decl.specs.Reading as language
use Rattle.dg_decl.specs.declared.violation.Violation.{Violation}
use Rattle.dg_decl.specs.Canonical.{canonical_text}
use Rattle.dg_decl.specs.Diagnostics.{diagnostics, IsAccepted}
use Rattle.dg_diag.specs.Lines.{line_of}
use Rattle.dg_plan.specs.PlanLines.{plan_lines}
use Rattle.dg_eval.specs.Report.{report}
use Rattle.dg_top.specs.declared.status.Status.{Status}
use Rattle.dg_top.specs.declared.status.Status.TheVariants.{Ran, Refused, BadWords, BadLine}
use Rattle.dg_top.specs.declared.status.Status.TheVariants.{TooLong}
use Rattle.dg_top.specs.declared.command.Program.{Program}
use Rattle.dg_top.specs.declared.command.Command.{Command}
use Rattle.dg_top.specs.declared.command.Command.TheVariants.{Run, Print, Check, Plan}
use Rattle.dg_top.specs.Commands.{AsksFor, HasNoWords}

-- the most bytes of a document
abbrev pub document_limit : ℕ
document_limit = 4194304

unfoldable pub too_long_text : Bytes
too_long_text = codes "too long" ++ line_end ∷ []

unfoldable pub bad_line_text : ℕ → Bytes
bad_line_text n = codes "bad line " ++ decimal n ++ line_end ∷ []

unfoldable pub accepted_text : Bytes
accepted_text = codes "accepted" ++ line_end ∷ []

-- the lines of violations, one after another
abbrev pub lines_of : List Violation → Bytes
lines_of broken = flat_map line_of broken

-- ---- what a document comes to

-- this text is its canonical text
pub record IsPrinted (bytes text : Bytes) : Type 0 where
  pub doc : Doc
  pub reads : language.Reads bytes doc
  pub is_text : text ≡ canonical_text doc

-- it breaks rules, and this text is the lines of its diagnostics
pub record IsDiagnosed (bytes text : Bytes) : Type 0 where
  pub doc : Doc
  pub reads : language.Reads bytes doc
  pub broken : diagnostics doc ≢ []
  pub is_text : text ≡ lines_of (diagnostics doc)

-- it breaks none, and this text says so
pub record IsApproved (bytes text : Bytes) : Type 0 where
  pub doc : Doc
  pub reads : language.Reads bytes doc
  pub accepted : IsAccepted doc
  pub is_text : text ≡ accepted_text

-- it breaks none, and this text is the lines of its plan
pub record IsPlanned (bytes text : Bytes) : Type 0 where
  pub doc : Doc
  pub reads : language.Reads bytes doc
  pub accepted : IsAccepted doc
  pub is_text : text ≡ plan_lines doc

-- it breaks none, and this text is its report
pub record IsReported (bytes text : Bytes) : Type 0 where
  pub doc : Doc
  pub reads : language.Reads bytes doc
  pub accepted : IsAccepted doc
  pub is_text : text ≡ report doc

-- ---- what is read for a command, and what it gives

-- line n of a document is the first bad one
abbrev pub HasFirstBad : Command → Bytes → ℕ → Type 0
HasFirstBad command bytes n = language.FirstBad bytes n

-- a document is read, and is refused with this text
abbrev pub Refuses : Command → Bytes → Bytes → Type 0
Refuses Run bytes text = IsDiagnosed bytes text
Refuses Print bytes text = ⊥
Refuses Check bytes text = IsDiagnosed bytes text
Refuses Plan bytes text = IsDiagnosed bytes text

-- a document is read, and gives this text
abbrev pub Gives : Command → Bytes → Bytes → Type 0
Gives Run bytes text = IsReported bytes text
Gives Print bytes text = IsPrinted bytes text
Gives Check bytes text = IsApproved bytes text
Gives Plan bytes text = IsPlanned bytes text

-- A command over these bytes has this status and text. The first case that fits is the only one:
-- too many bytes, then a bad line, then a document that is refused, and then one that isn't.
pub data IsAnswer (command : Command) (bytes : Bytes) : Status → Bytes → Type 0 where
  too_long : document_limit < length bytes → IsAnswer command bytes TooLong too_long_text
  bad_line : (n : ℕ) → length bytes ≤ document_limit → HasFirstBad command bytes n
      → IsAnswer command bytes BadLine (bad_line_text n)
  refused : {text : Bytes} → length bytes ≤ document_limit → Refuses command bytes text
      → IsAnswer command bytes Refused text
  ran : {text : Bytes} → length bytes ≤ document_limit → Gives command bytes text
      → IsAnswer command bytes Ran text

-- A program with these words, over these bytes, has this status and text: words that ask for
-- nothing come first.
pub data IsOutput (program : Program) (words : List Bytes) (bytes : Bytes) : Status → Bytes
    → Type 0 where
  bad_words : HasNoWords program words → IsOutput program words bytes BadWords []
  answered : {status : Status} {text : Bytes} → (command : Command) → AsksFor program words command
      → IsAnswer command bytes status text → IsOutput program words bytes status text

-- there is one status and text for this program, these words and these bytes, and no other
pub record HasOneOutput (program : Program) (words : List Bytes) (bytes : Bytes) : Type 0 where
  pub status : Status
  pub text : Bytes
  pub is_output : IsOutput program words bytes status text
  pub same_status : (other : Status) (other_text : Bytes)
      → IsOutput program words bytes other other_text → other ≡ status
  pub same_text : (other : Status) (other_text : Bytes)
      → IsOutput program words bytes other other_text → other_text ≡ text

abbrev pub OneOutput : Type 0
OneOutput = (program : Program) (words : List Bytes) (bytes : Bytes)
    → HasOneOutput program words bytes
