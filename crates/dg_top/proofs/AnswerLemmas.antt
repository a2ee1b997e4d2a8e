-- Answers to bytes.
use Rattle.std.proofs.Common.{◌≡◌, ◌≤◌, [], ◌+◌, ℕ, List, length, Option, Some, None, refl, sym, ap, subst, ◌∙◌}
use Rattle.std.specs.Prelude.{◌≢◌}
use Rattle.dg_lex.specs.Bytes.{Bytes}
use Rattle.dg_decl.specs.declared.document.Doc.{Doc}
use Rattle.dg_decl.specs.Reading as language
use Rattle.dg_decl.specs.declared.violation.Violation.{Violation}
use Rattle.dg_decl.specs.Canonical.{canonical_text}
use Rattle.dg_decl.specs.Diagnostics.{diagnostics}
use Rattle.dg_plan.specs.PlanLines.{plan_lines}
use Rattle.dg_eval.specs.Report.{report}
use Rattle.dg_top.specs.declared.status.Status.{Status}
use Rattle.dg_top.specs.declared.status.Status.TheVariants.{Ran, Refused, BadLine, TooLong}
use Rattle.dg_top.specs.declared.command.Command.{Command}
use Rattle.dg_top.specs.declared.command.Command.TheVariants.{Run, Print, Check, Plan}
use Rattle.dg_top.specs.Output.{document_limit, too_long_text, bad_line_text, accepted_text, lines_of, HasFirstBad, IsAnswer, bad_line, refused, ran}
use Rattle.dg_top.specs.Runs.{TakesExactly}
use Rattle.dg_top.specs.Answers.{IsRead, Answers, to_all, to_long, AnswersDoc, to_refused, to_accepted}
use Rattle.dg_top.specs.Ends.{IsAnswerTo}

pub answer_printed : (bytes : Bytes) (doc : Doc) (text : Bytes) → length bytes ≤ document_limit
    → language.Reads bytes doc → text ≡ canonical_text doc → IsAnswer Print bytes Ran text
answer_printed bytes doc text within reads is = ran within record {
  doc = doc;
  reads = reads;
  is_text = is;
}

pub answer_bad : (command : Command) (bytes : Bytes) (line : ℕ) (status : Status) (text : Bytes)
    → length bytes ≤ document_limit → HasFirstBad command bytes line → status ≡ BadLine
    → text ≡ bad_line_text line → IsAnswer command bytes status text
answer_bad command bytes line status text within first same is =
    subst (λ (s : Status). IsAnswer command bytes s text) (sym same) (subst (λ (x : Bytes). IsAnswer
    command bytes BadLine x) (sym is) (bad_line line within first))

pub answer_long : (command : Command) (left new_left : Option Bytes) (status : Status) (text :
    Bytes) → TakesExactly (document_limit + 1) left new_left → status ≡ TooLong
    → text ≡ too_long_text → Answers command left new_left status text
answer_long command left new_left status text takes same is =
    subst (λ (s : Status). Answers command left new_left s text) (sym same) (subst (λ (x : Bytes).
    Answers command left new_left TooLong x) (sym is) (to_long takes))

-- ---- the answer to a document that is checked or planned

pub answer_refused : (doc : Doc) (good : Bytes) (vs : List Violation) (text : Bytes)
    → vs ≡ diagnostics doc → vs ≢ [] → text ≡ lines_of vs → AnswersDoc doc good Refused text
answer_refused doc good vs text found some is =
    subst (λ (x : Bytes). AnswersDoc doc good Refused x) (sym (is
    ∙ ap lines_of found)) (to_refused (λ none. some (found ∙ none)))

pub answer_refusal : (doc : Doc) (good : Bytes) (vs : List Violation) (status : Status) (text :
    Bytes) → vs ≡ diagnostics doc → vs ≢ [] → status ≡ Refused → text ≡ lines_of vs
    → AnswersDoc doc good status text
answer_refusal doc good vs status text found some same is = subst (λ (s : Status). AnswersDoc doc
    good s text) (sym same) (answer_refused doc good vs text found some is)

pub answer_accepted : (doc : Doc) (good : Bytes) (vs : List Violation) (text : Bytes)
    → vs ≡ diagnostics doc → vs ≡ [] → text ≡ good → AnswersDoc doc good Ran text
answer_accepted doc good vs text found none is = subst (λ (x : Bytes). AnswersDoc doc good Ran x)
    (sym is) (to_accepted (sym found ∙ none))

pub answer_checked : (bytes : Bytes) (doc : Doc) (status : Status) (text : Bytes)
    → length bytes ≤ document_limit → language.Reads bytes doc
    → AnswersDoc doc accepted_text status text → IsAnswer Check bytes status text
answer_checked bytes doc status text within reads (to_refused broken) = refused within record {
  doc
      = doc;
  reads = reads;
  broken = broken;
  is_text = refl;
}
answer_checked bytes doc status text within reads (to_accepted accepted) = ran within record {
  doc =
      doc;
  reads = reads;
  accepted = accepted;
  is_text = refl;
}

pub answer_planned : (bytes : Bytes) (doc : Doc) (status : Status) (text : Bytes)
    → length bytes ≤ document_limit → language.Reads bytes doc
    → AnswersDoc doc (plan_lines doc) status text → IsAnswer Plan bytes status text
answer_planned bytes doc status text within reads (to_refused broken) = refused within record {
  doc
      = doc;
  reads = reads;
  broken = broken;
  is_text = refl;
}
answer_planned bytes doc status text within reads (to_accepted accepted) = ran within record {
  doc =
      doc;
  reads = reads;
  accepted = accepted;
  is_text = refl;
}

pub answer_reported : (bytes : Bytes) (doc : Doc) → length bytes ≤ document_limit
    → language.Reads bytes doc → (status : Status) (text : Bytes)
    → AnswersDoc doc (report doc) status text → IsAnswer Run bytes status text
answer_reported bytes doc within reads status text (to_refused broken) = refused within record {
  doc
      = doc;
  reads = reads;
  broken = broken;
  is_text = refl;
}
answer_reported bytes doc within reads status text (to_accepted accepted) = ran within record {
  doc
      = doc;
  reads = reads;
  accepted = accepted;
  is_text = refl;
}

-- ---- the answer to what was read of a source

pub answer_to_read : (command : Command) (left new_left read : Option Bytes)
    → IsRead left new_left read → (status : Status) (text : Bytes)
    → IsAnswerTo command read status text → Answers command left new_left status text
answer_to_read command left new_left None takes status text answer = answer_long command left
    new_left status text takes answer.0 answer.1
answer_to_read command left new_left (Some bytes) read status text answer = to_all bytes read.0
    read.1 read.2 answer
