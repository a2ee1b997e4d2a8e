-- Each program, words and bytes have exactly one status and text.
use Rattle.std.proofs.Common.{◌≡◌, ◌⊎◌, inl, inr, ◌<◌, ◌≤◌, Bool, true, false, List, [], ◌∷◌, ◌++◌, length, refl, sym, ap, subst, ◌∙◌, arith}
use Rattle.std.specs.Prelude.{◌≢◌, codes, decimal}
use Rattle.std.specs.Bool.{Decides}
use Rattle.std.specs.Str.{bytes_eq}
use Rattle.std.proofs.lemmas.Bool.{cases_lt, false≢true}
use Rattle.std.proofs.lemmas.List.{length-append}
use Rattle.std.proofs.lemmas.Slice.Eq.{bytes_eq-Decides}
use Rattle.dg_lex.specs.Bytes.{Bytes, line_end}
use Rattle.dg_decl.specs.Reading.{Reads}
use Rattle.dg_decl.specs.declared.document.Doc.{Doc}
use Rattle.dg_decl.specs.declared.violation.Violation.{Violation}
use Rattle.dg_decl.specs.Canonical.{canonical_text}
use Rattle.dg_decl.specs.Diagnostics.{diagnostics}
use Rattle.dg_diag.specs.Lines.{head_of, detail_text, line_of}
use Rattle.dg_plan.specs.PlanLines.{plan_lines}
use Rattle.dg_eval.specs.Report.{report}
use Rattle.dg_top.specs.declared.status.Status.{Status}
use Rattle.dg_top.specs.declared.status.Status.TheVariants.{Ran, Refused, BadWords, BadLine, TooLong}
use Rattle.dg_top.specs.declared.command.Program.{Program}
use Rattle.dg_top.specs.declared.command.Program.TheVariants.{Dagrun, Dagc}
use Rattle.dg_top.specs.declared.command.Command.{Command}
use Rattle.dg_top.specs.declared.command.Command.TheVariants.{Run, Print, Check, Plan}
use Rattle.dg_top.specs.Commands.{AsksFor, HasNoWords}
use Rattle.dg_top.specs.Output.{document_limit, too_long_text, bad_line_text, accepted_text, lines_of, IsDiagnosed, Refuses, Gives, IsAnswer, too_long, bad_line, refused, ran, IsOutput, bad_words, answered, HasOneOutput, OneOutput}
use Rattle.dg_top.proofs.LineLemmas.{some_report}
use Rattle.dg_top.proofs.ReadingLemmas.{HasReading, is_read, is_bad, reading, one_line, one_refusal, one_given, bad_isnt_refused, bad_isnt_given, refused_isnt_given}

-- ---- a command has one answer to bytes

-- two answers of a command to the same bytes are one
pub only_answer : (command : Command) (bytes : Bytes) (s t : Status) (x y : Bytes)
    → IsAnswer command bytes s x → IsAnswer command bytes t y → (t ≡ s) × (y ≡ x)
only_answer command bytes s t x y (too_long over) (too_long more) = (refl, refl)
only_answer command bytes s t x y (too_long over) (bad_line n within first) = absurd (omega arith)
only_answer command bytes s t x y (too_long over) (refused within refuses) = absurd (omega arith)
only_answer command bytes s t x y (too_long over) (ran within gives) = absurd (omega arith)
only_answer command bytes s t x y (bad_line n within first) (too_long over) = absurd (omega arith)
only_answer command bytes s t x y (bad_line m within first) (bad_line n less other) = (
  refl,
  ap
      bad_line_text (one_line bytes m n first other),
)
only_answer command bytes s t x y (bad_line n within first) (refused {text = z} less refuses) =
    absurd (bad_isnt_refused command bytes n z first refuses)
only_answer command bytes s t x y (bad_line n within first) (ran {text = z} less gives) = absurd
    (bad_isnt_given command bytes n z first gives)
only_answer command bytes s t x y (refused within refuses) (too_long over) = absurd (omega arith)
only_answer command bytes s t x y (refused {text = z} within refuses) (bad_line n less first) =
    absurd (bad_isnt_refused command bytes n z first refuses)
only_answer command bytes s t x y (refused {text = z} within refuses) (refused {text = w} less
    other) = (refl, one_refusal command bytes z w refuses other)
only_answer command bytes s t x y (refused {text = z} within refuses) (ran {text = w} less gives) =
    absurd (refused_isnt_given command bytes z w refuses gives)
only_answer command bytes s t x y (ran within gives) (too_long over) = absurd (omega arith)
only_answer command bytes s t x y (ran {text = z} within gives) (bad_line n less first) = absurd
    (bad_isnt_given command bytes n z first gives)
only_answer command bytes s t x y (ran {text = z} within gives) (refused {text = w} less refuses) =
    absurd (refused_isnt_given command bytes w z refuses gives)
only_answer command bytes s t x y (ran {text = z} within gives) (ran {text = w} less other) = (
  refl,
  one_given command bytes z w gives other,
)

abbrev HasAnswer : Command → Bytes → Type 0
HasAnswer command bytes = (status : Status) × (text : Bytes) × IsAnswer command bytes status text

run_read : (bytes : Bytes) (doc : Doc) → length bytes ≤ document_limit → Reads bytes doc
    → (vs : List Violation) → diagnostics doc ≡ vs → HasAnswer Run bytes
run_read bytes doc within reads [] is = (
  Ran,
  report doc,
  ran within record {
    doc = doc;
    reads =
        reads;
    accepted = is;
    is_text = refl;
  },
)
run_read bytes doc within reads (v ∷ vs) is = (
  Refused,
  lines_of (diagnostics doc),
  refused within record {
    doc = doc;
    reads = reads;
    broken =
        λ none. absurd (let e : v ∷ vs ≡ [] = sym is ∙ none in cc);
    is_text = refl;
  },
)

run_within : (bytes : Bytes) → length bytes ≤ document_limit → HasReading bytes
    → HasAnswer Run bytes
run_within bytes within (is_read doc reads only none) = run_read bytes doc within reads (diagnostics
    doc) refl
run_within bytes within (is_bad line first only none) = (
  BadLine,
  bad_line_text line,
  bad_line line
      within first,
)

print_within : (bytes : Bytes) → length bytes ≤ document_limit → HasReading bytes
    → HasAnswer Print bytes
print_within bytes within (is_read doc reads only none) = (
  Ran,
  canonical_text doc,
  ran within
      record { doc = doc; reads = reads; is_text = refl },
)
print_within bytes within (is_bad line first only none) = (
  BadLine,
  bad_line_text line,
  bad_line
      line within first,
)

check_read : (bytes : Bytes) (doc : Doc) → length bytes ≤ document_limit → Reads bytes doc
    → (vs : List Violation) → diagnostics doc ≡ vs → HasAnswer Check bytes
check_read bytes doc within reads [] is = (
  Ran,
  accepted_text,
  ran within record {
    doc = doc;
    reads
        = reads;
    accepted = is;
    is_text = refl;
  },
)
check_read bytes doc within reads (v ∷ vs) is = (
  Refused,
  lines_of (diagnostics doc),
  refused within record {
    doc = doc;
    reads = reads;
    broken =
        λ none. absurd (let e : v ∷ vs ≡ [] = sym is ∙ none in cc);
    is_text = refl;
  },
)

check_within : (bytes : Bytes) → length bytes ≤ document_limit → HasReading bytes
    → HasAnswer Check bytes
check_within bytes within (is_read doc reads only none) = check_read bytes doc within reads
    (diagnostics doc) refl
check_within bytes within (is_bad line first only none) = (
  BadLine,
  bad_line_text line,
  bad_line
      line within first,
)

plan_read : (bytes : Bytes) (doc : Doc) → length bytes ≤ document_limit → Reads bytes doc
    → (vs : List Violation) → diagnostics doc ≡ vs → HasAnswer Plan bytes
plan_read bytes doc within reads [] is = (
  Ran,
  plan_lines doc,
  ran within record {
    doc = doc;
    reads
        = reads;
    accepted = is;
    is_text = refl;
  },
)
plan_read bytes doc within reads (v ∷ vs) is = (
  Refused,
  lines_of (diagnostics doc),
  refused within record {
    doc = doc;
    reads = reads;
    broken =
        λ none. absurd (let e : v ∷ vs ≡ [] = sym is ∙ none in cc);
    is_text = refl;
  },
)

plan_within : (bytes : Bytes) → length bytes ≤ document_limit → HasReading bytes
    → HasAnswer Plan bytes
plan_within bytes within (is_read doc reads only none) = plan_read bytes doc within reads
    (diagnostics doc) refl
plan_within bytes within (is_bad line first only none) = (
  BadLine,
  bad_line_text line,
  bad_line line
      within first,
)

answer_within : (command : Command) (bytes : Bytes) → length bytes ≤ document_limit
    → HasAnswer command bytes
answer_within Run bytes within = run_within bytes within (reading bytes)
answer_within Print bytes within = print_within bytes within (reading bytes)
answer_within Check bytes within = check_within bytes within (reading bytes)
answer_within Plan bytes within = plan_within bytes within (reading bytes)

pub has_answer : (command : Command) (bytes : Bytes) → HasAnswer command bytes
has_answer command bytes =
    elim (cases_lt document_limit (length bytes)) [
      | inl over ↦ (TooLong, too_long_text, too_long over)
      | inr within ↦ answer_within command bytes within
    ]

-- ---- words ask a program for one thing or for nothing

first_word : List Bytes → Bytes
first_word [] = []
first_word (w ∷ ws) = w

not_both_words : (words : List Bytes) (v w : Bytes) → bytes_eq v w ≡ false → words ≡ v ∷ []
    → words ≡ w ∷ [] → ⊥
unfolding first_word
not_both_words words v w differ f g = false≢true (sym differ
    ∙ (bytes_eq-Decides v w).1 (ap first_word (sym f ∙ g)))

print_isnt_check : (words : List Bytes) → words ≡ codes "print" ∷ [] → words ≡ codes "check" ∷ []
    → ⊥
print_isnt_check words f g = not_both_words words (codes "print") (codes "check") refl f g

print_isnt_plan : (words : List Bytes) → words ≡ codes "print" ∷ [] → words ≡ codes "plan" ∷ [] → ⊥
print_isnt_plan words f g = not_both_words words (codes "print") (codes "plan") refl f g

check_isnt_plan : (words : List Bytes) → words ≡ codes "check" ∷ [] → words ≡ codes "plan" ∷ [] → ⊥
check_isnt_plan words f g = not_both_words words (codes "check") (codes "plan") refl f g

one_command : (p : Program) (words : List Bytes) (c d : Command) → AsksFor p words c
    → AsksFor p words d → d ≡ c
one_command Dagrun words Run Run f g = refl
one_command Dagrun words Run Print f g = absurd g
one_command Dagrun words Run Check f g = absurd g
one_command Dagrun words Run Plan f g = absurd g
one_command Dagrun words Print d f g = absurd f
one_command Dagrun words Check d f g = absurd f
one_command Dagrun words Plan d f g = absurd f
one_command Dagc words Run d f g = absurd f
one_command Dagc words Print Run f g = absurd g
one_command Dagc words Print Print f g = refl
one_command Dagc words Print Check f g = absurd (print_isnt_check words f g)
one_command Dagc words Print Plan f g = absurd (print_isnt_plan words f g)
one_command Dagc words Check Run f g = absurd g
one_command Dagc words Check Print f g = absurd (print_isnt_check words g f)
one_command Dagc words Check Check f g = refl
one_command Dagc words Check Plan f g = absurd (check_isnt_plan words f g)
one_command Dagc words Plan Run f g = absurd g
one_command Dagc words Plan Print f g = absurd (print_isnt_plan words g f)
one_command Dagc words Plan Check f g = absurd (check_isnt_plan words g f)
one_command Dagc words Plan Plan f g = refl

abbrev IsAsked : Program → List Bytes → Type 0
IsAsked p words = ((command : Command) × AsksFor p words command) ⊎ HasNoWords p words

no_run : (w : Bytes) (ws : List Bytes) (command : Command) → AsksFor Dagrun (w ∷ ws) command → ⊥
no_run w ws Run same = absurd (let e : w ∷ ws ≡ [] = same in cc)
no_run w ws Print asks = asks
no_run w ws Check asks = asks
no_run w ws Plan asks = asks

-- any words at all ask dagrun for nothing
pub any_words : (words : List Bytes) → words ≢ [] → HasNoWords Dagrun words
any_words words some Run same = some same
any_words words some Print asks = asks
any_words words some Check asks = asks
any_words words some Plan asks = asks

no_word : (command : Command) → AsksFor Dagc [] command → ⊥
no_word Run asks = asks
no_word Print same = absurd (let e : [] ≡ codes "print" ∷ [] = same in cc)
no_word Check same = absurd (let e : [] ≡ codes "check" ∷ [] = same in cc)
no_word Plan same = absurd (let e : [] ≡ codes "plan" ∷ [] = same in cc)

two_words : (v w : Bytes) (ws : List Bytes) (command : Command)
    → AsksFor Dagc (v ∷ w ∷ ws) command → ⊥
two_words v w ws Run asks = asks
two_words v w ws Print same = absurd (let e : v ∷ w ∷ ws ≡ codes "print" ∷ [] = same in cc)
two_words v w ws Check same = absurd (let e : v ∷ w ∷ ws ≡ codes "check" ∷ [] = same in cc)
two_words v w ws Plan same = absurd (let e : v ∷ w ∷ ws ≡ codes "plan" ∷ [] = same in cc)

other_word : (w : Bytes) → (w ≡ codes "print" → ⊥) → (w ≡ codes "check" → ⊥) → (w ≡ codes "plan"
    → ⊥) → (command : Command) → AsksFor Dagc (w ∷ []) command → ⊥
other_word w print check plan Run asks = asks
other_word w print check plan Print same = print (let e : w ∷ [] ≡ codes "print" ∷ [] = same in cc)
other_word w print check plan Check same = check (let e : w ∷ [] ≡ codes "check" ∷ [] = same in cc)
other_word w print check plan Plan same = plan (let e : w ∷ [] ≡ codes "plan" ∷ [] = same in cc)

decided : {P : Type 0} (b : Bool) → Decides b P → P ⊎ (P → ⊥)
decided true d = inl (d.0 refl)
decided false d = inr (λ p. false≢true (d.1 p))

is_word : (w v : Bytes) → (w ≡ v) ⊎ (w ≡ v → ⊥)
is_word w v = decided (bytes_eq w v) (bytes_eq-Decides w v)

asked_word : (w : Bytes) → (w ≡ codes "print") ⊎ (w ≡ codes "print" → ⊥)
    → (w ≡ codes "check") ⊎ (w ≡ codes "check" → ⊥) → (w ≡ codes "plan") ⊎ (w ≡ codes "plan" → ⊥)
    → IsAsked Dagc (w ∷ [])
asked_word w (inl print) check plan = inl (Print, ap (λ (z : Bytes). z ∷ []) print)
asked_word w (inr isnt) (inl check) plan = inl (Check, ap (λ (z : Bytes). z ∷ []) check)
asked_word w (inr isnt) (inr either) (inl plan) = inl (Plan, ap (λ (z : Bytes). z ∷ []) plan)
asked_word w (inr isnt) (inr either) (inr any) = inr (other_word w isnt either any)

asked : (p : Program) (words : List Bytes) → IsAsked p words
asked Dagrun [] = inl (Run, refl)
asked Dagrun (w ∷ ws) = inr (no_run w ws)
asked Dagc [] = inr no_word
asked Dagc (w ∷ []) = asked_word w (is_word w (codes "print")) (is_word w (codes "check")) (is_word
    w (codes "plan"))
asked Dagc (v ∷ w ∷ ws) = inr (two_words v w ws)

-- ---- so there is one output

pub only_output : (p : Program) (words : List Bytes) (bytes : Bytes) (s t : Status) (x y : Bytes)
    → IsOutput p words bytes s x → IsOutput p words bytes t y → (t ≡ s) × (y ≡ x)
only_output p words bytes s t x y (bad_words none) (bad_words other) = (refl, refl)
only_output p words bytes s t x y (bad_words none) (answered c asks answer) = absurd (none c asks)
only_output p words bytes s t x y (answered c asks answer) (bad_words none) = absurd (none c asks)
only_output p words bytes s t x y (answered {status = q} {text = z} c asks answer) (answered {status
    = r} {text = w} d also other) =
    only_answer c bytes q r z w answer (subst (λ (e : Command). IsAnswer e bytes r w) (one_command p
    words c d asks also) other)

has_output : (p : Program) (words : List Bytes) (bytes : Bytes) (s : Status) (x : Bytes)
    → IsOutput p words bytes s x → HasOneOutput p words bytes
has_output p words bytes s x out = record {
  status = s;
  text = x;
  is_output = out;
  same_status = λ t y other. (only_output p words bytes s t x y out other).0;
  same_text = λ t y other. (only_output p words bytes s t x y out other).1;
}

pub outputs_once : OneOutput
outputs_once p words bytes =
    elim (asked p words) [
      | inl a ↦ (let one = has_answer a.0 bytes in has_output p words bytes one.0 one.1 (answered
          a.0 a.1 one.2))
      | inr none ↦ has_output p words bytes BadWords [] (bad_words none)
    ]

-- ---- each text but a printed or planned one ends with LF

ends_with_line : (front : Bytes) → 0 < length (front ++ line_end ∷ [])
ends_with_line front = omega (arith, length-append front (line_end ∷ []))

some_line : (v : Violation) → 0 < length (line_of v)
unfolding line_of
some_line v = ends_with_line (head_of v.rule ++ codes " " ++ v.site ++ detail_text v.detail)

some_lines : (vs : List Violation) → vs ≢ [] → 0 < length (lines_of vs)
some_lines [] broken = absurd (broken refl)
some_lines (v ∷ vs) broken = omega (arith, some_line v, length-append (line_of v) (lines_of vs))

diagnosed_is_some : (bytes x : Bytes) → IsDiagnosed bytes x → 0 < length x
diagnosed_is_some bytes x f = subst (λ (z : Bytes). 0 < length z) (sym f.is_text) (some_lines
    (diagnostics f.doc) f.broken)

refusal_is_some : (command : Command) (bytes x : Bytes) → Refuses command bytes x → 0 < length x
refusal_is_some Run bytes x f = diagnosed_is_some bytes x f
refusal_is_some Print bytes x f = absurd f
refusal_is_some Check bytes x f = diagnosed_is_some bytes x f
refusal_is_some Plan bytes x f = diagnosed_is_some bytes x f

pub some_text : (command : Command) (bytes : Bytes) (s : Status) (x : Bytes)
    → IsAnswer command bytes s x → (s ≡ Ran → ⊥) → 0 < length x
unfolding too_long_text bad_line_text
some_text command bytes s x (too_long over) isnt = ends_with_line (codes "too long")
some_text command bytes s x (bad_line n within first) isnt = ends_with_line (codes "bad line " ++
    decimal n)
some_text command bytes s x (refused {text = z} within refuses) isnt = refusal_is_some command bytes
    z refuses
some_text command bytes s x (ran within gives) isnt = absurd (isnt refl)

-- what is given but by printing and planning
pub report_is_some : (bytes x : Bytes) → Gives Run bytes x → 0 < length x
report_is_some bytes x f = subst (λ (z : Bytes). 0 < length z) (sym f.is_text) (some_report f.doc)

pub accepted_is_some : (bytes x : Bytes) → Gives Check bytes x → 0 < length x
unfolding accepted_text
accepted_is_some bytes x f = subst (λ (z : Bytes). 0 < length z) (sym f.is_text) (ends_with_line
    (codes "accepted"))
