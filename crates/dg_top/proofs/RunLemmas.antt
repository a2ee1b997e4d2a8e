-- What a run has done when it ends, where its words ask for a command.
use Rattle.std.proofs.Common.{◌≡◌, ◌⊎◌, inl, inr, ℕ, ◌+◌, ◌<◌, ◌≤◌, List, [], ◌∷◌, ◌++◌, length, take, Option, Some, None, refl, sym, ap, subst, ◌∙◌, arith}
use Rattle.std.specs.Io.KnownBytes.{Appends, Consumes, IsAtEnd}
use Rattle.std.proofs.Math.Seq.{take-append_seam}
use Rattle.std.proofs.lemmas.List.{append-nil, append_cancel_left, length-append}
use Rattle.dg_io.specs.Causes.{Rose}
use Rattle.dg_lex.specs.Bytes.{Bytes}
use Rattle.dg_top.specs.declared.status.Status.{Status}
use Rattle.dg_top.specs.declared.status.Status.TheVariants.{Ran, Refused, BadWords, BadLine, ReadFault, WriteFault, NoMemory, TooLong}
use Rattle.dg_top.specs.declared.command.Program.{Program}
use Rattle.dg_top.specs.declared.command.Command.{Command}
use Rattle.dg_top.specs.declared.command.Command.TheVariants.{Run, Print, Check, Plan}
use Rattle.dg_top.specs.Commands.{AsksFor, HasNoWords}
use Rattle.dg_top.specs.Output.{document_limit, too_long_text, bad_line_text, HasFirstBad, Refuses, Gives, IsAnswer, too_long, bad_line, refused, ran, IsOutput, bad_words, answered}
use Rattle.dg_top.specs.Runs.{WritesAll, WritesFront, WritesLess, Writes, TakesExactly, BadLineExactly, RefusedExactly, TooLongExactly, IsComplete}
use Rattle.dg_top.specs.Answers.{Answers, to_all, to_long}
use Rattle.dg_top.specs.Ends.{WritesFrontOf, Ends, all_written, sink_failed, memory_lacked, nothing_written}
use Rattle.dg_top.proofs.StreamLemmas.{appends_none}
use Rattle.dg_top.proofs.OutputLemmas.{only_output, has_answer, some_text, report_is_some, accepted_is_some}

-- ---- an answer is the one to the bytes that were left

over_limit : (xs taken ys : Bytes) → xs ≡ taken ++ ys → length taken ≡ document_limit + 1
    → document_limit < length xs
over_limit xs taken ys is count = omega (arith, ap length is, length-append taken ys)

taken_all : (bytes : Bytes) (left new_left : Option Bytes) (xs : Bytes)
    → Consumes left new_left bytes → IsAtEnd new_left → left ≡ Some xs → xs ≡ bytes
taken_all bytes None new_left xs taken end told = absurd cc
taken_all bytes (Some ys) None xs taken end told = absurd taken
taken_all bytes (Some ys) (Some rest) xs taken end told =
    let same : ys ≡ xs = cc in
    sym same ∙ taken ∙ ap (λ (z : Bytes). bytes ++ z) end ∙ append-nil bytes

taken_long : (left new_left : Option Bytes) (xs : Bytes)
    → TakesExactly (document_limit + 1) left new_left → left ≡ Some xs → document_limit < length xs
taken_long None new_left xs takes told = absurd cc
taken_long (Some ys) None xs takes told = absurd takes.1
taken_long (Some ys) (Some rest) xs takes told =
    let same : ys ≡ xs = cc in
    over_limit xs takes.0 rest (sym same ∙ takes.1) takes.2

answer_is : (command : Command) (left new_left : Option Bytes) (status : Status) (text xs : Bytes)
    → Answers command left new_left status text → left ≡ Some xs → IsAnswer command xs status text
answer_is command left new_left status text xs (to_all bytes taken end within answer) told = subst
    (λ (z : Bytes). IsAnswer command z status text) (sym (taken_all bytes left new_left xs taken end
    told)) answer
answer_is command left new_left status text xs (to_long takes) told = too_long (taken_long left
    new_left xs takes told)

-- ---- an answer has none of the statuses of a fault

IsDone : Status → Type 0
IsDone Ran = Unit {0}
IsDone BadLine = Unit {0}
IsDone TooLong = Unit {0}
IsDone Refused = Unit {0}
IsDone BadWords = ⊥
IsDone ReadFault = ⊥
IsDone WriteFault = ⊥
IsDone NoMemory = ⊥

is_done : (command : Command) (bytes : Bytes) (status : Status) (text : Bytes)
    → IsAnswer command bytes status text → IsDone status
unfolding IsDone
is_done command bytes status text (too_long over) = tt
is_done command bytes status text (bad_line n within first) = tt
is_done command bytes status text (refused within refuses) = tt
is_done command bytes status text (ran within gives) = tt

answer_done : (command : Command) (left new_left : Option Bytes) (status : Status) (text : Bytes)
    → Answers command left new_left status text → IsDone status
unfolding IsDone
answer_done command left new_left status text (to_all bytes taken end within answer) = is_done
    command bytes status text answer
answer_done command left new_left status text (to_long takes) = tt

done_isnt : (status other : Status) → IsDone status → (IsDone other → ⊥) → status ≡ other → ⊥
done_isnt status other done not same = not (subst IsDone same done)

not_done : (result : Status) → (result ≡ Ran) ⊎ (result ≡ Refused) ⊎ (result ≡ BadLine)
    → (result ≡ Ran → ⊥) → (result ≡ Refused → ⊥) → (result ≡ BadLine → ⊥) → ⊥
not_done result (inl same) a b c = a same
not_done result (inr (inl same)) a b c = b same
not_done result (inr (inr same)) a b c = c same

-- the source was read to its end
read_to_end : (command : Command) (left new_left : Option Bytes) (status : Status) (text : Bytes)
    → Answers command left new_left status text → (status ≡ Ran) ⊎ (status ≡ Refused) ⊎ (status ≡
    BadLine) → IsAtEnd new_left
read_to_end command left new_left status text (to_all bytes taken end within answer) done = end
read_to_end command left new_left status text (to_long takes) (inl same) = absurd (let e : TooLong ≡
    Ran = same in cc)
read_to_end command left new_left status text (to_long takes) (inr (inl same)) = absurd (let e :
    TooLong ≡ Refused = same in cc)
read_to_end command left new_left status text (to_long takes) (inr (inr same)) = absurd (let e :
    TooLong ≡ BadLine = same in cc)

-- ---- bytes

no_growth : (before text : Bytes) → 0 < length text → before ≡ before ++ text → ⊥
no_growth before text some same = absurd (omega (arith, ap length same, length-append before text))

not_whole : (before front rest : Bytes) → 0 < length rest
    → before ++ front ≡ before ++ (front ++ rest) → ⊥
not_whole before front rest some same =
    let cut : front ≡ front ++ rest = append_cancel_left before front (front ++ rest) same in
    absurd (omega (arith, ap length cut, length-append front rest))

-- the text was written to known bytes
appended_is : (old new : Option Bytes) (before text : Bytes) → old ≡ Some before
    → Appends old new text → new ≡ Some (before ++ text)
appended_is None new before text told appended = absurd cc
appended_is (Some z) None before text told appended = absurd appended
appended_is (Some z) (Some w) before text told appended =
    let same : z ≡ before = cc in
    ap (λ (v : Bytes). Some v) (appended ∙ ap (λ (v : Bytes). v ++ text) same)

some_is : (x y : Bytes) → Some x ≡ Some y → x ≡ y
some_is x y e = cc

-- ---- the statuses of an answer

bad_line_is : (command : Command) (bytes : Bytes) (status : Status) (text : Bytes)
    → IsAnswer command bytes status text → status ≡ BadLine
    → (n : ℕ) × (length bytes ≤ document_limit) × HasFirstBad command bytes n × (text ≡
    bad_line_text n)
bad_line_is command bytes status text (too_long over) same = absurd cc
bad_line_is command bytes status text (bad_line n within first) same = (n, within, first, refl)
bad_line_is command bytes status text (refused within refuses) same = absurd cc
bad_line_is command bytes status text (ran within gives) same = absurd cc

refused_is : (command : Command) (bytes : Bytes) (status : Status) (text : Bytes)
    → IsAnswer command bytes status text → status ≡ Refused
    → (length bytes ≤ document_limit) × Refuses command bytes text
refused_is command bytes status text (too_long over) same = absurd cc
refused_is command bytes status text (bad_line n within first) same = absurd cc
refused_is command bytes status text (refused within refuses) same = (within, refuses)
refused_is command bytes status text (ran within gives) same = absurd cc

within_isnt : (command : Command) (bytes : Bytes) (status : Status) (text : Bytes)
    → length bytes ≤ document_limit → IsAnswer command bytes status text → status ≡ TooLong → ⊥
within_isnt command bytes status text within (too_long over) same = absurd (omega arith)
within_isnt command bytes status text within (bad_line n less first) same = absurd cc
within_isnt command bytes status text within (refused less refuses) same = absurd cc
within_isnt command bytes status text within (ran less gives) same = absurd cc

long_taken : (command : Command) (left new_left : Option Bytes) (status : Status) (text : Bytes)
    → Answers command left new_left status text → status ≡ TooLong
    → TakesExactly (document_limit + 1) left new_left × (text ≡ too_long_text)
long_taken command left new_left status text (to_all bytes taken end within answer) same = absurd
    (within_isnt command bytes status text within answer same)
long_taken command left new_left status text (to_long takes) same = (takes, refl)

-- ---- words that ask for nothing

module _ (p : Program) (words : List Bytes) (none : HasNoWords p words) where
  pub writes_no_words : (left old : Option Bytes) → Writes p words left old old BadWords
  writes_no_words None old = tt
  writes_no_words (Some bytes) old = ([], bad_words none, appends_none old)

  pub bad_line_no_words : (left old new : Option Bytes)
      → BadLineExactly p words left old new BadWords
  bad_line_no_words left old new bytes before told known = (
    λ same. absurd (let e : BadWords ≡
        BadLine = same in cc),
    λ line. absurd (none line.0 line.2),
  )

  pub refused_no_words : (left old new : Option Bytes)
      → RefusedExactly p words left old new BadWords
  refused_no_words left old new bytes before told known = (
    λ same. absurd (let e : BadWords ≡
        Refused = same in cc),
    λ is. absurd (none is.0 is.2),
  )

  pub too_long_no_words : (left new_left old new : Option Bytes)
      → TooLongExactly p words left new_left old new BadWords
  too_long_no_words left new_left old new bytes before told known = (
    λ same. absurd (let e :
        BadWords ≡ TooLong = same in cc),
    λ long. absurd (none long.0 long.1),
  )

  pub complete_no_words : (left : Option Bytes) (a b c d : ℕ)
      → IsComplete p words left a b c d BadWords
  complete_no_words left a b c d bytes text status told no_read no_write output =
      inl (sym (only_output p words bytes BadWords status [] text (bad_words none) output).0)

-- ---- a run whose words ask for a command

-- nothing was written, since the source failed or memory lacked
abbrev WritesNothing : Status → Type 0 → Type 0
WritesNothing status C = ((status ≡ ReadFault) × C) ⊎ (status ≡ NoMemory)

writes_done : (p : Program) (words : List Bytes) (bytes : Bytes) (old new : Option Bytes) (status :
    Status) → IsDone status → WritesAll p words bytes old new status
    → Writes p words (Some bytes) old new status
unfolding IsDone
writes_done p words bytes old new Ran done all = all
writes_done p words bytes old new BadLine done all = all
writes_done p words bytes old new TooLong done all = all
writes_done p words bytes old new Refused done all = all
writes_done p words bytes old new BadWords done all = absurd done
writes_done p words bytes old new ReadFault done all = absurd done
writes_done p words bytes old new WriteFault done all = absurd done
writes_done p words bytes old new NoMemory done all = absurd done

is_neither : (status : Status) (C : Type 0) (other : Status) → WritesNothing status C
    → status ≡ other → (other ≡ ReadFault → ⊥) → (other ≡ NoMemory → ⊥) → ⊥
is_neither status C other (inl read) same one two = one (sym same ∙ read.0)
is_neither status C other (inr memory) same one two = two (sym same ∙ memory)

-- nothing is a front of a text that has a byte
nothing_of : (p : Program) (words : List Bytes) (bytes : Bytes) (old new : Option Bytes) (status :
    Status) (text : Bytes) → IsOutput p words bytes status text → 0 < length text
    → Appends old new [] → WritesLess p words bytes old new
nothing_of p words bytes old new status text output some written = inl (
  status,
  text,
  0,
  output,
  some,
  written,
)

-- a printed or planned text is empty, or nothing is a front of it
printed_less : (p : Program) (words : List Bytes) (bytes : Bytes) (old new : Option Bytes) (text :
    Bytes) → AsksFor p words Print → IsAnswer Print bytes Ran text → Appends old new []
    → WritesLess p words bytes old new
printed_less p words bytes old new [] asks answer written = inr (inl (asks, answer, written))
printed_less p words bytes old new (b ∷ text) asks answer written =
    nothing_of p words bytes old new Ran (b ∷ text) (answered Print asks answer) (omega arith)
    written

planned_less : (p : Program) (words : List Bytes) (bytes : Bytes) (old new : Option Bytes) (text :
    Bytes) → AsksFor p words Plan → IsAnswer Plan bytes Ran text → Appends old new []
    → WritesLess p words bytes old new
planned_less p words bytes old new [] asks answer written = inr (inr (asks, answer, written))
planned_less p words bytes old new (b ∷ text) asks answer written =
    nothing_of p words bytes old new Ran (b ∷ text) (answered Plan asks answer) (omega arith)
    written

given_less : (p : Program) (words : List Bytes) (command : Command) (bytes : Bytes) (old new :
    Option Bytes) (text : Bytes) → AsksFor p words command → length bytes ≤ document_limit
    → Gives command bytes text → Appends old new [] → WritesLess p words bytes old new
given_less p words Run bytes old new text asks within gives written = nothing_of p words bytes old
    new Ran text (answered Run asks (ran within gives)) (report_is_some bytes text gives) written
given_less p words Check bytes old new text asks within gives written = nothing_of p words bytes old
    new Ran text (answered Check asks (ran within gives)) (accepted_is_some bytes text gives)
    written
given_less p words Print bytes old new text asks within gives written = printed_less p words bytes
    old new text asks (ran within gives) written
given_less p words Plan bytes old new text asks within gives written = planned_less p words bytes
    old new text asks (ran within gives) written

-- a front of a text, as so many of its bytes
front_taken : (text : Bytes) (old new : Option Bytes) → WritesFrontOf text old new
    → (n : ℕ) × (n < length text) × Appends old new (take n text)
front_taken text old new f = (
  length f.front,
  omega (arith, ap length f.is_text, length-append f.front f.rest, f.some),
  subst (Appends old new) (sym (ap (take (length f.front)) f.is_text
      ∙ take-append_seam f.front f.rest)) f.written,
)

module _ (p : Program) (words : List Bytes) (command : Command) (asks : AsksFor p words command)
  where
    output_is : (left new_left : Option Bytes) (status : Status) (text xs : Bytes)
        → Answers command left new_left status text → left ≡ Some xs → IsOutput p words xs status text
    output_is left new_left status text xs answers told = answered command asks (answer_is command
        left new_left status text xs answers told)

    -- the one output
    same_output : (bytes : Bytes) (s t : Status) (x y : Bytes) → IsOutput p words bytes s x
        → IsOutput p words bytes t y → (t ≡ s) × (y ≡ x)
    same_output bytes s t x y one other = only_output p words bytes s t x y one other

    -- ---- what is written

    writes_all : (bytes : Bytes) (new_left old new : Option Bytes) (status : Status) (text : Bytes)
        → Answers command (Some bytes) new_left status text → Appends old new text
        → Writes p words (Some bytes) old new status
    writes_all bytes new_left old new status text answers appended =
        writes_done p words bytes old new status (answer_done command (Some bytes) new_left status
        text answers) (
          text,
          output_is (Some bytes) new_left status text bytes answers refl,
          appended,
        )

    writes_front : (bytes : Bytes) (new_left old new : Option Bytes) (status : Status) (text : Bytes)
        → Answers command (Some bytes) new_left status text → WritesFrontOf text old new
        → WritesFront p words bytes old new
    writes_front bytes new_left old new status text answers front =
        let taken = front_taken text old new front in (
          status,
          text,
          taken.0,
          output_is (Some bytes) new_left status text bytes answers refl,
          taken.1,
          taken.2,
        )

    some_less : (bytes : Bytes) (old new : Option Bytes) (status : Status) (text : Bytes)
        → IsAnswer command bytes status text → (status ≡ Ran → ⊥) → Appends old new []
        → WritesLess p words bytes old new
    some_less bytes old new status text answer isnt written = nothing_of p words bytes old new status
        text (answered command asks answer) (some_text command bytes status text answer isnt) written

    answer_less : (bytes : Bytes) (old new : Option Bytes) (status : Status) (text : Bytes)
        → IsAnswer command bytes status text → Appends old new [] → WritesLess p words bytes old new
    answer_less bytes old new status text (too_long over) written = some_less bytes old new TooLong
        too_long_text (too_long over) (λ e. absurd cc) written
    answer_less bytes old new status text (bad_line n within first) written = some_less bytes old new
        BadLine (bad_line_text n) (bad_line n within first) (λ e. absurd cc) written
    answer_less bytes old new status text (refused {text = z} within refuses) written = some_less
        bytes old new Refused z (refused within refuses) (λ e. absurd cc) written
    answer_less bytes old new status text (ran {text = z} within gives) written = given_less p words
        command bytes old new z asks within gives written

    less_than_all : (bytes : Bytes) (old new : Option Bytes) → Appends old new []
        → WritesLess p words bytes old new
    less_than_all bytes old new written =
        let one = has_answer command bytes in
        answer_less bytes old new one.0 one.1 one.2 written

    pub writes_nothing : (left old : Option Bytes) (status : Status) (C : Type 0)
        → WritesNothing status C → Writes p words left old old status
    writes_nothing None old status C cause = tt
    writes_nothing (Some bytes) old status C (inl read) = subst (λ (s : Status). Writes p words (Some
        bytes) old old s) (sym read.0) (appends_none old)
    writes_nothing (Some bytes) old status C (inr memory) = subst (λ (s : Status). Writes p words
        (Some bytes) old old s) (sym memory) (less_than_all bytes old old (appends_none old))

    -- ---- exactly when: the whole text was written

    bad_line_written : (left new_left old new : Option Bytes) (status : Status) (text : Bytes)
        → Answers command left new_left status text → Appends old new text
        → BadLineExactly p words left old new status
    bad_line_written left new_left old new status text answers appended bytes before told known =
        let answer = answer_is command left new_left status text bytes answers told in (
          λ same. (let line = bad_line_is command bytes status text answer same in (
            command,
            line.0,
            asks,
            line.1,
            line.2,
            appended_is old new before text known appended
                ∙ ap (λ (v : Bytes). Some (before ++ v)) line.3,
          )),
          λ line. sym (same_output bytes status BadLine text (bad_line_text line.1) (answered command
              asks answer) (answered line.0 line.2 (bad_line line.1 line.3 line.4))).0,
        )

    refused_written : (left new_left old new : Option Bytes) (status : Status) (text : Bytes)
        → Answers command left new_left status text → Appends old new text
        → RefusedExactly p words left old new status
    refused_written left new_left old new status text answers appended bytes before told known =
        let answer = answer_is command left new_left status text bytes answers told in (
          λ same. (let is = refused_is command bytes status text answer same in (
            command,
            text,
            asks,
            is.0,
            is.1,
            appended_is old new before text known appended,
          )),
          λ is. sym (same_output bytes status Refused text is.1 (answered command asks answer)
              (answered is.0 is.2 (refused is.3 is.4))).0,
        )

    too_long_written : (left new_left old new : Option Bytes) (status : Status) (text : Bytes)
        → Answers command left new_left status text → Appends old new text
        → TooLongExactly p words left new_left old new status
    too_long_written left new_left old new status text answers appended bytes before told known =
        let output = output_is left new_left status text bytes answers told in (
          λ same. (let long = long_taken command left new_left status text answers same in (
            command,
            asks,
            long.0,
            appended_is old new before text known appended
                ∙ ap (λ (v : Bytes). Some (before ++ v)) long.1,
          )),
          λ long. sym (same_output bytes status TooLong text too_long_text output (answered command
              asks (too_long (taken_long left new_left bytes long.2 told)))).0,
        )

    -- ---- exactly when: nothing was written

    module _ (left new_left old new : Option Bytes) (written : Appends old new []) (status : Status)
        (C : Type 0) (cause : WritesNothing status C) where
      nothing_is : (before text : Bytes) → old ≡ Some before → 0 < length text
          → new ≡ Some (before ++ text) → ⊥
      nothing_is before text known some whole =
          no_growth before text some (sym (append-nil before)
          ∙ some_is (before ++ []) (before ++ text) (sym (appended_is old new before [] known
          written) ∙ whole))

      pub bad_line_unwritten : BadLineExactly p words left old new status
      bad_line_unwritten bytes before told known = (
        λ same. absurd (is_neither status C BadLine cause same (λ e. absurd cc) (λ e. absurd cc)),
        λ line. (let text : Bytes = bad_line_text line.1 in
            absurd (nothing_is before text known (some_text line.0 bytes BadLine text (bad_line line.1
            line.3 line.4) (λ e. absurd cc)) line.5)),
      )

      pub refused_unwritten : RefusedExactly p words left old new status
      refused_unwritten bytes before told known = (
        λ same. absurd (is_neither status C Refused cause same (λ e. absurd cc) (λ e. absurd cc)),
        λ is. absurd (nothing_is before is.1 known (some_text is.0 bytes Refused is.1 (refused is.3
            is.4) (λ e. absurd cc)) is.5),
      )

      pub too_long_unwritten : TooLongExactly p words left new_left old new status
      too_long_unwritten bytes before told known = (
        λ same. absurd (is_neither status C TooLong cause same (λ e. absurd cc) (λ e. absurd cc)),
        λ long. absurd (nothing_is before too_long_text known (some_text command bytes TooLong
            too_long_text (too_long (taken_long left new_left bytes long.2 told)) (λ e. absurd cc))
            long.3),
      )

    -- ---- exactly when: a front of the text was written, and it isn't all of the output

    front_isnt : (bytes before : Bytes) (old new : Option Bytes) (status other : Status) (text
        other_text : Bytes) → IsOutput p words bytes status text
        → IsOutput p words bytes other other_text → WritesFrontOf text old new
        → old ≡ Some before → new ≡ Some (before ++ other_text) → ⊥
    front_isnt bytes before old new status other text other_text output same f known whole =
        let one : other_text ≡ f.front ++ f.rest = (same_output bytes status other text other_text
        output same).1 ∙ f.is_text in
        let is : Some (before ++ f.front) ≡ Some (before ++ other_text) = sym (appended_is old new
        before f.front known f.written) ∙ whole in
        not_whole before f.front f.rest f.some (some_is (before ++ f.front) (before ++ other_text) is
        ∙ ap (λ (z : Bytes). before ++ z) one)

    -- a run that stops early has one of these statuses
    abbrev StopsAs : Status → Type 0
    StopsAs result = (result ≡ WriteFault) ⊎ (result ≡ NoMemory)

    stops_isnt : (result other : Status) → StopsAs result → result ≡ other → (other ≡ WriteFault
        → ⊥) → (other ≡ NoMemory → ⊥) → ⊥
    stops_isnt result other (inl fault) same one two = one (sym same ∙ fault)
    stops_isnt result other (inr memory) same one two = two (sym same ∙ memory)

    module _ (left new_left old new : Option Bytes) (status : Status) (text : Bytes) (answers :
        Answers command left new_left status text) (front : WritesFrontOf text old new) (result :
        Status) (stops : StopsAs result) where
      bad_line_front : BadLineExactly p words left old new result
      bad_line_front bytes before told known =
          let output = output_is left new_left status text bytes answers told in (
            λ same. absurd (stops_isnt result BadLine stops same (λ e. absurd cc) (λ e. absurd cc)),
            λ line. absurd (front_isnt bytes before old new status BadLine text (bad_line_text line.1)
                output (answered line.0 line.2 (bad_line line.1 line.3 line.4)) front known line.5),
          )

      refused_front : RefusedExactly p words left old new result
      refused_front bytes before told known =
          let output = output_is left new_left status text bytes answers told in (
            λ same. absurd (stops_isnt result Refused stops same (λ e. absurd cc) (λ e. absurd cc)),
            λ is. absurd (front_isnt bytes before old new status Refused text is.1 output (answered
                is.0 is.2 (refused is.3 is.4)) front known is.5),
          )

      too_long_front : TooLongExactly p words left new_left old new result
      too_long_front bytes before told known =
          let output = output_is left new_left status text bytes answers told in (
            λ same. absurd (stops_isnt result TooLong stops same (λ e. absurd cc) (λ e. absurd cc)),
            λ long. absurd (front_isnt bytes before old new status TooLong text too_long_text output
                (answered command asks (too_long (taken_long left new_left bytes long.2 told))) front
                known long.3),
          )

    -- ---- a run that has an answer to give

    abbrev EndsWith : Option Bytes → Option Bytes → Option Bytes → Option Bytes → ℕ → ℕ → Status
        → Type 0
    EndsWith left new_left old new faults new_faults result = Ends (Answers command left new_left) old
        new faults new_faults result

    pub writes_ended : (left new_left old new : Option Bytes) (faults new_faults : ℕ) (result :
        Status) → EndsWith left new_left old new faults new_faults result
        → Writes p words left old new result
    writes_ended None new_left old new faults new_faults result ends = tt
    writes_ended (Some bytes) new_left old new faults new_faults result (all_written s text answers
        written kept) = writes_all bytes new_left old new s text answers written
    writes_ended (Some bytes) new_left old new faults new_faults result (sink_failed s text answers
        front rose) = writes_front bytes new_left old new s text answers front
    writes_ended (Some bytes) new_left old new faults new_faults result (memory_lacked s text answers
        front kept) = inl (writes_front bytes new_left old new s text answers front)
    writes_ended (Some bytes) new_left old new faults new_faults result (nothing_written written kept)
        = less_than_all bytes old new written

    pub bad_line_ended : (left new_left old new : Option Bytes) (faults new_faults : ℕ) (result :
        Status) → EndsWith left new_left old new faults new_faults result
        → BadLineExactly p words left old new result
    bad_line_ended left new_left old new faults new_faults result (all_written s text answers written
        kept) = bad_line_written left new_left old new s text answers written
    bad_line_ended left new_left old new faults new_faults result (sink_failed s text answers front
        rose) = bad_line_front left new_left old new s text answers front WriteFault (inl refl)
    bad_line_ended left new_left old new faults new_faults result (memory_lacked s text answers front
        kept) = bad_line_front left new_left old new s text answers front NoMemory (inr refl)
    bad_line_ended left new_left old new faults new_faults result (nothing_written written kept) =
        bad_line_unwritten left new_left old new written NoMemory (Unit {0}) (inr refl)

    pub refused_ended : (left new_left old new : Option Bytes) (faults new_faults : ℕ) (result :
        Status) → EndsWith left new_left old new faults new_faults result
        → RefusedExactly p words left old new result
    refused_ended left new_left old new faults new_faults result (all_written s text answers written
        kept) = refused_written left new_left old new s text answers written
    refused_ended left new_left old new faults new_faults result (sink_failed s text answers front
        rose) = refused_front left new_left old new s text answers front WriteFault (inl refl)
    refused_ended left new_left old new faults new_faults result (memory_lacked s text answers front
        kept) = refused_front left new_left old new s text answers front NoMemory (inr refl)
    refused_ended left new_left old new faults new_faults result (nothing_written written kept) =
        refused_unwritten left new_left old new written NoMemory (Unit {0}) (inr refl)

    pub too_long_ended : (left new_left old new : Option Bytes) (faults new_faults : ℕ) (result :
        Status) → EndsWith left new_left old new faults new_faults result
        → TooLongExactly p words left new_left old new result
    too_long_ended left new_left old new faults new_faults result (all_written s text answers written
        kept) = too_long_written left new_left old new s text answers written
    too_long_ended left new_left old new faults new_faults result (sink_failed s text answers front
        rose) = too_long_front left new_left old new s text answers front WriteFault (inl refl)
    too_long_ended left new_left old new faults new_faults result (memory_lacked s text answers front
        kept) = too_long_front left new_left old new s text answers front NoMemory (inr refl)
    too_long_ended left new_left old new faults new_faults result (nothing_written written kept) =
        too_long_unwritten left new_left old new written NoMemory (Unit {0}) (inr refl)

    pub complete_ended : (left new_left old new : Option Bytes) (faults new_faults a b : ℕ) (result :
        Status) → EndsWith left new_left old new faults new_faults result
        → IsComplete p words left a b faults new_faults result
    complete_ended left new_left old new faults new_faults a b result (all_written s text answers
        written kept) bytes other_text other told no_read no_write output =
        inl (sym (same_output bytes s other text other_text (output_is left new_left s text bytes
        answers told) output).0)
    complete_ended left new_left old new faults new_faults a b result (sink_failed s text answers
        front rose) bytes other_text other told no_read no_write output = absurd (no_write rose)
    complete_ended left new_left old new faults new_faults a b result (memory_lacked s text answers
        front kept) bytes other_text other told no_read no_write output = inr refl
    complete_ended left new_left old new faults new_faults a b result (nothing_written written kept)
        bytes other_text other told no_read no_write output = inr refl

-- ---- which status a run ends with that has an answer to give

module _ (command : Command) (left new_left old new : Option Bytes) (faults new_faults : ℕ) where
  abbrev EndsSo : Status → Type 0
  EndsSo result = Ends (Answers command left new_left) old new faults new_faults result

  pub ended_to_end : (result : Status) → EndsSo result
      → (result ≡ Ran) ⊎ (result ≡ Refused) ⊎ (result ≡ BadLine) → IsAtEnd new_left
  ended_to_end result (all_written s text answers written kept) done = read_to_end command left
      new_left s text answers done
  ended_to_end result (sink_failed s text answers front rose) done = absurd (not_done WriteFault
      done (λ e. absurd cc) (λ e. absurd cc) (λ e. absurd cc))
  ended_to_end result (memory_lacked s text answers front kept) done = absurd (not_done NoMemory
      done (λ e. absurd cc) (λ e. absurd cc) (λ e. absurd cc))
  ended_to_end result (nothing_written written kept) done = absurd (not_done NoMemory done (λ e.
      absurd cc) (λ e. absurd cc) (λ e. absurd cc))

  pub not_bad_words : (result : Status) → EndsSo result → result ≡ BadWords → ⊥
  unfolding IsDone
  not_bad_words result (all_written s text answers written kept) same = done_isnt s BadWords
      (answer_done command left new_left s text answers) (λ h. h) same
  not_bad_words result (sink_failed s text answers front rose) same = absurd cc
  not_bad_words result (memory_lacked s text answers front kept) same = absurd cc
  not_bad_words result (nothing_written written kept) same = absurd cc

  pub not_read_fault : (result : Status) → EndsSo result → result ≡ ReadFault → ⊥
  unfolding IsDone
  not_read_fault result (all_written s text answers written kept) same = done_isnt s ReadFault
      (answer_done command left new_left s text answers) (λ h. h) same
  not_read_fault result (sink_failed s text answers front rose) same = absurd cc
  not_read_fault result (memory_lacked s text answers front kept) same = absurd cc
  not_read_fault result (nothing_written written kept) same = absurd cc

  pub fault_rose : (result : Status) → EndsSo result → result ≡ WriteFault → Rose faults new_faults
  unfolding IsDone
  fault_rose result (all_written s text answers written kept) same = absurd (done_isnt s WriteFault
      (answer_done command left new_left s text answers) (λ h. h) same)
  fault_rose result (sink_failed s text answers front rose) same = rose
  fault_rose result (memory_lacked s text answers front kept) same = absurd cc
  fault_rose result (nothing_written written kept) same = absurd cc

  pub faults_kept : (result : Status) → EndsSo result → (result ≡ WriteFault → ⊥)
      → new_faults ≡ faults
  faults_kept result (all_written s text answers written kept) isnt = kept
  faults_kept result (sink_failed s text answers front rose) isnt = absurd (isnt refl)
  faults_kept result (memory_lacked s text answers front kept) isnt = kept
  faults_kept result (nothing_written written kept) isnt = kept
