-- The lines of replies, one after the other, and what a report is.
use Rattle.std.proofs.Common.{◌≡◌, ◌≤◌, ◌<◌, ◌+◌, ◌^◌, ℕ, zero, suc, List, [], ◌∷◌, ◌++◌, length, map, take, drop, filter_map, Contains, Option, Some, None, refl, sym, ap, subst, ◌∙◌, arith, append_assoc}
use Rattle.std.specs.Prelude.{slice_get, codes, decimal}
use Rattle.std.specs.Io.KnownBytes.{Appends}
use Rattle.std.specs.List.{enumerate_from, cons_option}
use Rattle.std.proofs.Math.Seq.{take-suc}
use Rattle.std.proofs.lemmas.List.{append-nil, length-append, length-drop, length-map, take_all, take-append-drop}
use Rattle.std.proofs.lemmas.List.FromFn.{length-enumerate_from}
use Rattle.std.proofs.lemmas.Option.{slice_get_within, get_or_from_slice_get}
use Rattle.dg_decl.proofs.MemberLemmas.{in_got}
use Rattle.dg_lex.specs.Bytes.{Bytes, line_end}
use Rattle.dg_decl.specs.declared.document.Doc.{Doc}
use Rattle.dg_decl.specs.declared.item.Item.{Item}
use Rattle.dg_decl.specs.Bounds.{IsBounded}
use Rattle.dg_decl.specs.Document.{statements, statements_from, open_behind}
use Rattle.dg_slots.specs.declared.session.Ask.{Ask}
use Rattle.dg_slots.specs.Sessions.{ask_of, asks_of}
use Rattle.dg_value.specs.declared.place.Place.{Place}
use Rattle.dg_value.specs.declared.value.Reply.{Reply}
use Rattle.dg_eval.specs.Asks.{answer_to, numbered_asks, cells}
use Rattle.dg_eval.specs.Report.{reply_line, ask_line, lines_of, cells_line, report}
use Rattle.dg_top.specs.Ends.{WritesFrontOf}
use Rattle.dg_top.specs.Progress.{first_asks, first_lines, AreLinesBetween}
use Rattle.dg_top.proofs.StreamLemmas.{appends_none, appends_then}

-- ---- lines behind lines

lines_append : (doc : Doc) (xs ys : List (ℕ × Ask)) (seen : List Place)
    → ((lines_of doc (xs ++ ys) seen).text ≡ (lines_of doc xs seen).text ++ (lines_of doc ys
    (lines_of doc xs seen).seen).text)
    × ((lines_of doc (xs ++ ys) seen).seen ≡ (lines_of doc ys (lines_of doc xs seen).seen).seen)
lines_append doc [] ys seen = (refl, refl)
lines_append doc (x ∷ xs) ys seen =
    let first = ask_line doc x seen in
    let rest = lines_append doc xs ys first.seen in (
      ap (λ (t : Bytes). first.text ++ t) rest.0 ∙ sym (append_assoc first.text (lines_of doc xs
          first.seen).text (lines_of doc ys (lines_of doc xs first.seen).seen).text),
      rest.1,
    )

-- the line of one ask
one_line : (doc : Doc) (p : ℕ × Ask) (r : Reply) (seen : List Place)
    → answer_to doc p.0 p.1 ≡ Some r
    → ((lines_of doc (p ∷ []) seen).text ≡ (reply_line doc p.0 r seen).text)
    × ((lines_of doc (p ∷ []) seen).seen ≡ (reply_line doc p.0 r seen).seen)
one_line doc p r seen is = rw is (append-nil (reply_line doc p.0 r seen).text, refl)

-- ---- the first asks

-- an ask with its number, counted from 1
abbrev with_number : ℕ × Ask → ℕ × Ask
with_number p = (suc p.0, p.1)

abbrev at_number : Ask → ℕ → Option (ℕ × Ask)
at_number a n = Some (suc n, a)

got_numbered : (k n : ℕ) (xs : List Ask) (a : Ask) → slice_get xs n ≡ Some a
    → slice_get (map with_number (enumerate_from k xs)) n ≡ Some (suc (k + n), a)
got_numbered k n [] a e = absurd (let none : None ≡ Some a = e in cc)
got_numbered k zero (x ∷ xs) a e =
    let same : k + 0 ≡ k = omega arith in
    rw same (ap (λ (o : Option Ask). option_pair k o) e)
  where
    option_pair : ℕ → Option Ask → Option (ℕ × Ask)
    option_pair k None = None
    option_pair k (Some b) = Some (suc k, b)
got_numbered k (suc n) (x ∷ xs) a e =
    let same : k + 1 + n ≡ k + suc n = omega arith in
    rw (sym same) (got_numbered (k + 1) n xs a e)

module _ (doc : Doc) (n : ℕ) (a : Ask) (is : slice_get (asks_of doc) n ≡ Some a) where
  numbered : slice_get (numbered_asks doc) n ≡ Some (suc n, a)
  numbered =
      let same : 0 + n ≡ n = omega arith in
      got_numbered 0 n (asks_of doc) a is ∙ ap (at_number a) same

  pub is_numbered : Contains (numbered_asks doc) (suc n, a)
  is_numbered = in_got (numbered_asks doc) n (suc n, a) numbered

  pub one_more : first_asks doc (suc n) ≡ first_asks doc n ++ (suc n, a) ∷ []
  one_more =
      take-suc (numbered_asks doc) n (suc n, a) (slice_get_within (numbered_asks doc) n (suc n, a)
      numbered)
      ∙ ap (λ (p : ℕ × Ask). first_asks doc n ++ p ∷ []) (get_or_from_slice_get (numbered_asks doc)
      n (suc n, a) (suc n, a) numbered)

  next_lines : (first_lines doc (suc n)).text ≡ (first_lines doc n).text ++ (lines_of doc ((
    suc n,
    a,
  ) ∷ []) (first_lines doc n).seen).text
  unfolding first_lines
  next_lines = rw one_more (lines_append doc (first_asks doc n) ((suc n, a) ∷ []) []).0

  next_seen : (first_lines doc (suc n)).seen ≡ (lines_of doc ((suc n, a) ∷ []) (first_lines doc
      n).seen).seen
  unfolding first_lines
  next_seen = rw one_more (lines_append doc (first_asks doc n) ((suc n, a) ∷ []) []).1

  pub line_more : (r : Reply) (line : Bytes) → answer_to doc (suc n) a ≡ Some r
      → line ≡ (reply_line doc (suc n) r (first_lines doc n).seen).text
      → AreLinesBetween doc n (suc n) line
  line_more r line answer text =
      next_lines ∙ ap (λ (t : Bytes). (first_lines doc n).text ++ t) ((one_line doc (suc n, a) r
      (first_lines doc n).seen answer).0 ∙ sym text)

  pub seen_more : (r : Reply) (seen : List Place) → answer_to doc (suc n) a ≡ Some r
      → seen ≡ (reply_line doc (suc n) r (first_lines doc n).seen).seen
      → seen ≡ (first_lines doc (suc n)).seen
  seen_more r seen answer is = is ∙ sym ((one_line doc (suc n, a) r (first_lines doc n).seen
      answer).1) ∙ sym next_seen

pub no_lines : (doc : Doc) (n : ℕ) → AreLinesBetween doc n n []
no_lines doc n = sym (append-nil (first_lines doc n).text)

pub lines_then : (doc : Doc) (a b c : ℕ) (x y : Bytes) → AreLinesBetween doc a b x
    → AreLinesBetween doc b c y → AreLinesBetween doc a c (x ++ y)
lines_then doc a b c x y first second = second ∙ ap (λ (t : Bytes). t ++ y) first
    ∙ append_assoc (first_lines doc a).text x y

pub nothing_seen : (doc : Doc) → [] ≡ (first_lines doc 0).seen
unfolding first_lines
nothing_seen doc = refl

-- ---- the report

ends_some : (front : Bytes) (b : ℕ) → 0 < length (front ++ b ∷ [])
ends_some front b = omega (arith, length-append front (b ∷ []))

some_count : (n : ℕ) → 0 < length (cells_line n)
some_count n = omega (
  arith,
  length-append (codes "cells ") (decimal n ++ line_end ∷ []),
  ends_some
      (decimal n) line_end,
)

pub all_asks : (doc : Doc) → first_asks doc (length (asks_of doc)) ≡ numbered_asks doc
all_asks doc =
    take_all (length (asks_of doc)) (numbered_asks doc)
    (omega (
      arith,
      length-map (enumerate_from 0 (asks_of doc)) with_number,
      length-enumerate_from 0
          (asks_of doc),
    ))

pub report_is : (doc : Doc) → report doc ≡ (first_lines doc (length (asks_of doc))).text ++
    cells_line (length (cells doc))
unfolding report first_lines
report_is doc = ap (λ (xs : List (ℕ × Ask)). (lines_of doc xs []).text ++ cells_line (length (cells
    doc))) (sym (all_asks doc))

-- what a report has behind the lines of the first so many replies
rest_behind : (doc : Doc) (n : ℕ) → Bytes
rest_behind doc n = (lines_of doc (drop n (numbered_asks doc)) (first_lines doc n).seen).text ++
    cells_line (length (cells doc))

report_parts : (doc : Doc) (n : ℕ) → report doc ≡ (first_lines doc n).text ++ rest_behind doc n
unfolding report first_lines rest_behind
report_parts doc n =
    let count : Bytes = cells_line (length (cells doc)) in
    let front : Bytes = (first_lines doc n).text in
    let back : Bytes = (lines_of doc (drop n (numbered_asks doc)) (first_lines doc n).seen).text in
    ap (λ (xs : List (ℕ × Ask)). (lines_of doc xs []).text ++ count) (sym (take-append-drop n
    (numbered_asks doc)))
    ∙ ap (λ (t : Bytes). t ++ count) (lines_append doc (first_asks doc n) (drop n (numbered_asks
    doc)) []).0
    ∙ append_assoc front back count

some_behind : (doc : Doc) (n : ℕ) → 0 < length (rest_behind doc n)
unfolding rest_behind
some_behind doc n =
    let back : Bytes = (lines_of doc (drop n (numbered_asks doc)) (first_lines doc n).seen).text in
    omega (
      arith,
      length-append back (cells_line (length (cells doc))),
      some_count (length (cells
          doc)),
    )

-- ---- fronts of the report

pub front_of_report : (doc : Doc) (n : ℕ) (old new : Option Bytes)
    → Appends old new (first_lines doc n).text → WritesFrontOf (report doc) old new
front_of_report doc n old new written = record {
  front = (first_lines doc n).text;
  rest = rest_behind doc n;
  is_text = report_parts doc n;
  some = some_behind doc n;
  written = written;
}

-- nothing of it
pub some_report : (doc : Doc) → 0 < length (report doc)
some_report doc = omega (
  arith,
  ap length (report_is doc),
  length-append (first_lines doc (length
      (asks_of doc))).text (cells_line (length (cells doc))),
  some_count (length (cells doc)),
)

-- a front of the lines that come next
pub front_of_lines : (doc : Doc) (from to k : ℕ) (text : Bytes) (old middle new : Option Bytes)
    → AreLinesBetween doc from to text → k < length text
    → Appends old middle (first_lines doc from).text → Appends middle new (take k text)
    → WritesFrontOf (report doc) old new
front_of_lines doc from to k text old middle new lines less first written =
    let start : Bytes = (first_lines doc from).text in
    let more : Bytes = drop k text ++ rest_behind doc to in
    record {
      front = start ++ take k text;
      rest = more;
      is_text = report_parts doc to ∙ ap (λ (t : Bytes). t ++ rest_behind doc to) lines
          ∙ append_assoc start text (rest_behind doc to)
          ∙ ap (λ (t : Bytes). start ++ (t ++ rest_behind doc to)) (sym (take-append-drop k text))
          ∙ ap (λ (t : Bytes). start ++ t) (append_assoc (take k text) (drop k text) (rest_behind
          doc to))
          ∙ sym (append_assoc start (take k text) more);
      some = omega (arith, length-append (drop k text) (rest_behind doc to), some_behind doc to);
      written = appends_then old middle new start (take k text) first written;
    }

-- a front of the last line
pub front_of_count : (doc : Doc) (n k : ℕ) (line : Bytes) (old middle new : Option Bytes)
    → n ≡ length (asks_of doc) → line ≡ cells_line (length (cells doc)) → k < length line
    → Appends old middle (first_lines doc n).text → Appends middle new (take k line)
    → WritesFrontOf (report doc) old new
front_of_count doc n k line old middle new is count less first written =
    let start : Bytes = (first_lines doc n).text in
    let whole : report doc ≡ start ++ line = report_is doc
    ∙ ap (λ (m : ℕ). (first_lines doc m).text ++ cells_line (length (cells doc))) (sym is)
    ∙ ap (λ (t : Bytes). start ++ t) (sym count) in
    record {
      front = start ++ take k line;
      rest = drop k line;
      is_text = whole ∙ ap (λ (t : Bytes). start ++ t) (sym (take-append-drop k line))
          ∙ sym (append_assoc start (take k line) (drop k line));
      some = omega (arith, less, length-drop k line);
      written = appends_then old middle new start (take k line) first written;
    }

pub whole_report : (doc : Doc) (n : ℕ) (line : Bytes) (old middle new : Option Bytes)
    → n ≡ length (asks_of doc) → line ≡ cells_line (length (cells doc))
    → Appends old middle (first_lines doc n).text → Appends middle new line
    → Appends old new (report doc)
whole_report doc n line old middle new is count first written =
    let start : Bytes = (first_lines doc n).text in
    let whole : report doc ≡ start ++ line = report_is doc
    ∙ ap (λ (m : ℕ). (first_lines doc m).text ++ cells_line (length (cells doc))) (sym is)
    ∙ ap (λ (t : Bytes). start ++ t) (sym count) in
    subst (Appends old new) (sym whole) (appends_then old middle new start line first written)

pub lines_written : (doc : Doc) (from to : ℕ) (text : Bytes) (old middle new : Option Bytes)
    → AreLinesBetween doc from to text → Appends old middle (first_lines doc from).text
    → Appends middle new text → Appends old new (first_lines doc to).text
lines_written doc from to text old middle new lines first written =
    subst (Appends old new) (sym lines) (appends_then old middle new (first_lines doc from).text
    text first written)

pub none_written : (doc : Doc) (old : Option Bytes) → Appends old old (first_lines doc 0).text
unfolding first_lines
none_written doc old = appends_none old

-- ---- how many asks there are

statement_count : (doc : Doc) (k : ℕ) (block : Option ℕ) (xs : List Item)
    → length (statements_from doc k block xs) ≡ length xs
statement_count doc k block [] = refl
statement_count doc k block (x ∷ xs) = ap suc (statement_count doc (suc k) (open_behind block k x)
    xs)

given_count : {A B : Type 0} (f : A → Option B) (xs : List A) → length (filter_map f xs) ≤ length xs
given_count f [] = omega arith
given_count {A} {B} f (x ∷ xs) = of_given (f x) (given_count f xs)
  where
    of_given : (o : Option B) → length (filter_map f xs) ≤ length xs
        → length (cons_option o (filter_map f xs)) ≤ length (x ∷ xs)
    of_given None le = omega (arith, le)
    of_given (Some y) le = omega (arith, le)

pub asks_are_few : (doc : Doc) → IsBounded doc → length (asks_of doc) < 2 ^ 31
unfolding asks_of statements
asks_are_few doc bounded = omega (
  arith,
  given_count (ask_of doc) (statements doc),
  statement_count
      doc 0 None doc.items,
  bounded.items,
)
