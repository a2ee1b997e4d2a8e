-- The report of a document from its replies and its cells.
use Rattle.std.proofs.Common.{◌≡◌, refl, ap, ◌∙◌}
use Rattle.std.specs.Prelude.{ℕ, ℤ, suc, ◌+◌, List, [], ◌∷◌, ◌++◌, length, map, Option, Some, option_map, option_and_then, codes, decimal, Ok}
use Rattle.std.specs.List.{enumerate_from}
use Rattle.std.specs.Option.{option_map_or}
use Rattle.dg_lex.specs.Bytes.{Bytes, line_end}
use Rattle.dg_decl.specs.declared.document.Doc.{Doc}
use Rattle.dg_slots.specs.declared.session.Ask.{Ask}
use Rattle.dg_slots.specs.Sessions.{asks_of}
use Rattle.dg_value.specs.declared.place.Place.{Place}
use Rattle.dg_value.specs.declared.value.Reply.{Reply}
use Rattle.dg_value.specs.declared.value.Reply.TheVariants as reply
use Rattle.dg_value.specs.declared.value.Value.{Value}
use Rattle.dg_value.specs.declared.value.Value.TheVariants as value
use Rattle.dg_eval.specs.Runs.{Asked}
use Rattle.dg_eval.specs.Meaning.{content_of}
use Rattle.dg_eval.specs.Asks.{CellName, answer_to, cells}
use Rattle.dg_eval.specs.Report.{Printed, Printing, printed, as_it_is, behind, between, cut, cut_text, all_some, value_of_run, whole_at, whole_kept_at, whole, listed, object_text, kept_text_at, text_at, value_text, reply_line, ask_line, lines_of, cells_line, report}
use Rattle.dg_examples.specs.Outcomes.{replies}
use Rattle.dg_examples.proofs.ValueFolds.{value-Int, value-Object, value-Held, value-Set}

-- ---- values with their parts

pub whole_held : (doc : Doc) (n i k : ℕ) (v : Value) (asked : List Asked)
    → content_of doc i k ≡ Some (Ok v, asked)
    → whole doc (suc n) (value.Held i k) ≡ whole doc n v
whole_held doc n i k v asked e =
    value-Held whole_kept_at (whole_at doc (whole doc n)) i k
    ∙ ap (λ r. option_and_then (whole doc n) (value_of_run r)) e

pub whole_int : (doc : Doc) (n : ℕ) (i : ℤ) → whole doc (suc n) (value.Int i) ≡ Some (value.Int i)
whole_int doc n i = value-Int whole_kept_at (whole_at doc (whole doc n)) i

pub whole_object : (doc : Doc) (n class : ℕ) (p : Place) (vs : List Value)
    → whole doc (suc n) (value.Object class p vs)
    ≡ option_map (value.Object class p) (all_some (map (whole doc (suc n)) vs))
whole_object doc n class p vs = value-Object whole_kept_at (whole_at doc (whole doc n)) class p vs

pub whole_set : (doc : Doc) (n : ℕ) (vs : List Value)
    → whole doc (suc n) (value.Set vs)
    ≡ option_map value.Set (all_some (map (whole doc (suc n)) vs))
whole_set doc n vs = value-Set whole_kept_at (whole_at doc (whole doc n)) vs

-- ---- lines

-- the lines of these replies, of which the first has the number behind this one
abbrev pub lines_with : Doc → ℕ → List (Option Reply) → Printing
lines_with doc n [] = as_it_is []
lines_with doc n (r ∷ rs) =
    behind (option_map_or (reply_line doc (suc n)) r (as_it_is [])) (lines_with doc (n + 1) rs)

abbrev numbered : ℕ → List Ask → List (ℕ × Ask)
numbered n asks = map (λ p. (suc p.0, p.1)) (enumerate_from n asks)

lines_are : (doc : Doc) (n : ℕ) (asks : List Ask)
    → lines_of doc (numbered n asks)
    ≡ lines_with doc n (map (λ p. answer_to doc p.0 p.1) (numbered n asks))
lines_are doc n [] = refl
lines_are doc n (a ∷ asks) = ap (behind (ask_line doc (suc n, a))) (lines_are doc (n + 1) asks)

pub report_of : (doc : Doc) (rs : List (Option Reply)) (cs : List CellName) (lines : Bytes)
    → replies doc ≡ rs → cells doc ≡ cs → (lines_with doc 0 rs []).text ≡ lines
    → report doc ≡ lines ++ cells_line (length cs)
unfolding replies report
report_of doc rs cs lines r c t =
    ap (λ (p : Printing). (p []).text ++ cells_line (length (cells doc)))
    (lines_are doc 0 (asks_of doc))
    ∙ ap (λ (xs : List (Option Reply)). (lines_with doc 0 xs []).text
    ++ cells_line (length (cells doc))) r
    ∙ ap (λ (xs : List CellName). (lines_with doc 0 rs []).text ++ cells_line (length xs)) c
    ∙ ap (λ (text : Bytes). text ++ cells_line (length cs)) t

-- a line before others
pub before_lines : (doc : Doc) (n : ℕ) (r : Reply) (rs : List (Option Reply)) (seen : List Place)
    (t : Bytes) (now : List Place) (lines : Bytes)
    → reply_line doc (suc n) r seen ≡ printed t now
    → (lines_with doc (n + 1) rs now).text ≡ lines
    → (lines_with doc n (Some r ∷ rs) seen).text ≡ t ++ lines
before_lines doc n r rs seen t now lines e others =
    ap (λ (p : Printed). p.text ++ (lines_with doc (n + 1) rs p.seen).text) e
    ∙ ap (λ (text : Bytes). t ++ text) others

pub value_line : (doc : Doc) (n : ℕ) (v w : Value) (seen : List Place) (t : Bytes)
    (now : List Place)
    → whole doc 129 v ≡ Some w → value_text doc w seen ≡ printed t now
    → reply_line doc n (reply.Value v) seen
    ≡ printed ((decimal n ++ codes " ") ++ (cut t ++ line_end ∷ [])) now
unfolding reply_line
value_line doc n v w seen t now is text =
    ap (λ (o : Option Value). between (decimal n ++ codes " ")
    (option_map_or (λ x. cut_text (value_text doc x)) o (as_it_is [])) (line_end ∷ []) seen) is
    ∙ ap (λ (p : Printed). printed ((decimal n ++ codes " ") ++ (cut p.text ++ line_end ∷ []))
    p.seen) text

-- ---- texts

pub text_object : (doc : Doc) (class : ℕ) (p : Place) (vs : List Value)
    → value_text doc (value.Object class p vs) ≡ object_text doc class p (map (value_text doc) vs)
unfolding value_text
text_object doc class p vs = value-Object kept_text_at (text_at doc) class p vs

pub text_set : (doc : Doc) (vs : List Value)
    → value_text doc (value.Set vs)
    ≡ between (codes "[") (listed (map (value_text doc) vs)) (codes "]")
unfolding value_text
text_set doc vs = value-Set kept_text_at (text_at doc) vs
