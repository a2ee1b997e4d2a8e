-- The report of a document: a line for each reply, and the number of cells that are used.
use Rattle.std.specs.Prelude.{ℕ, zero, suc, ◌-◌, nat_lt, Bool, true, false, if◌then◌else◌, List, [], ◌∷◌, ◌++◌, length, map, take, Option, Some, None, option_map, option_and_then, unwrap_or, slice_get, codes, decimal, Ok}
use Rattle.std.specs.Fmt.{signed_decimal}
use Rattle.std.specs.List.{filter, position}
use Rattle.std.specs.Option.{option_map_or}
use Rattle.dg_lex.specs.Bytes.{Bytes, line_end}
use Rattle.dg_lex.specs.Lexemes.{quoted}
use Rattle.dg_hilt.specs.Table.{default_classes}
use Rattle.dg_types.specs.declared.key.MapKeyVal.{MapKeyVal}
use Rattle.dg_types.specs.Texts.{map_key_text}
use Rattle.dg_decl.specs.declared.document.Doc.{Doc}
use Rattle.dg_decl.specs.declared.item.Param.{Param}
use Rattle.dg_decl.specs.Names.{outer_name, params_of, default_fields}
use Rattle.dg_decl.specs.Graph.{node_text}
use Rattle.dg_slots.specs.declared.session.Ask.{Ask}
use Rattle.dg_slots.specs.Numbered.{class_lines}
use Rattle.dg_value.specs.declared.place.Place.{Place}
use Rattle.dg_value.specs.declared.value.Failure.{Failure}
use Rattle.dg_value.specs.declared.value.Kept.{Kept}
use Rattle.dg_value.specs.declared.value.Kept.TheOpen.{Kept-F, Value-F}
use Rattle.dg_value.specs.declared.value.Kept.TheVariants as kept
use Rattle.dg_value.specs.declared.value.Reply.{Reply}
use Rattle.dg_value.specs.declared.value.Reply.TheVariants as reply
use Rattle.dg_value.specs.declared.value.Value.{Value, fold-Value}
use Rattle.dg_value.specs.declared.value.Value.TheVariants as value
use Rattle.dg_value.specs.Places.{same_place}
use Rattle.dg_eval.specs.Runs.{Run}
use Rattle.dg_eval.specs.Meaning.{node_at, content_of, enough}
use Rattle.dg_eval.specs.Asks.{answer_to, numbered_asks, cells}

-- ---- values without held ones

abbrev pub all_some : {A : Type 0} → List (Option A) → Option (List A)
all_some [] = Some []
all_some (None ∷ xs) = None
all_some (Some a ∷ xs) = option_map (λ more. a ∷ more) (all_some xs)

abbrev pub value_some : MapKeyVal × Option Value → Option (MapKeyVal × Value)
value_some e = option_map (λ v. (e.0, v)) e.1

abbrev pub inside_some : Option (Option Value) → Option (Option Value)
inside_some None = Some None
inside_some (Some None) = None
inside_some (Some (Some v)) = Some (Some v)

-- the value of a run that gives one
abbrev pub value_of_run : {A : Type 0} → Run A → Option A
value_of_run (Some (Ok v, asked)) = Some v
value_of_run other = None

-- a value with its parts, where each of them is there; a held one is the content of its cell
abbrev pub whole_at : Doc → (Value → Option Value) → Value-F (Option Kept) (Option Value) → Option Value
whole_at doc inner (Value-F.Text t) = Some (value.Text t)
whole_at doc inner (Value-F.Int n) = Some (value.Int n)
whole_at doc inner (Value-F.Object class ident fields) =
    option_map (value.Object class ident) (all_some fields)
whole_at doc inner (Value-F.Held i k) = option_and_then inner (value_of_run (content_of doc i k))
whole_at doc inner (Value-F.Set vs) = option_map value.Set (all_some vs)
whole_at doc inner (Value-F.Map es) = option_map value.Map (all_some (map value_some es))
whole_at doc inner (Value-F.Provider i k) = Some (value.Provider i k)
whole_at doc inner (Value-F.ProviderLazy i k) = Some (value.ProviderLazy i k)
whole_at doc inner (Value-F.Lazy i k p) = Some (value.Lazy i k p)
whole_at doc inner (Value-F.Opt o) = option_map value.Opt (inside_some o)
whole_at doc inner (Value-F.Outcome k) = option_map value.Outcome k

abbrev pub whole_kept_at : Kept-F (Option Kept) (Option Value) → Option Kept
whole_kept_at (Kept-F.Value v) = option_map kept.Value v
whole_kept_at (Kept-F.Failed f) = Some (kept.Failed f)

-- a value in which each held one is the content of its cell, through so many cells
abbrev pub whole : Doc → ℕ → Value → Option Value
whole doc zero v = None
whole doc (suc times) v =
    fold-Value (Option Kept) (Option Value) whole_kept_at (whole_at doc (whole doc times)) v

-- ---- objects and their numbers

-- the name of a class, by its number
abbrev pub value_class_name : Doc → ℕ → Bytes
value_class_name doc class =
    if nat_lt class 6 then unwrap_or (slice_get default_classes class) []
    else option_map_or (λ s. option_map_or (λ n. n) (outer_name s.item) [])
    (slice_get (class_lines doc) (class - 6)) []

-- the fields of a class, by its number
abbrev pub value_fields : Doc → ℕ → List Param
value_fields doc class =
    if nat_lt class 6 then default_fields
    else option_map_or (λ s. params_of s.item) (slice_get (class_lines doc) (class - 6)) []

-- the place in a list of the object of this identity
abbrev pub seen_at : Place → List Place → Option ℕ
seen_at ident seen = position (same_place ident) seen

-- a text, and the identities of the objects that appeared before its end, in order: the number of an
-- object is its place in this list, counted from 1
pub record Printed : Type 0 where
  pub text : Bytes
  pub seen : List Place

abbrev pub printed : Bytes → List Place → Printed
printed text seen = record { text = text; seen = seen }

-- what is printed behind objects that appeared before
abbrev pub Printing : Type 0
Printing = List Place → Printed

abbrev pub as_it_is : Bytes → Printing
as_it_is text seen = printed text seen

-- one text behind another
abbrev pub behind : Printing → Printing → Printing
behind first next seen = joined (first seen)
  where
    joined : Printed → Printed
    joined p = printed (p.text ++ (next p.seen).text) (next p.seen).seen

-- some texts with commas between
abbrev pub listed : List Printing → Printing
listed [] = as_it_is []
listed (p ∷ []) = p
listed (p ∷ q ∷ ps) = behind p (behind (as_it_is (codes ",")) (listed (q ∷ ps)))

abbrev pub between : Bytes → Printing → Bytes → Printing
between front middle back = behind (as_it_is front) (behind middle (as_it_is back))

abbrev pub field_text : Param → Printing → Printing
field_text p v = behind (as_it_is (p.name ++ codes "=")) v

abbrev pub fields_text : List Param → List Printing → List Printing
fields_text (p ∷ ps) (v ∷ vs) = field_text p v ∷ fields_text ps vs
fields_text ps vs = []

-- `C#n` where the object appeared before, and else `C#n{f=v,g=w}`; its number comes before those of
-- its fields
abbrev pub object_text : Doc → ℕ → Place → List Printing → Printing
object_text doc class ident fields seen = of_place (seen_at ident seen)
  where
    named : ℕ → Bytes
    named n = value_class_name doc class ++ (codes "#" ++ decimal n)

    of_place : Option ℕ → Printed
    of_place (Some k) = printed (named (suc k)) seen
    of_place None =
        between (named (suc (length seen)) ++ codes "{")
        (listed (fields_text (value_fields doc class) fields)) (codes "}") (seen ++ ident ∷ [])

abbrev pub entry_text : MapKeyVal × Printing → Printing
entry_text e = behind (as_it_is (map_key_text e.0 ++ codes ":")) e.1

abbrev pub inside_text : Option Printing → Printing
inside_text None = as_it_is (codes "none")
inside_text (Some v) = between (codes "some(") v (codes ")")

-- the text of a value without held ones; providers and Lazies aren't followed
abbrev pub text_at : Doc → Value-F Printing Printing → Printing
text_at doc (Value-F.Text t) = as_it_is (quoted t)
text_at doc (Value-F.Int n) = as_it_is (signed_decimal n)
text_at doc (Value-F.Object class ident fields) = object_text doc class ident fields
text_at doc (Value-F.Held i k) = as_it_is []
text_at doc (Value-F.Set vs) = between (codes "[") (listed vs) (codes "]")
text_at doc (Value-F.Map es) = between (codes "{") (listed (map entry_text es)) (codes "}")
text_at doc (Value-F.Provider i k) = as_it_is (codes "Provider")
text_at doc (Value-F.ProviderLazy i k) = as_it_is (codes "Provider")
text_at doc (Value-F.Lazy i k p) = as_it_is (codes "Lazy")
text_at doc (Value-F.Opt o) = inside_text o
text_at doc (Value-F.Outcome k) = k

-- an entry of a set of outcomes isn't printed in a reply
abbrev pub kept_text_at : Kept-F Printing Printing → Printing
kept_text_at (Kept-F.Value v) = v
kept_text_at (Kept-F.Failed f) = as_it_is (quoted f.message)

unfoldable pub value_text : Doc → Value → Printing
value_text doc = fold-Value Printing Printing kept_text_at (text_at doc)

-- ---- replies

-- the most bytes of the value of a reply
abbrev pub print_limit : ℕ
print_limit = 65536

-- a text that is longer is cut, and `..` stands behind it
abbrev pub cut : Bytes → Bytes
cut t = if nat_lt print_limit (length t) then take print_limit t ++ codes ".." else t

-- the objects of the part that is cut off have appeared
abbrev pub cut_text : Printing → Printing
cut_text p seen = printed (cut (p seen).text) (p seen).seen

-- `failed M.p "message"`
abbrev pub failure_text : Doc → Failure → Bytes
failure_text doc f =
    codes "failed " ++ (option_map_or (node_text doc) (node_at doc f.origin) []
    ++ (codes " " ++ quoted f.message))

abbrev pub reply_text : Doc → Reply → Printing
reply_text doc (reply.Value v) =
    option_map_or (λ w. cut_text (value_text doc w)) (whole doc (suc enough) v) (as_it_is [])
reply_text doc (reply.Failed f) = as_it_is (failure_text doc f)
reply_text doc reply.Absent = as_it_is (codes "absent")

-- the line of a reply, behind the objects of those before it
unfoldable pub reply_line : Doc → ℕ → Reply → Printing
reply_line doc number r =
    between (decimal number ++ codes " ") (reply_text doc r) (line_end ∷ [])

-- the line of an ask
abbrev pub ask_line : Doc → ℕ × Ask → Printing
ask_line doc p = option_map_or (reply_line doc p.0) (answer_to doc p.0 p.1) (as_it_is [])

abbrev pub lines_of : Doc → List (ℕ × Ask) → Printing
lines_of doc [] = as_it_is []
lines_of doc (p ∷ ps) = behind (ask_line doc p) (lines_of doc ps)

-- `cells N`
abbrev pub cells_line : ℕ → Bytes
cells_line n = codes "cells " ++ (decimal n ++ line_end ∷ [])

-- the report: the replies in order, and how many cells are used
unfoldable pub report : Doc → Bytes
report doc = (lines_of doc (numbered_asks doc) []).text ++ cells_line (length (cells doc))

abbrev pub is_failed : Option Reply → Bool
is_failed (Some (reply.Failed f)) = true
is_failed other = false

abbrev pub failed_count : Doc → ℕ
failed_count doc =
    length (filter (λ p. is_failed (answer_to doc p.0 p.1)) (numbered_asks doc))

-- the summary of a generated document: how many replies there are, how many of them failed, and how
-- many cells are used
unfoldable pub summary : Doc → Bytes
summary doc =
    codes "replies " ++ (decimal (length (numbered_asks doc)) ++ (line_end ∷ codes "failed "
    ++ (decimal (failed_count doc) ++ (line_end ∷ cells_line (length (cells doc))))))
