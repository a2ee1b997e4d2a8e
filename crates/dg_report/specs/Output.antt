-- A text and the objects that appeared, to which texts are appended.
use Rattle.std.specs.Prelude.{ℕ, zero, suc, ◌+◌, ◌-◌, Bool, not, if◌then◌else◌, List, [], ◌∷◌, ◌++◌, length, drop, take, Option, Some, None, is_some, slice_get, codes, decimal}
use Rattle.std.specs.Option.{option_map_or}
use Rattle.dg_lex.specs.Bytes.{Bytes}
use Rattle.dg_types.specs.declared.key.MapKeyVal.{MapKeyVal}
use Rattle.dg_types.specs.Texts.{map_key_text}
use Rattle.dg_decl.specs.declared.document.Doc.{Doc}
use Rattle.dg_decl.specs.declared.item.Param.{Param}
use Rattle.dg_value.specs.declared.place.Place.{Place}
use Rattle.dg_eval.specs.Report.{Printing, cut, print_limit, seen_at, value_class_name}

-- a text, the identities of the objects that appeared before its end, those of them that appeared
-- before the line of the text, and to how many bytes the text comes at most, where it doesn't take
-- all
pub record Output : Type 0 where
  pub text : Bytes
  pub seen : List Place
  pub before : List Place
  pub limit : Option ℕ

-- a text behind another one, as far as both don't go beyond a limit
unfoldable pub taken : Option ℕ → Bytes → Bytes → Bytes
taken None front t = front ++ t
taken (Some limit) front t = front ++ take (limit - length front) t

-- what is printed behind a text
abbrev pub followed : Output → Printing → Output
followed o p = record {
  text = taken o.limit o.text (p o.seen).text;
  seen = (p o.seen).seen;
  before = o.before;
  limit = o.limit;
}

unfoldable pub with_text : Output → Bytes → Output
with_text o t = record {
  text = taken o.limit o.text t;
  seen = o.seen;
  before = o.before;
  limit = o.limit;
}

-- ---- members with commas between

-- the comma before the member of this index
abbrev pub with_comma : ℕ → Output → Output
with_comma zero o = o
with_comma (suc k) o = with_text o (codes ",")

-- members behind a text, the first of which has this index
abbrev pub with_members : {A : Type 0} → (Output → A → Output) → ℕ → Output → List A → Output
with_members f k o [] = o
with_members f k o (x ∷ xs) = with_members f (suc k) (f (with_comma k o) x) xs

-- a set behind a text
abbrev pub with_set : {A : Type 0} → (Output → A → Output) → Output → List A → Output
with_set f o xs = with_text (with_members f 0 (with_text o (codes "[")) xs) (codes "]")

-- an entry of a map behind a text
abbrev pub with_entry : {V : Type 0} → (Output → V → Output) → Output → MapKeyVal × V → Output
with_entry f o e = f (with_text (with_text o (map_key_text e.0)) (codes ":")) e.1

-- a map behind a text
abbrev pub with_map : {V : Type 0} → (Output → V → Output) → Output → List (MapKeyVal × V) → Output
with_map f o es = with_text (with_members (with_entry f) 0 (with_text o (codes "{")) es) (codes "}")

-- an optional behind a text
abbrev pub with_inside : {V : Type 0} → (Output → V → Output) → Output → Option V → Output
with_inside f o None = with_text o (codes "none")
with_inside f o (Some v) = with_text (f (with_text o (codes "some(")) v) (codes ")")

-- ---- objects

-- an object that didn't appear before
abbrev pub is_new : Output → Place → Bool
is_new o ident = not (is_some (seen_at ident o.seen))

-- one object more has appeared
abbrev pub noted : Output → Place → Output
noted o ident = record {
  text = o.text;
  seen = o.seen ++ ident ∷ [];
  before = o.before;
  limit = o.limit;
}

-- the number of an object behind a text: one that is new gets the next
unfoldable pub with_number : Output → Place → Output
with_number o ident = of_place (seen_at ident o.seen)
  where
    of_place : Option ℕ → Output
    of_place (Some k) = with_text o (decimal (suc k))
    of_place None = with_text (noted o ident) (decimal (suc (length o.seen)))

-- the name of the field of this index and what stands around it
abbrev pub with_field_name : Param → ℕ → Output → Output
with_field_name p k o = with_text (with_text (with_comma k o) p.name) (codes "=")

abbrev pub with_name_of : Option Param → ℕ → Output → Output
with_name_of None k o = o
with_name_of (Some p) k o = with_field_name p k o

-- fields behind a text, the first of which has this index among those of the class
abbrev pub with_fields : {V : Type 0} → (Output → V → Output) → List Param → ℕ → Output → List V
    → Output
with_fields f params k o [] = o
with_fields f params k o (v ∷ vs) =
    option_map_or (λ p. with_fields f params (suc k) (f (with_field_name p k o) v) vs)
    (slice_get params k) o

-- an object behind a text, where `fields` appends its fields
abbrev pub with_object : Doc → (Output → Output) → ℕ → Place → Output → Output
with_object doc fields class ident o = numbered (is_new o ident)
  where
    named : Output
    named = with_text (with_text o (value_class_name doc class)) (codes "#")

    numbered : Bool → Output
    numbered new =
        if new then with_text (fields (with_text (with_number named ident) (codes "{"))) (codes "}")
        else with_number named ident

-- ---- what is too long

-- behind this text so many bytes are taken as tell whether what follows is too long
abbrev pub limited : Output → Output
limited o = record {
  text = o.text;
  seen = o.seen;
  before = o.before;
  limit = Some (length o.text + suc print_limit);
}

-- what stands behind the first so many bytes is cut, where it is too long, and then all is taken
unfoldable pub with_cut : ℕ → Output → Output
with_cut start o = record {
  text = take start o.text ++ cut (drop start o.text);
  seen = o.seen;
  before = o.before;
  limit = None;
}
