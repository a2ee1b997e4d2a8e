-- The explicit bindings of classes, statement by statement.
use Rattle.std.specs.Prelude.{◌≡◌, ◌<◌, ℕ, ◌+◌, Bool, ◌==◌, List, [], ◌∷◌, ◌++◌, drop, take, map, length, Option, Some, None, unwrap_or, slice_get, option_to_list, if◌then◌else◌}
use Rattle.std.specs.List.{filter_map, flat_map, range_with_len}
use Rattle.std.specs.Option.{option_and_then, option_map_or}
use Rattle.dg_types.specs.declared.key.Key.{Key}
use Rattle.dg_decl.specs.declared.document.Doc.{Doc}
use Rattle.dg_decl.specs.declared.item.Item.{Item}
use Rattle.dg_decl.specs.declared.component.Bound.{Bound}
use Rattle.dg_decl.specs.declared.component.Class.{Class}
use Rattle.dg_decl.specs.declared.component.Exposed.{Exposed}
use Rattle.dg_decl.specs.declared.binding.Bind.{Bind}
use Rattle.dg_decl.specs.declared.binding.BindRef.TheVariants as ref
use Rattle.dg_decl.specs.declared.binding.Owned.{Owned}
use Rattle.dg_decl.specs.Document.{Statement, statements}
use Rattle.dg_decl.specs.Components.{class_count, bound_in}
use Rattle.dg_decl.specs.Lookup.{owned, key_of_use, binding_of, explicit_default, explicit_at}
use Rattle.dg_resolve.specs.declared.members.Wanted.TheVariants as wanted
use Rattle.dg_resolve.specs.Members.{rows_of_member}
use Rattle.dg_resolve.specs.Tables.{Numbers, Rows, of_number, of_class, row}

-- ---- default bindings

-- the default binding of a class with this bound argument
abbrev pub rows_of_default : ℕ → Bound → ℕ → Key → List Owned
rows_of_default class b c k = flat_map (λ x. row class x (owned class ref.Default) c k) (option_to_list (key_of_use b.shape))

abbrev pub rows_of_bounds : ℕ → List Bound → ℕ → Key → List Owned
rows_of_bounds class bs c k = flat_map (λ b. rows_of_default class b c k) bs

-- those of the first classes
abbrev pub bounds_at : List Class → ℕ → List Bound
bounds_at classes c = option_map_or (λ x. x.bound) (slice_get classes c) []

abbrev pub rows_of_hilt : List Class → ℕ → ℕ → Key → List Owned
rows_of_hilt classes count c k =
    flat_map (λ x. rows_of_bounds x (bounds_at classes x) c k) (range_with_len 0 count)

-- ---- exposed entries

abbrev pub rows_of_entry : ℕ → Exposed → ℕ → Key → List Owned
rows_of_entry class e c k = row class e.key (owned class (ref.Exposed e.dep e.entry)) c k

abbrev pub rows_of_entries : ℕ → List Exposed → ℕ → Key → List Owned
rows_of_entries class es c k = flat_map (λ e. rows_of_entry class e c k) es

abbrev pub entries_at : List (List Exposed) → ℕ → List Exposed
entries_at exposed c = unwrap_or (slice_get exposed c) []

-- what is exposed to each of some classes
abbrev pub rows_of_exposed : List (List Exposed) → List ℕ → ℕ → Key → List Owned
rows_of_exposed exposed classes c k =
    flat_map (λ x. rows_of_entries x (entries_at exposed x) c k) classes

-- ---- bound arguments

-- the classes in whose block a statement stands
abbrev pub classes_around : Numbers → Option ℕ → List ℕ
classes_around headed None = []
classes_around headed (Some h) = of_number h headed

-- the next bound argument of each of some classes, with this key
abbrev pub rows_of_argument : Numbers → List ℕ → Key → ℕ → Key → List Owned
rows_of_argument lines classes key c k =
    flat_map (λ x. row x key (owned x (ref.Arg (length (of_number x lines)))) c k) classes

-- the same where there is a key
abbrev pub rows_of_bound : Numbers → List ℕ → Option Key → ℕ → Key → List Owned
rows_of_bound lines classes key c k =
    flat_map (λ x. rows_of_argument lines classes x c k) (option_to_list key)

-- the classes of which a statement is a bound argument
abbrev pub classes_of_line : Numbers → Statement → List ℕ
classes_of_line headed s = of_bound (bound_in s.item)
  where
    of_bound : Option Bound → List ℕ
    of_bound None = []
    of_bound (Some b) = classes_around headed s.block

abbrev pub key_of_line : Statement → Option Key
key_of_line s = option_and_then (λ b. key_of_use b.shape) (bound_in s.item)

-- ---- members

-- the next binding, where it is that of the item of this index
abbrev pub next_at : List Bind → ℕ → ℕ → Option Bind
next_at bindings place index = of_index (slice_get bindings place)
  where
    of_index : Option Bind → Option Bind
    of_index None = None
    of_index (Some b) = if b.item == index then Some b else None

abbrev pub rows_of_next : Numbers → Option Bind → ℕ → Key → List Owned
rows_of_next installers b c k =
    flat_map (λ x. rows_of_member installers wanted.Explicit x c k) (option_to_list b)

-- what a statement adds to the tables, where this binding is the next
abbrev pub rows_of_statement : Numbers → Numbers → Numbers → List Bind → List (List Exposed) → ℕ → Statement → ℕ → Key → List Owned
rows_of_statement headed installers lines bindings exposed place s c k =
    rows_of_exposed exposed (of_number s.index headed) c k
    ++ rows_of_bound lines (classes_of_line headed s) (key_of_line s) c k
    ++ rows_of_next installers (next_at bindings place s.index) c k

-- ---- so far

-- The tables have the explicit bindings up to a statement, the lines so far are under their classes,
-- and the bindings from a place on are those of the statements that are left.
pub record KnowsExplicit (doc : Doc) (headed : Numbers) (bindings : List Bind) (i place : ℕ) (lines : Numbers) (tables : List Rows) : Type 0 where
  pub size : length tables ≡ class_count doc
  pub rows : (c : ℕ) (k : Key) → c < class_count doc → of_class c k tables
      ≡ explicit_default doc c k ++ flat_map (explicit_at doc c k) (take i (statements doc))
  pub noted : (c : ℕ) → of_number c lines
      ≡ flat_map (λ s. flat_map (λ x. if c == x then s.index ∷ [] else []) (classes_of_line headed s)) (take i (statements doc))
  pub left : drop place bindings ≡ filter_map binding_of (drop i (statements doc))
