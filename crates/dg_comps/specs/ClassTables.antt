-- Tables of names, each with a set of component classes.
use Rattle.std.specs.Prelude.{◌≡◌, ◌<◌, ℕ, Bool, ◌&&◌, List, unwrap_or}
use Rattle.std.specs.Map.{lookup}
use Rattle.std.specs.Str.{bytes_eq}
use Rattle.std.specs.List.{list_any}
use Rattle.dg_lex.specs.Bytes.{Bytes}
use Rattle.dg_decl.specs.declared.document.Doc.{Doc}
use Rattle.dg_decl.specs.Document.{Statement, statements}
use Rattle.dg_decl.specs.Names.{is_called}
use Rattle.dg_decl.specs.Components.{class_count, carries, is_entry_of}
use Rattle.dg_decl.specs.Stages.Components.{entry_name}
use Rattle.dg_comps.specs.ClassSets.{has}

-- names, each with a set
abbrev pub ClassTable : Type 0
ClassTable = List (Bytes × ℕ)

-- the set of a name: none of the classes, where the table doesn't have it
abbrev pub set_of : Bytes → ClassTable → ℕ
set_of name table = unwrap_or (lookup (bytes_eq name) table) 0

-- a class is in the set of a name
abbrev pub has_at : ClassTable → Bytes → ℕ → Bool
has_at table name class = has (set_of name table) class

-- for each scope the set of the classes that carry it
abbrev pub KnowsCarriers : Doc → ClassTable → Type 0
KnowsCarriers doc table =
    (scope : Bytes) (class : ℕ) → class < class_count doc
    → has_at table scope class ≡ carries doc scope class

-- for each name the set of the classes of which one of these statements is an entry of this name
abbrev pub KnowsEntries : Doc → List Statement → ClassTable → Type 0
KnowsEntries doc earlier table =
    (name : Bytes) (class : ℕ) → has_at table name class
    ≡ list_any (λ s. is_entry_of doc class s && is_called entry_name name s) earlier
