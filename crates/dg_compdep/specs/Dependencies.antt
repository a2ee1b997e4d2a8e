-- The dependencies that lines of a document name, with the classes whose dependencies they are.
use Rattle.std.specs.Prelude.{◌≡◌, ◌==◌, ℕ, Bool, false, ◌&&◌, ◌||◌, Vec, List, map, option_to_list, flat_map}
use Rattle.std.specs.List.{filter, list_any}
use Rattle.std.specs.Option.{option_map_or}
use Rattle.std.specs.Global.{Global}
use Rattle.std.specs.Str.{bytes_eq}
use Rattle.dg_lex.specs.Bytes.{Bytes}
use Rattle.dg_decl.specs.declared.document.Doc.{Doc}
use Rattle.dg_decl.specs.Document.{Statement, stands_in}
use Rattle.dg_decl.specs.declared.component.Class.{Class}
use Rattle.dg_decl.specs.Components.{header_of, class_around, component_classes, dependency_in}
use Rattle.dg_decl.specs.Stages.Dependencies.{is_named_earlier}
use Rattle.dg_compdep.specs.Below.{TellsAllBelow}

-- a pair is this class and this name
abbrev pub is_pair : ℕ → Bytes → ℕ × Bytes → Bool
is_pair class name pair = (class == pair.0) && bytes_eq name pair.1

-- a list has this class with this name
abbrev pub has_pair : List (ℕ × Bytes) → ℕ → Bytes → Bool
has_pair pairs class name = list_any (is_pair class name) pairs

-- a statement stands in the block of the header of a class
abbrev pub is_own : Doc → Statement → ℕ → Bool
is_own doc s class = option_map_or (λ h. stands_in h.index s) (header_of doc class) false

-- the dependency that a statement names, with a class
abbrev pub pairs_of : Statement → ℕ → List (ℕ × Bytes)
pairs_of s class = map (λ n. (class, n)) (option_to_list (dependency_in s.item))

-- the dependency that a statement names in the block of its class
abbrev pub named_by : Doc → Statement → List (ℕ × Bytes)
named_by doc s =
    flat_map (pairs_of s) (filter (is_own doc s) (option_to_list (class_around doc s)))

-- the pairs are those of the dependencies that earlier lines than this index name in their classes
abbrev pub HasNamed : Doc → ℕ → List (ℕ × Bytes) → Type 0
HasNamed doc index pairs =
    (class : ℕ) (name : Bytes) → has_pair pairs class name ≡ is_named_earlier doc class index name

-- the pairs are those of the one list and those of the other
abbrev pub AreBoth : List (ℕ × Bytes) → List (ℕ × Bytes) → List (ℕ × Bytes) → Type 0
AreBoth old more new =
    (class : ℕ) (name : Bytes) → has_pair new class name
    ≡ (has_pair old class name || has_pair more class name)

-- the classes of a document, and which stand below which
pub record KnowsClasses (doc : Doc) (classes : List Class) (rows : List (Vec Bool Global)) : Type
    0 where
  pub classes_are : classes ≡ component_classes doc
  pub below : TellsAllBelow doc rows
