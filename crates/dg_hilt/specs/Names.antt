-- The names that are declared before any line of a document.
use Rattle.std.specs.Prelude.{Bool, List, [], ◌∷◌, ◌++◌, codes}
use Rattle.std.specs.List.{list_any}
use Rattle.std.specs.Str.{bytes_eq}
use Rattle.dg_hilt.specs.Bytes.{Bytes}
use Rattle.dg_hilt.specs.Table.{hilt_names, default_classes}

-- the two base types and the constructors of types
abbrev pub type_names : List Bytes
type_names =
    codes "Text"
    ∷ codes "Int"
    ∷ codes "Set"
    ∷ codes "Map"
    ∷ codes "Optional"
    ∷ codes "Provider"
    ∷ codes "Lazy"
    ∷ codes "Producer"
    ∷ codes "Produced"
    ∷ []

-- JSR 330's qualifier, which has a text as its member
abbrev pub qualifier_names : List Bytes
qualifier_names = codes "Named" ∷ []

-- the words that stand behind `@` and are neither scopes nor qualifiers
abbrev pub mark_names : List Bytes
mark_names =
    codes "Inject"
    ∷ codes "InstallIn"
    ∷ codes "TestInstallIn"
    ∷ codes "IntoSet"
    ∷ codes "ElementsIntoSet"
    ∷ codes "IntoMap"
    ∷ codes "StringKey"
    ∷ codes "IntKey"
    ∷ []

-- Hilt's scopes, each once
abbrev pub scope_names : List Bytes
scope_names =
    codes "Singleton"
    ∷ codes "ActivityRetainedScoped"
    ∷ codes "ServiceScoped"
    ∷ codes "ViewModelScoped"
    ∷ codes "ActivityScoped"
    ∷ codes "FragmentScoped"
    ∷ codes "ViewScoped"
    ∷ []

-- every name that is declared before any line: those of types, of qualifiers and of marks, and
-- Hilt's components, scopes and classes of bound values
unfoldable pub predefined_names : List Bytes
predefined_names = type_names ++ qualifier_names ++ mark_names ++ hilt_names ++ scope_names
    ++ default_classes

-- a name is one of these
unfoldable pub is_among : Bytes → List Bytes → Bool
is_among name names = list_any (bytes_eq name) names
