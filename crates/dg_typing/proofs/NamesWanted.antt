-- Which predefined names there are, and what a name may stand for.
use Rattle.std.proofs.Common.{◌≡◌, ◌||◌, ◌+◌, ◌∷◌, [], ℕ, if◌then◌else◌, Some, List, Bool, true, false, Option, is_some, codes, refl}
use Rattle.std.specs.List.{list_any, find, position_from}
use Rattle.std.specs.Str.{bytes_eq}
use Rattle.dg_lex.specs.Bytes.{Bytes, is_among}
use Rattle.dg_hilt.specs.Classes.{components, has_name, row_of, class_named, default_class_named}
use Rattle.dg_hilt.specs.Names.{qualifier_names}
use Rattle.dg_hilt.specs.Names as hilt
use Rattle.dg_hilt.specs.Table.{hilt_names, default_classes}
use Rattle.dg_decl.specs.declared.document.Doc.{Doc}
use Rattle.dg_decl.specs.declared.item.Param.{Param}
use Rattle.dg_decl.specs.Stages.Names.{is_known, is_declared_as}
use Rattle.dg_typing.specs.declared.names_stage.wanted.Wanted.{Wanted}
use Rattle.dg_typing.specs.declared.names_stage.wanted.Wanted.TheVariants as wanted
use Rattle.dg_typing.specs.NamesWanted.{wanted_of, is_of_kind, is_predefined_as}

-- the two words for this are one
pub among_same : (n : Bytes) (ns : List Bytes) → hilt.is_among n ns ≡ is_among n ns
unfolding hilt.is_among
among_same n ns = refl

found_by : {X : Type 0} (b : Bool) (x : X) (o : Option X) (rest : Bool) → is_some o ≡ rest
    → is_some (if b then Some x else o) ≡ (b || rest)
found_by true x o rest h = refl
found_by false x o rest h = h

is_some-find : {X : Type 0} (test : X → Bool) (xs : List X)
    → is_some (find test xs) ≡ list_any test xs
is_some-find test [] = refl
is_some-find test (x ∷ xs) =
    found_by (test x) x (find test xs) (list_any test xs) (is_some-find test xs)

is_some-position : {X : Type 0} (test : X → Bool) (n : ℕ) (xs : List X)
    → is_some (position_from test n xs) ≡ list_any test xs
is_some-position test n [] = refl
is_some-position test n (x ∷ xs) =
    found_by (test x) n (position_from test (n + 1) xs) (list_any test xs)
    (is_some-position test (n + 1) xs)

pub component_is : (n : Bytes) → is_some (class_named n) ≡ is_among n hilt_names
component_is n = is_some-find (λ c. has_name n (row_of c)) components

pub default_is : (n : Bytes) → is_some (default_class_named n) ≡ is_among n default_classes
default_is n = is_some-position (bytes_eq n) 0 default_classes

pub named_is : (n : Bytes) → bytes_eq n (codes "Named") ≡ is_among n qualifier_names
named_is n = or_false (bytes_eq n (codes "Named"))
  where
    or_false : (b : Bool) → b ≡ (b || false)
    or_false true = refl
    or_false false = refl

pub known_is : (doc : Doc) (params : List Param) (w : Wanted) (n : Bytes)
    → is_known doc params (wanted_of w) n
    ≡ (is_predefined_as w n || is_declared_as (is_of_kind w) doc n)
known_is doc params wanted.Scope n = refl
known_is doc params wanted.Qualifier n = refl
known_is doc params wanted.QualifierWithMember n = refl
known_is doc params wanted.Type n = refl
known_is doc params wanted.Interface n = refl
known_is doc params wanted.Class n = refl
known_is doc params wanted.Module n = refl
known_is doc params wanted.Component n = refl
known_is doc params wanted.InstallTarget n = refl
known_is doc params wanted.ComponentClass n = refl
