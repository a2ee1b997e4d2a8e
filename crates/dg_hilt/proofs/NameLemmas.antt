-- The names that are declared before any line, kind by kind.
use Rattle.std.proofs.Common.{◌≡◌, ◌||◌, ◌++◌, ◌+◌, ◌∷◌, [], ℕ, if◌then◌else◌, Some, List, Bool, true, false, Option, is_some, codes, refl, ap, sym, ◌∙◌}
use Rattle.std.specs.List.{list_any, find, position_from}
use Rattle.std.specs.Str.{bytes_eq}
use Rattle.dg_hilt.specs.Bytes.{Bytes}
use Rattle.dg_hilt.specs.Classes.{components, has_name, row_of, class_named, default_class_named}
use Rattle.dg_hilt.specs.Names.{is_among, type_names, qualifier_names, mark_names, scope_names, predefined_names}
use Rattle.dg_hilt.specs.Table.{hilt_names, default_classes}

or_assoc : (a b c : Bool) → ((a || b) || c) ≡ (a || (b || c))
or_assoc true b c = refl
or_assoc false b c = refl

any-append : {X : Type 0} (test : X → Bool) (xs ys : List X) → list_any test (xs ++ ys) ≡ (list_any test xs || list_any test ys)
any-append test [] ys = refl
any-append test (x ∷ xs) ys = ap (λ b. test x || b) (any-append test xs ys) ∙ sym (or_assoc (test x) (list_any test xs) (list_any test ys))

found_by : {X : Type 0} (b : Bool) (x : X) (o : Option X) (rest : Bool) → is_some o ≡ rest → is_some (if b then Some x else o) ≡ (b || rest)
found_by true x o rest h = refl
found_by false x o rest h = h

is_some-find : {X : Type 0} (test : X → Bool) (xs : List X) → is_some (find test xs) ≡ list_any test xs
is_some-find test [] = refl
is_some-find test (x ∷ xs) = found_by (test x) x (find test xs) (list_any test xs) (is_some-find test xs)

is_some-position : {X : Type 0} (test : X → Bool) (n : ℕ) (xs : List X) → is_some (position_from test n xs) ≡ list_any test xs
is_some-position test n [] = refl
is_some-position test n (x ∷ xs) = found_by (test x) n (position_from test (n + 1) xs) (list_any test xs) (is_some-position test (n + 1) xs)

among-append : (xs ys : List Bytes) (name : Bytes) → is_among name (xs ++ ys) ≡ (is_among name xs || is_among name ys)
unfolding is_among
among-append xs ys name = any-append (bytes_eq name) xs ys

named_is : (name : Bytes) → is_among name qualifier_names ≡ bytes_eq name (codes "Named")
unfolding is_among
named_is name = or_false (bytes_eq name (codes "Named")) where
  or_false : (b : Bool) → (b || false) ≡ b
  or_false true = refl
  or_false false = refl

class_is : (name : Bytes) → is_among name hilt_names ≡ is_some (class_named name)
unfolding is_among
class_is name = sym (is_some-find (λ c. has_name name (row_of c)) components)

default_is : (name : Bytes) → is_among name default_classes ≡ is_some (default_class_named name)
unfolding is_among
default_is name = sym (is_some-position (bytes_eq name) 0 default_classes)

pub predefined_by : (name : Bytes) → is_among name predefined_names ≡ (((((is_among name type_names || bytes_eq name (codes "Named")) || is_among name mark_names) || is_some (class_named name)) || is_among name scope_names) || is_some (default_class_named name))
unfolding predefined_names
predefined_by name = simp (among-append, named_is, class_is, default_is)
