-- Small documents that decide what a component class finds. Hilt's classes have the numbers 0 to 7,
-- and the components of
-- a document have those from 8 on. Items are counted from 0, lines from 1.
use Rattle.std.proofs.Common.{◌≡◌, refl}
use Rattle.std.specs.Prelude.{false, [], ◌∷◌, Some, None, codes, pos}
use Rattle.dg_types.specs.declared.shape.Shape.TheVariants as shape
use Rattle.dg_types.specs.declared.shape.Qualifier.{Qualifier}
use Rattle.dg_types.specs.declared.shape.TypeUse.{TypeUse}
use Rattle.dg_types.specs.declared.key.Key.{Key}
use Rattle.dg_types.specs.declared.key.Base.TheVariants as base
use Rattle.dg_types.specs.declared.key.Core.TheVariants as core
use Rattle.dg_types.specs.declared.key.Inner.{Inner}
use Rattle.dg_types.specs.declared.key.Inner.TheVariants as inner
use Rattle.dg_types.specs.declared.key.MapKind.TheVariants as map_kind
use Rattle.dg_types.specs.declared.key.MapKeyVal.TheVariants as map_key
use Rattle.dg_decl.specs.declared.document.Doc.{Doc}
use Rattle.dg_decl.specs.declared.expression.Expr.TheVariants as expr
use Rattle.dg_decl.specs.declared.item.Mark.TheVariants as mark
use Rattle.dg_decl.specs.declared.item.Item.TheVariants as item
use Rattle.dg_decl.specs.declared.binding.BindRef.TheVariants as ref
use Rattle.dg_decl.specs.declared.binding.Found.TheVariants as found
use Rattle.dg_decl.specs.Components.{installed}
use Rattle.dg_decl.specs.Lookup.{owned, inside_key, line_of_multi, find}
use Rattle.dg_decl.proofs.ExampleWords.{looks_up, doc_of, bare_use, key_of, text_use, text_key, class_use, class_key, text_set, optional_text, module_line, including_line, component_line, child_line, text_line, element_line, entry_line, inject_line}

-- a map from integers to texts
abbrev number_map : Inner → Key
number_map i = key_of (core.Map map_kind.Int base.Text i)

abbrev named : Qualifier
named = record { name = codes "Named"; member = Some (codes "x") }

abbrev named_text : TypeUse
named_text = record { qualifier = Some named; shape = shape.Text }

-- a parent and a child bind one key
abbrev parent_and_child : Doc
parent_and_child =
    doc_of (module_line (codes "P")
    ∷ text_line None (codes "t")
    ∷ item.End
    ∷ module_line (codes "Q")
    ∷ text_line None (codes "t")
    ∷ item.End
    ∷ component_line (codes "App") (codes "P" ∷ [])
    ∷ item.End
    ∷ child_line (codes "Act") (codes "App") (codes "Q" ∷ [])
    ∷ entry_line (codes "t")
    ∷ item.End
    ∷ [])

pub a_child_does_not_hide_its_parent :
    find parent_and_child 9 text_key ≡ found.Many (owned 8 (ref.Member 1) ∷ owned 9 (ref.Member 4)
    ∷ [])
unfolding looks_up
a_child_does_not_hide_its_parent = refl

pub a_parent_does_not_see_its_child :
    find parent_and_child 8 text_key ≡ found.One 8 (ref.Member 1)
unfolding looks_up
a_parent_does_not_see_its_child = refl

-- a child adds to a set
abbrev two_and_three : Doc
two_and_three =
    doc_of (module_line (codes "Q")
    ∷ element_line (codes "c")
    ∷ item.End
    ∷ module_line (codes "P")
    ∷ element_line (codes "a")
    ∷ element_line (codes "b")
    ∷ item.End
    ∷ component_line (codes "App") (codes "P" ∷ [])
    ∷ item.End
    ∷ child_line (codes "Act") (codes "App") (codes "Q" ∷ [])
    ∷ item.End
    ∷ [])

pub the_set_of_the_parent :
    find two_and_three 8 (text_set inner.Plain) ≡ found.SetOf (owned 8 (ref.Member 4) ∷ owned 8
    (ref.Member 5) ∷ [])
unfolding looks_up
the_set_of_the_parent = refl

pub the_set_of_the_child :
    find two_and_three 9 (text_set inner.Plain) ≡ found.SetOf (owned 8 (ref.Member 4) ∷ owned 8
    (ref.Member 5) ∷ owned 9 (ref.Member 1) ∷ [])
unfolding looks_up
the_set_of_the_child = refl

pub a_set_of_produced_has_the_same_contributions :
    find two_and_three 9 (text_set inner.Produced) ≡ found.SetOf (owned 8 (ref.Member 4) ∷ owned 8
    (ref.Member 5) ∷ owned 9 (ref.Member 1) ∷ [])
unfolding looks_up
a_set_of_produced_has_the_same_contributions = refl

pub the_line_of_a_set_is_that_of_the_root :
    line_of_multi two_and_three 9 (text_set inner.Plain) ≡ 5
unfolding looks_up
the_line_of_a_set_is_that_of_the_root = refl

-- an optional is declared above, and its inside is bound below
abbrev absent_above : Doc
absent_above =
    doc_of (module_line (codes "P")
    ∷ item.OptionalOf (codes "t") text_use
    ∷ item.End
    ∷ module_line (codes "Q")
    ∷ text_line None (codes "t")
    ∷ item.End
    ∷ component_line (codes "App") (codes "P" ∷ [])
    ∷ item.End
    ∷ child_line (codes "Act") (codes "App") (codes "Q" ∷ [])
    ∷ item.End
    ∷ [])

pub an_optional_is_found_above :
    find absent_above 8 optional_text ≡ found.OptionalOf
unfolding looks_up
an_optional_is_found_above = refl

pub its_inside_is_absent_above :
    find absent_above 8 (inside_key optional_text) ≡ found.Nothing
unfolding looks_up
its_inside_is_absent_above = refl

pub an_optional_is_found_below :
    find absent_above 9 optional_text ≡ found.OptionalOf
unfolding looks_up
an_optional_is_found_below = refl

pub its_inside_is_present_below :
    find absent_above 9 (inside_key optional_text) ≡ found.One 9 (ref.Member 4)
unfolding looks_up
its_inside_is_present_below = refl

pub the_line_of_an_optional_is_its_declaration :
    line_of_multi absent_above 9 optional_text ≡ 2
unfolding looks_up
the_line_of_an_optional_is_its_declaration = refl

pub an_optional_without_a_declaration_is_not_there :
    find parent_and_child 9 optional_text ≡ found.Nothing
unfolding looks_up
an_optional_without_a_declaration_is_not_there = refl

-- a scope that the parent carries, and one that nobody carries
abbrev scoped : Doc
scoped =
    doc_of (item.ScopeLine (codes "S")
    ∷ item.ScopeLine (codes "U")
    ∷ inject_line (Some (codes "S")) (codes "Repo")
    ∷ inject_line (Some (codes "U")) (codes "Lone")
    ∷ inject_line None (codes "Free")
    ∷ item.Component (codes "S" ∷ []) (codes "App") None []
    ∷ item.End
    ∷ child_line (codes "Act") (codes "App") []
    ∷ item.End
    ∷ [])

pub a_scoped_class_is_owned_by_the_nearest_carrier :
    find scoped 9 (class_key (codes "Repo")) ≡ found.One 8 (ref.ClassItem 2)
unfolding looks_up
a_scoped_class_is_owned_by_the_nearest_carrier = refl

pub a_scope_that_nobody_carries_is_bad :
    find scoped 9 (class_key (codes "Lone")) ≡ found.BadScope 3
unfolding looks_up
a_scope_that_nobody_carries_is_bad = refl

pub an_unscoped_class_is_owned_by_who_asks :
    find scoped 9 (class_key (codes "Free")) ≡ found.One 9 (ref.ClassItem 4)
unfolding looks_up
an_unscoped_class_is_owned_by_who_asks = refl

pub a_qualified_key_is_bound_by_no_class :
    find scoped 9 (record { qualifier = Some named; core = core.One (base.Named (codes "Free")) })
    ≡ found.Nothing
unfolding looks_up
a_qualified_key_is_bound_by_no_class = refl

-- a map has two entries
abbrev two_entries : Doc
two_entries =
    doc_of (module_line (codes "M")
    ∷ text_line (Some (mark.IntoMap (map_key.Int (pos 1)))) (codes "a")
    ∷ text_line (Some (mark.IntoMap (map_key.Int (pos 2)))) (codes "b")
    ∷ item.End
    ∷ component_line (codes "App") (codes "M" ∷ [])
    ∷ item.End
    ∷ [])

pub a_map_has_its_contributions :
    find two_entries 8 (number_map inner.Plain) ≡ found.MapOf (owned 8 (ref.Member 1) ∷ owned 8
    (ref.Member 2) ∷ [])
unfolding looks_up
a_map_has_its_contributions = refl

pub a_map_of_providers_has_the_same_contributions :
    find two_entries 8 (number_map inner.Provider) ≡ found.MapOf (owned 8 (ref.Member 1) ∷ owned 8
    (ref.Member 2) ∷ [])
unfolding looks_up
a_map_of_providers_has_the_same_contributions = refl

pub a_map_with_other_keys_is_not_there :
    find two_entries 8 (key_of (core.Map map_kind.Text base.Text inner.Plain)) ≡ found.Nothing
unfolding looks_up
a_map_with_other_keys_is_not_there = refl

-- a set is declared and has no elements
abbrev declared_set : Doc
declared_set =
    doc_of (module_line (codes "M")
    ∷ item.Multibinds (codes "s") (bare_use (shape.Set shape.Text))
    ∷ item.End
    ∷ component_line (codes "App") (codes "M" ∷ [])
    ∷ item.End
    ∷ [])

pub a_declared_set_may_be_empty :
    find declared_set 8 (text_set inner.Plain) ≡ found.SetOf []
unfolding looks_up
a_declared_set_may_be_empty = refl

pub a_set_that_is_not_declared_is_not_there :
    find parent_and_child 8 (text_set inner.Plain) ≡ found.Nothing
unfolding looks_up
a_set_that_is_not_declared_is_not_there = refl

pub the_line_of_an_empty_set_is_its_declaration :
    line_of_multi declared_set 8 (text_set inner.Plain) ≡ 2
unfolding looks_up
the_line_of_an_empty_set_is_its_declaration = refl

-- a test module stands in the place of a module
abbrev replaced : Doc
replaced =
    doc_of (item.Module (Some (codes "SingletonComponent")) (codes "M") []
    ∷ text_line None (codes "t")
    ∷ item.End
    ∷ item.TestModule (codes "SingletonComponent") (codes "T") (codes "M" ∷ []) []
    ∷ text_line None (codes "t")
    ∷ item.End
    ∷ component_line (codes "App") (codes "M" ∷ [])
    ∷ item.End
    ∷ [])

pub a_replaced_module_is_not_installed :
    installed replaced 0 ≡ 3 ∷ []
unfolding looks_up
a_replaced_module_is_not_installed = refl

pub a_replaced_module_is_not_installed_by_a_header_either :
    installed replaced 8 ≡ []
unfolding looks_up
a_replaced_module_is_not_installed_by_a_header_either = refl

pub the_test_module_binds :
    find replaced 0 text_key ≡ found.One 0 (ref.Member 4)
unfolding looks_up
the_test_module_binds = refl

-- a module that is replaced stands in the middle of a walk of includes
abbrev replaced_on_the_way : Doc
replaced_on_the_way =
    doc_of (including_line (codes "A") (codes "B" ∷ [])
    ∷ item.End
    ∷ item.Module (Some (codes "ActivityComponent")) (codes "B") (codes "C" ∷ [])
    ∷ item.End
    ∷ module_line (codes "C")
    ∷ item.End
    ∷ item.TestModule (codes "ActivityComponent") (codes "T") (codes "B" ∷ []) []
    ∷ item.End
    ∷ component_line (codes "App") (codes "A" ∷ [])
    ∷ item.End
    ∷ [])

pub no_walk_goes_through_a_replaced_module :
    installed replaced_on_the_way 8 ≡ 0 ∷ []
unfolding looks_up
no_walk_goes_through_a_replaced_module = refl

-- a module is included by two others, and by itself
abbrev included_twice : Doc
included_twice =
    doc_of (including_line (codes "A") (codes "C" ∷ [])
    ∷ item.End
    ∷ including_line (codes "B") (codes "C" ∷ [])
    ∷ item.End
    ∷ including_line (codes "C") (codes "C" ∷ [])
    ∷ text_line None (codes "t")
    ∷ item.End
    ∷ component_line (codes "App") (codes "A" ∷ codes "B" ∷ [])
    ∷ item.End
    ∷ [])

pub a_module_that_is_reached_twice_counts_once :
    installed included_twice 8 ≡ 0 ∷ 2 ∷ 4 ∷ []
unfolding looks_up
a_module_that_is_reached_twice_counts_once = refl

pub its_binding_counts_once :
    find included_twice 8 text_key ≡ found.One 8 (ref.Member 5)
unfolding looks_up
its_binding_counts_once = refl

-- a child names a module that its parent has
abbrev installed_above : Doc
installed_above =
    doc_of (module_line (codes "P")
    ∷ text_line None (codes "t")
    ∷ item.End
    ∷ including_line (codes "Q") (codes "P" ∷ [])
    ∷ item.End
    ∷ component_line (codes "App") (codes "P" ∷ [])
    ∷ item.End
    ∷ child_line (codes "Act") (codes "App") (codes "P" ∷ codes "Q" ∷ [])
    ∷ item.End
    ∷ [])

pub a_module_of_an_ancestor_is_not_installed_again :
    installed installed_above 9 ≡ 3 ∷ []
unfolding looks_up
a_module_of_an_ancestor_is_not_installed_again = refl

pub its_binding_is_that_of_the_ancestor :
    find installed_above 9 text_key ≡ found.One 8 (ref.Member 1)
unfolding looks_up
its_binding_is_that_of_the_ancestor = refl

-- a component depends on another, which has a text and a set as entries
abbrev exposing : Doc
exposing =
    doc_of (component_line (codes "Dep") []
    ∷ item.Entry (codes "s") (bare_use (shape.Set shape.Text))
    ∷ entry_line (codes "t")
    ∷ item.End
    ∷ component_line (codes "App") []
    ∷ item.DependsOn (codes "Dep")
    ∷ item.End
    ∷ [])

pub an_exposed_entry_is_found :
    find exposing 9 text_key ≡ found.One 9 (ref.Exposed 0 2)
unfolding looks_up
an_exposed_entry_is_found = refl

pub a_set_is_not_exposed :
    find exposing 9 (text_set inner.Plain) ≡ found.Nothing
unfolding looks_up
a_set_is_not_exposed = refl

-- modules before and after the component, a bound argument and two dependencies bind one key
abbrev exposing_beside : Doc
exposing_beside =
    doc_of (module_line (codes "Before")
    ∷ text_line None (codes "t")
    ∷ item.End
    ∷ component_line (codes "First") []
    ∷ entry_line (codes "t")
    ∷ entry_line (codes "u")
    ∷ item.End
    ∷ component_line (codes "Second") []
    ∷ entry_line (codes "t")
    ∷ item.End
    ∷ component_line (codes "App") (codes "After" ∷ codes "Before" ∷ [])
    ∷ item.BindsInstance (codes "a") text_use
    ∷ item.DependsOn (codes "Second")
    ∷ item.DependsOn (codes "First")
    ∷ item.End
    ∷ module_line (codes "After")
    ∷ text_line None (codes "t")
    ∷ item.End
    ∷ [])

pub exposed_entries_stand_at_the_header :
    find exposing_beside 10 text_key ≡ found.Many (owned 10 (ref.Member 1) ∷ owned 10
    (ref.Exposed 0 8) ∷ owned 10 (ref.Exposed 1 4) ∷ owned 10 (ref.Exposed 1 5) ∷ owned 10
    (ref.Arg 0) ∷ owned 10 (ref.Member 16) ∷ [])
unfolding looks_up
exposed_entries_stand_at_the_header = refl

-- a module binds what Hilt binds by default
abbrev defaults : Doc
defaults =
    doc_of (item.Module (Some (codes "SingletonComponent")) (codes "M") []
    ∷ item.Binds None None (codes "b") (record {
      name = codes "p";
      shape = class_use
          (codes "Service");
    }) (class_use (codes "Application"))
    ∷ item.End
    ∷ [])

pub a_default_binding_is_found :
    find defaults 5 (class_key (codes "Activity")) ≡ found.One 4 ref.Default
unfolding looks_up
a_default_binding_is_found = refl

pub a_default_binding_stands_first :
    find defaults 0 (class_key (codes "Application")) ≡ found.Many (owned 0 ref.Default ∷ owned 0
    (ref.Member 1) ∷ [])
unfolding looks_up
a_default_binding_stands_first = refl

pub a_default_binding_of_a_sibling_is_not_there :
    find defaults 4 (class_key (codes "View")) ≡ found.Nothing
unfolding looks_up
a_default_binding_of_a_sibling_is_not_there = refl

-- a set with an element, elements and a qualified element
abbrev elements : Doc
elements =
    doc_of (module_line (codes "M")
    ∷ element_line (codes "a")
    ∷ item.Provides (Some mark.ElementsIntoSet) None (codes "b") [] (bare_use
    (shape.Set shape.Text)) (expr.Text (codes "x"))
    ∷ item.Provides (Some mark.IntoSet) None (codes "c") [] named_text (expr.Text (codes "x"))
    ∷ text_line None (codes "d")
    ∷ item.End
    ∷ component_line (codes "App") (codes "M" ∷ [])
    ∷ item.End
    ∷ [])

pub elements_of_both_kinds :
    find elements 8 (text_set inner.Plain) ≡ found.SetOf (owned 8 (ref.Member 1) ∷ owned 8
    (ref.Member 2) ∷ [])
unfolding looks_up
elements_of_both_kinds = refl

pub a_qualified_element_is_of_the_qualified_set :
    find elements 8 (record { qualifier = Some named; core = core.Set base.Text inner.Plain })
    ≡ found.SetOf (owned 8 (ref.Member 3) ∷ [])
unfolding looks_up
a_qualified_element_is_of_the_qualified_set = refl

pub an_element_is_no_binding_of_its_type :
    find elements 8 text_key ≡ found.One 8 (ref.Member 4)
unfolding looks_up
an_element_is_no_binding_of_its_type = refl

pub no_element_is_bound_by_itself :
    find two_and_three 9 text_key ≡ found.Nothing
unfolding looks_up
no_element_is_bound_by_itself = refl

-- a class with an injected constructor is bound explicitly
abbrev overridden : Doc
overridden =
    doc_of (inject_line None (codes "Db")
    ∷ module_line (codes "M")
    ∷ item.Binds None None (codes "b") (record { name = codes "p"; shape = class_use (codes "Db") })
    (class_use (codes "Db"))
    ∷ item.End
    ∷ component_line (codes "App") (codes "M" ∷ [])
    ∷ item.End
    ∷ component_line (codes "Other") []
    ∷ item.End
    ∷ item.Class false None (codes "Plain") [] []
    ∷ [])

pub an_explicit_binding_is_used_in_its_place :
    find overridden 8 (class_key (codes "Db")) ≡ found.One 8 (ref.Member 2)
unfolding looks_up
an_explicit_binding_is_used_in_its_place = refl

pub another_component_injects_the_class :
    find overridden 9 (class_key (codes "Db")) ≡ found.One 9 (ref.ClassItem 0)
unfolding looks_up
another_component_injects_the_class = refl

pub a_class_without_an_injected_constructor_is_not_bound :
    find overridden 8 (class_key (codes "Plain")) ≡ found.Nothing
unfolding looks_up
a_class_without_an_injected_constructor_is_not_bound = refl
