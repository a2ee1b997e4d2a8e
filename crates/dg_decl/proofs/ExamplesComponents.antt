-- Small documents that decide the classes of components, and the rules on them. Lines are counted
-- from 1.
use Rattle.std.proofs.Common.{◌≡◌, refl}
use Rattle.std.specs.Prelude.{[], ◌∷◌, Some, None, codes, drop}
use Rattle.dg_lex.specs.Bytes.{Bytes}
use Rattle.dg_decl.specs.declared.document.Doc.{Doc}
use Rattle.dg_decl.specs.declared.item.Item.TheVariants as item
use Rattle.dg_decl.specs.declared.violation.Rule.{Rule}
use Rattle.dg_decl.specs.declared.violation.Rule.TheVariants as rule
use Rattle.dg_decl.specs.declared.violation.Violation.{Violation}
use Rattle.dg_decl.specs.Components.{chain, entries_of, component_classes}
use Rattle.dg_decl.specs.Stages.Components.{components_stage}
use Rattle.dg_decl.specs.Stages.Dependencies.{dependencies_stage}
use Rattle.dg_decl.proofs.ExampleWords.{looks_up, doc_of, text_use, module_line, entry_line}

abbrev broken : Rule → Bytes → Bytes → Violation
broken r site detail = record { rule = r; site = site; detail = Some detail }

pub the_chain_of_a_fragment_view : chain (doc_of []) 7 ≡ 7 ∷ 5 ∷ 4 ∷ 1 ∷ 0 ∷ []
unfolding looks_up
the_chain_of_a_fragment_view = refl

-- a component, its subcomponent, and one that is defined in one of Hilt's
abbrev three : Doc
three =
    doc_of (item.Component [] (codes "Act") (Some (codes "App")) []
    ∷ item.End
    ∷ item.Component [] (codes "App") None []
    ∷ item.End
    ∷ item.DefineComponent [] (codes "Mine") (codes "ViewComponent")
    ∷ item.End
    ∷ [])

pub a_parent_may_stand_below :
    chain three 8 ≡ 8 ∷ 9 ∷ []
unfolding looks_up
a_parent_may_stand_below = refl

pub a_component_without_a_parent_is_a_root :
    chain three 9 ≡ 9 ∷ []
unfolding looks_up
a_component_without_a_parent_is_a_root = refl

pub a_defined_component_has_hilt_ancestors :
    chain three 10 ≡ 10 ∷ 6 ∷ 4 ∷ 1 ∷ 0 ∷ []
unfolding looks_up
a_defined_component_has_hilt_ancestors = refl

pub nothing_is_broken_by_three :
    components_stage three ≡ []
unfolding looks_up
nothing_is_broken_by_three = refl

-- two components are each other's parent, and a third is a subcomponent of one of them
abbrev circle : Doc
circle =
    doc_of (item.ScopeLine (codes "S")
    ∷ item.Component (codes "S" ∷ []) (codes "A") (Some (codes "B")) []
    ∷ item.End
    ∷ item.Component (codes "S" ∷ []) (codes "B") (Some (codes "A")) []
    ∷ item.End
    ∷ item.Component (codes "S" ∷ []) (codes "C") (Some (codes "A")) []
    ∷ item.End
    ∷ [])

pub those_on_the_cycle_are_their_own_ancestors :
    components_stage circle ≡ broken rule.ParentCycle (codes "line 2") (codes "A")
    ∷ broken rule.ParentCycle (codes "line 4") (codes "B") ∷ []
unfolding looks_up
those_on_the_cycle_are_their_own_ancestors = refl

-- a subcomponent carries the scope of its parent, written twice
abbrev two_scopes : Doc
two_scopes =
    doc_of (item.ScopeLine (codes "S")
    ∷ item.ScopeLine (codes "U")
    ∷ item.Component (codes "S" ∷ []) (codes "App") None []
    ∷ item.End
    ∷ item.Component (codes "S" ∷ codes "U" ∷ codes "S" ∷ []) (codes "Act") (Some (codes "App")) []
    ∷ item.End
    ∷ [])

pub each_scope_of_an_ancestor_is_told :
    components_stage two_scopes ≡ broken rule.AncestorScope (codes "line 5") (codes "S")
    ∷ broken rule.AncestorScope (codes "line 5") (codes "S") ∷ []
unfolding looks_up
each_scope_of_an_ancestor_is_told = refl

-- a defined component carries the scope of one of Hilt's that is its ancestor
abbrev hilt_scope : Doc
hilt_scope =
    doc_of (item.DefineComponent (codes "Singleton" ∷ codes "FragmentScoped" ∷ []) (codes "Mine")
    (codes "ActivityComponent")
    ∷ item.End
    ∷ [])

pub hilt_scopes_count :
    components_stage hilt_scope ≡ broken rule.AncestorScope (codes "line 1") (codes "Singleton")
    ∷ []
unfolding looks_up
hilt_scopes_count = refl

-- two entry points of a component and its block have an entry of one name
abbrev same_entry : Doc
same_entry =
    doc_of (item.EntryPoint (codes "App") (codes "E")
    ∷ entry_line (codes "t")
    ∷ item.End
    ∷ item.EntryPoint (codes "ViewComponent") (codes "F")
    ∷ entry_line (codes "t")
    ∷ item.End
    ∷ item.Component [] (codes "App") None []
    ∷ entry_line (codes "u")
    ∷ entry_line (codes "t")
    ∷ item.End
    ∷ [])

pub an_entry_of_the_same_class_is_told :
    components_stage same_entry ≡ broken rule.DuplicateEntry (codes "line 9") (codes "t") ∷ []
unfolding looks_up
an_entry_of_the_same_class_is_told = refl

pub the_entries_of_all_blocks :
    entries_of same_entry 8 ≡ 1 ∷ 7 ∷ 8 ∷ []
unfolding looks_up
the_entries_of_all_blocks = refl

-- a test module replaces a module with an annotation, one without, and itself
abbrev replacing : Doc
replacing =
    doc_of (item.Module (Some (codes "SingletonComponent")) (codes "M") []
    ∷ item.End
    ∷ module_line (codes "N")
    ∷ item.End
    ∷ item.TestModule (codes "SingletonComponent") (codes "T") (codes "M" ∷ codes "N" ∷ codes "T"
    ∷ []) []
    ∷ item.End
    ∷ [])

pub only_an_installed_module_may_be_replaced :
    components_stage replacing ≡ broken rule.BadReplace (codes "line 5") (codes "N")
    ∷ broken rule.BadReplace (codes "line 5") (codes "T") ∷ []
unfolding looks_up
only_an_installed_module_may_be_replaced = refl

-- components depend on themselves, on each other, twice on one, and beside a parent
abbrev depending : Doc
depending =
    doc_of (item.Component [] (codes "Self") None []
    ∷ item.DependsOn (codes "Self")
    ∷ item.End
    ∷ item.Component [] (codes "A") None []
    ∷ item.DependsOn (codes "B")
    ∷ item.End
    ∷ item.Component [] (codes "B") None []
    ∷ item.DependsOn (codes "A")
    ∷ item.End
    ∷ item.Component [] (codes "Root") None []
    ∷ item.DependsOn (codes "Self")
    ∷ item.End
    ∷ item.Component [] (codes "Child") (Some (codes "Root")) []
    ∷ item.DependsOn (codes "Self")
    ∷ item.End
    ∷ item.Component [] (codes "Good") None []
    ∷ item.DependsOn (codes "SingletonComponent")
    ∷ item.DependsOn (codes "Root")
    ∷ item.DependsOn (codes "SingletonComponent")
    ∷ item.End
    ∷ [])

pub each_bad_dependency_is_told_once :
    dependencies_stage depending ≡ broken rule.BadDependsOn (codes "line 2") (codes "Self")
    ∷ broken rule.BadDependsOn (codes "line 5") (codes "B") ∷ broken rule.BadDependsOn
    (codes "line 8") (codes "A") ∷ broken rule.BadDependsOn (codes "line 14") (codes "Self")
    ∷ broken rule.BadDependsOn (codes "line 19") (codes "SingletonComponent") ∷ []
unfolding looks_up
each_bad_dependency_is_told_once = refl

-- a component depends on a subcomponent of its own
abbrev above : Doc
above =
    doc_of (item.Component [] (codes "App") None []
    ∷ item.DependsOn (codes "Act")
    ∷ item.End
    ∷ item.Component [] (codes "Act") (Some (codes "App")) []
    ∷ item.End
    ∷ [])

pub a_walk_of_parents_leads_back_too :
    dependencies_stage above ≡ broken rule.BadDependsOn (codes "line 2") (codes "Act") ∷ []
unfolding looks_up
a_walk_of_parents_leads_back_too = refl

-- a component with all that a class holds
abbrev whole : Doc
whole =
    doc_of (item.ScopeLine (codes "S")
    ∷ module_line (codes "M")
    ∷ item.End
    ∷ item.Component [] (codes "Dep") None []
    ∷ item.End
    ∷ item.Component (codes "S" ∷ []) (codes "App") None (codes "M" ∷ [])
    ∷ item.BindsInstance (codes "a") text_use
    ∷ item.DependsOn (codes "Dep")
    ∷ entry_line (codes "t")
    ∷ item.End
    ∷ [])

pub a_class_of_the_tree :
    drop 9 (component_classes whole)
    ≡ record {
      name = codes "App";
      parent = None;
      scopes = codes "S" ∷ [];
      modules = 1 ∷ [];
      bound = record { name = codes "a"; shape = text_use } ∷ [];
      entries = 8 ∷ [];
      deps = 8 ∷ [];
    } ∷ []
unfolding looks_up
a_class_of_the_tree = refl
