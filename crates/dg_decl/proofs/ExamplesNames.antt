-- A small document that decides what a name stands for.
use Rattle.std.proofs.Common.{◌≡◌, refl}
use Rattle.std.specs.Prelude.{false, [], ◌∷◌, Some, None, codes}
use Rattle.dg_decl.specs.declared.document.Doc.{Doc}
use Rattle.dg_decl.specs.declared.item.Item.TheVariants as item
use Rattle.dg_decl.specs.Names.{module_named, fields_of}
use Rattle.dg_decl.specs.Components.{class_named}
use Rattle.dg_decl.proofs.ExampleWords.{looks_up, doc_of, text_use, module_line, component_line}

-- names that are declared twice, or are predefined
abbrev twice : Doc
twice =
    doc_of (module_line (codes "M")
    ∷ item.End
    ∷ component_line (codes "M") []
    ∷ item.End
    ∷ component_line (codes "App") []
    ∷ item.End
    ∷ module_line (codes "App")
    ∷ item.End
    ∷ item.Class false None (codes "View") [] []
    ∷ item.Class false None (codes "Db") (record { name = codes "url"; shape = text_use } ∷ []) []
    ∷ item.Class false None (codes "Db") [] []
    ∷ module_line (codes "Text")
    ∷ item.End
    ∷ [])

pub the_first_declaration_is_a_module :
    module_named twice (codes "M") ≡ Some 0
unfolding looks_up
the_first_declaration_is_a_module = refl

pub so_no_component_has_its_name :
    class_named twice (codes "M") ≡ None
unfolding looks_up
so_no_component_has_its_name = refl

pub its_header_has_a_number_all_the_same :
    class_named twice (codes "App") ≡ Some 9
unfolding looks_up
its_header_has_a_number_all_the_same = refl

pub a_later_module_is_not_named :
    module_named twice (codes "App") ≡ None
unfolding looks_up
a_later_module_is_not_named = refl

pub a_predefined_name_is_declared_by_no_line :
    module_named twice (codes "Text") ≡ None
unfolding looks_up
a_predefined_name_is_declared_by_no_line = refl

pub a_class_of_hilt_has_a_name :
    fields_of twice (codes "View") ≡ Some (record { name = codes "name"; shape = text_use } ∷ [])
unfolding looks_up
a_class_of_hilt_has_a_name = refl

pub the_first_class_has_the_fields :
    fields_of twice (codes "Db") ≡ Some (record { name = codes "url"; shape = text_use } ∷ [])
unfolding looks_up
the_first_class_has_the_fields = refl

pub a_name_that_nobody_declares :
    fields_of twice (codes "Gone") ≡ None
unfolding looks_up
a_name_that_nobody_declares = refl

pub hilt_classes_have_their_numbers :
    class_named twice (codes "ViewWithFragmentComponent") ≡ Some 7
unfolding looks_up
hilt_classes_have_their_numbers = refl
