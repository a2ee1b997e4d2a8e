-- What a mention of a name wants, as the stage of names finds it.
use Rattle.std.specs.Prelude.{Bool, true, false, ◌||◌, List}
use Rattle.std.specs.List.{list_any}
use Rattle.std.specs.Str.{bytes_eq}
use Rattle.dg_lex.specs.Bytes.{Bytes, is_among}
use Rattle.dg_hilt.specs.Table.{hilt_names, default_classes}
use Rattle.dg_hilt.specs.Names.{qualifier_names, scope_names}
use Rattle.dg_decl.specs.declared.item.Item.{Item}
use Rattle.dg_decl.specs.declared.item.Param.{Param}
use Rattle.dg_decl.specs.Names.{is_module, is_class}
use Rattle.dg_decl.specs.Stages.Names as stage
use Rattle.dg_typing.specs.declared.names_stage.wanted.Wanted.{Wanted}
use Rattle.dg_typing.specs.declared.names_stage.wanted.Wanted.TheVariants as wanted

abbrev pub wanted_of : Wanted → stage.Wanted
wanted_of wanted.Scope = stage.Wanted.scope
wanted_of wanted.Qualifier = stage.Wanted.qualifier
wanted_of wanted.QualifierWithMember = stage.Wanted.qualifier_with_member
wanted_of wanted.Type = stage.Wanted.type
wanted_of wanted.Interface = stage.Wanted.interface
wanted_of wanted.Class = stage.Wanted.class
wanted_of wanted.Module = stage.Wanted.modules
wanted_of wanted.Component = stage.Wanted.component
wanted_of wanted.InstallTarget = stage.Wanted.install_target
wanted_of wanted.ComponentClass = stage.Wanted.component_class

-- an item is of the kind that is wanted
abbrev pub is_of_kind : Wanted → Item → Bool
is_of_kind wanted.Scope i = stage.is_scope_item i
is_of_kind wanted.Qualifier i = stage.is_qualifier_item false i
is_of_kind wanted.QualifierWithMember i = stage.is_qualifier_item true i
is_of_kind wanted.Type i = is_class i || stage.is_interface_item i
is_of_kind wanted.Interface i = stage.is_interface_item i
is_of_kind wanted.Class i = is_class i
is_of_kind wanted.Module i = is_module i
is_of_kind wanted.Component i = stage.is_component_item i
is_of_kind wanted.InstallTarget i = stage.is_defined_component_item i
is_of_kind wanted.ComponentClass i = stage.is_component_item i || stage.is_defined_component_item i

-- a name is predefined as what is wanted
abbrev pub is_predefined_as : Wanted → Bytes → Bool
is_predefined_as wanted.Scope n = is_among n scope_names
is_predefined_as wanted.Qualifier n = false
is_predefined_as wanted.QualifierWithMember n = is_among n qualifier_names
is_predefined_as wanted.Type n = is_among n default_classes
is_predefined_as wanted.Interface n = false
is_predefined_as wanted.Class n = is_among n default_classes
is_predefined_as wanted.Module n = false
is_predefined_as wanted.Component n = false
is_predefined_as wanted.InstallTarget n = is_among n hilt_names
is_predefined_as wanted.ComponentClass n = is_among n hilt_names

-- a name is that of a parameter
abbrev pub is_param : List Param → Bytes → Bool
is_param params n = list_any (λ p. bytes_eq p.name n) params
