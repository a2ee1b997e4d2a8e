-- Words for small documents in examples.
use denote.Hole.Carrier.{out, shown, hidden}
use Rattle.std.specs.Prelude.{ℕ, zero, true, List, [], length, Option, Some, None, codes}
use Rattle.std.specs.List.{range_with_len}
use Rattle.dg_lex.specs.Bytes.{Bytes}
use Rattle.dg_types.specs.declared.shape.Shape as shapes
use Rattle.dg_types.specs.declared.shape.Shape.TheBlock as block
use Rattle.dg_types.specs.declared.shape.Shape.{Shape}
use Rattle.dg_types.specs.declared.shape.Shape.TheVariants as shape
use Rattle.dg_types.specs.declared.shape.TypeUse.{TypeUse}
use Rattle.dg_types.specs.declared.key.Key.{Key}
use Rattle.dg_types.specs.declared.key.Base.TheVariants as base
use Rattle.dg_types.specs.declared.key.Core.{Core}
use Rattle.dg_types.specs.declared.key.Core.TheVariants as core
use Rattle.dg_types.specs.declared.key.Inner.{Inner}
use Rattle.dg_types.specs.declared.key.Inner.TheVariants as inner
use Rattle.dg_types.specs.Requests.{base_of, kind_of, value_of, inside_of, core_of, plain_of, produced_of, producing_of, asked_of, request_of}
use Rattle.dg_types.specs.Equality.{same_key}
use Rattle.dg_hilt.specs.Names as hilt_names
use Rattle.dg_decl.specs.declared.document.Doc.{Doc}
use Rattle.dg_decl.specs.declared.expression.Expr.TheVariants as expr
use Rattle.dg_decl.specs.declared.item.Mark.{Mark}
use Rattle.dg_decl.specs.declared.item.Mark.TheVariants as mark
use Rattle.dg_decl.specs.declared.item.Param.{Param}
use Rattle.dg_decl.specs.declared.item.Item.{Item}
use Rattle.dg_decl.specs.declared.item.Item.TheVariants as item
use Rattle.dg_decl.specs.Document.{statements}
use Rattle.std.specs.Fmt.{digits}
use Rattle.dg_decl.specs.Sites.{site_of_line}
use Rattle.dg_decl.specs.Names.{declared, module_named, class_item_named, fields_of}
use Rattle.dg_decl.specs.Components.{class_count, class_named, class_name, header_of, parent_of, ancestors, chain, is_own_ancestor, scopes_of, is_replaced, seeds, included, is_reached, is_installed, installed, bound_of, class_around, entries_of, deps_of, exposed_of, component_classes}
use Rattle.dg_decl.specs.Lookup.{bindings, explicit, explicit_in_chain, contributions, is_declared, is_optional_declared, find_without_explicit, line_of_multi, find}
use Rattle.dg_decl.specs.Stages.Components.{parent_cycle, ancestor_scope, duplicate_entry, bad_replace, components_stage}
use Rattle.dg_decl.specs.Stages.Dependencies.{stands_on, is_below, bad_depends_on, dependencies_stage}

-- what an example unfolds: a proof that unfolds this unfolds them all
unfoldable pub looks_up : ℕ
unfolding digits site_of_line shapes.out-Shape out shown hidden block.shown-the_row-Shape-0 base_of
    kind_of value_of inside_of core_of plain_of produced_of producing_of asked_of request_of
    same_key hilt_names.predefined_names statements declared module_named class_item_named fields_of class_count class_named
    class_name header_of parent_of ancestors chain is_own_ancestor scopes_of is_replaced seeds
    included is_reached is_installed installed bound_of class_around entries_of deps_of exposed_of
    component_classes bindings explicit explicit_in_chain contributions is_declared
    is_optional_declared find_without_explicit line_of_multi find parent_cycle ancestor_scope
    duplicate_entry bad_replace components_stage stands_on is_below bad_depends_on
    dependencies_stage
looks_up = zero

-- these items on the lines 1, 2 and so on
abbrev pub doc_of : List Item → Doc
doc_of items = record { items = items; lines = range_with_len 1 (length items) }

abbrev pub bare_use : Shape → TypeUse
bare_use s = record { qualifier = None; shape = s }

abbrev pub key_of : Core → Key
key_of c = record { qualifier = None; core = c }

abbrev pub text_use : TypeUse
text_use = bare_use shape.Text

abbrev pub text_key : Key
text_key = key_of (core.One base.Text)

abbrev pub class_use : Bytes → TypeUse
class_use n = bare_use (shape.Named n)

abbrev pub class_key : Bytes → Key
class_key n = key_of (core.One (base.Named n))

abbrev pub text_set : Inner → Key
text_set i = key_of (core.Set base.Text i)

abbrev pub optional_text : Key
optional_text = key_of (core.Optional base.Text inner.Plain)

abbrev pub module_line : Bytes → Item
module_line n = item.Module None n []

abbrev pub including_line : Bytes → List Bytes → Item
including_line n includes = item.Module None n includes

abbrev pub component_line : Bytes → List Bytes → Item
component_line n modules = item.Component [] n None modules

abbrev pub child_line : Bytes → Bytes → List Bytes → Item
child_line n parent modules = item.Component [] n (Some parent) modules

-- a member that gives a text
abbrev pub text_line : Option Mark → Bytes → Item
text_line m n = item.Provides m None n [] text_use (expr.Text (codes "x"))

-- a member that gives an element of a set of texts
abbrev pub element_line : Bytes → Item
element_line n = text_line (Some mark.IntoSet) n

-- an entry of a text
abbrev pub entry_line : Bytes → Item
entry_line n = item.Entry n text_use

-- a class with `@Inject`
abbrev pub inject_line : Option Bytes → Bytes → Item
inject_line scope n = item.Class true scope n [] []

abbrev pub parameter : Bytes → TypeUse → Param
parameter n use_type = record { name = n; shape = use_type }
