-- Words for small documents in examples of what is judged, beside those for look-ups.
use Rattle.std.specs.Prelude.{ℕ, zero, List, Some, None, codes}
use Rattle.dg_lex.specs.Bytes.{Bytes}
use Rattle.dg_types.specs.declared.shape.Shape.{Shape}
use Rattle.dg_types.specs.declared.shape.Shape.TheVariants as shape
use Rattle.dg_types.specs.declared.shape.TypeUse.{TypeUse}
use Rattle.dg_types.specs.Requests.{is_plain_use, is_use, shape_of_core, use_of, use_of_key}
use Rattle.dg_types.specs.Equality.{same_map_key, same_shape}
use Rattle.dg_types.specs.Texts.{quoted, map_key_text, shape_text, qualifier_text, qualified, use_text, key_text}
use Rattle.dg_decl.specs.declared.expression.Expr.{Expr}
use Rattle.dg_decl.specs.declared.item.Item.{Item}
use Rattle.dg_decl.specs.declared.item.Item.TheVariants as item
use Rattle.dg_decl.specs.declared.item.Param.{Param}
use Rattle.dg_decl.specs.declared.violation.Rule.{Rule}
use Rattle.dg_decl.specs.declared.violation.Violation.{Violation}
use Rattle.dg_decl.specs.Bodies.{called_params}
use Rattle.dg_decl.specs.Graph.{same_node, node_text, site_of_node, site_of_request, deps, candidates, is_reachable, nodes, edges, numbered_edges, is_on_cycle, is_on_call}
use Rattle.dg_decl.specs.Sizes.{passed_on, is_production, depth, size, is_shared, weight}
use Rattle.dg_decl.specs.Typing.{is_assignable, typed, is_typed_condition, tree_checks}
use Rattle.dg_decl.specs.Stages.Names.{duplicate_name, mentions, unknown_name, names_stage}
use Rattle.dg_decl.specs.Stages.Types.{types_of, bad_type, optional_of_inject, type_mismatch, types_stage}
use Rattle.dg_decl.specs.Stages.Bindings.{missing_binding, duplicate_bindings, incompatibly_scoped_bindings, incompatibly_scoped_member, map_keys, depends_on_production, optional_production, dependency_cycle, call_cycle, bindings_at, bindings_stage}
use Rattle.dg_decl.specs.Stages.Sizes.{too_deep, too_heavy, sizes_stage}
use Rattle.dg_decl.specs.Stages.Session.{unknown_instance, wrong_parent, bad_argument, unknown_entry, step_type, bad_path, session_at, session_stage}
use Rattle.dg_decl.specs.Stages.Links.{unknown_linked, tie_of, wrong_dependency, missing_link, links_at, links_stage}
use Rattle.dg_decl.specs.Diagnostics.{diagnostics}
use Rattle.dg_decl.proofs.ExampleWords.{looks_up, bare_use}

-- what an example of a graph or of a stage unfolds: a proof that unfolds this unfolds them all
unfoldable pub judges : ℕ
unfolding looks_up is_plain_use is_use shape_of_core use_of use_of_key same_map_key same_shape
    quoted map_key_text shape_text qualifier_text qualified use_text key_text called_params
    same_node node_text site_of_node site_of_request deps candidates is_reachable nodes edges
    numbered_edges is_on_cycle is_on_call passed_on is_production depth size is_shared weight
    is_assignable typed is_typed_condition tree_checks duplicate_name mentions unknown_name
    names_stage types_of bad_type optional_of_inject type_mismatch types_stage missing_binding
    duplicate_bindings incompatibly_scoped_bindings incompatibly_scoped_member map_keys
    depends_on_production optional_production dependency_cycle call_cycle bindings_at
    bindings_stage too_deep too_heavy sizes_stage unknown_instance wrong_parent bad_argument
    unknown_entry step_type bad_path session_at session_stage unknown_linked tie_of
    wrong_dependency missing_link links_at links_stage diagnostics
judges = zero

abbrev pub int_use : TypeUse
int_use = bare_use shape.Int

abbrev pub provider_use : Shape → TypeUse
provider_use s = bare_use (shape.Provider s)

-- a type with the qualifier `@Named` and this member
abbrev pub named_use : Bytes → Shape → TypeUse
named_use member s =
    record { qualifier = Some (record { name = codes "Named"; member = Some member }); shape = s }

-- `provides` without a mark and a scope
abbrev pub provides_line : Bytes → List Param → TypeUse → Expr → Item
provides_line n params result body = item.Provides None None n params result body

-- a rule that is broken, with a detail
abbrev pub broken_by : Rule → Bytes → Bytes → Violation
broken_by rule site detail = record { rule = rule; site = site; detail = Some detail }

-- a rule that is broken, without a detail
abbrev pub broken : Rule → Bytes → Violation
broken rule site = record { rule = rule; site = site; detail = None }
