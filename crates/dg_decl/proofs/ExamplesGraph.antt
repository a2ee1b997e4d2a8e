-- Small documents that decide the nodes of a graph, their order and their edges. Hilt's classes
-- have the numbers 0 to 7, and the components of a document have those from 8 on. Items are counted
-- from 0, lines from 1.
use Rattle.std.proofs.Common.{◌≡◌, refl, ap}
use Rattle.std.specs.Prelude.{ℕ, true, List, [], ◌∷◌, Option, Some, None, codes, pos, map, filter_map, ◌++◌, option_map}
use Rattle.dg_types.specs.declared.shape.Shape.TheVariants as shape
use Rattle.dg_types.specs.declared.key.Key.{Key}
use Rattle.dg_types.specs.declared.key.Base.TheVariants as base
use Rattle.dg_types.specs.declared.key.Core.TheVariants as core
use Rattle.dg_types.specs.declared.key.MapKind.TheVariants as map_kind
use Rattle.dg_types.specs.declared.key.MapKeyVal.TheVariants as map_key
use Rattle.dg_types.specs.declared.key.Inner.{Inner}
use Rattle.dg_types.specs.declared.key.Inner.TheVariants as inner
use Rattle.dg_lex.specs.Bytes.{Bytes}
use Rattle.dg_decl.specs.declared.document.Doc.{Doc}
use Rattle.dg_decl.specs.declared.expression.CallName.TheVariants as call
use Rattle.dg_decl.specs.declared.expression.ParamCall.TheVariants as by_name
use Rattle.dg_decl.specs.declared.expression.Expr.{Expr}
use Rattle.dg_decl.specs.declared.expression.Expr.TheVariants as expr
use Rattle.dg_decl.specs.declared.expression.Tree.TheVariants as tree
use Rattle.dg_decl.specs.declared.item.Item.{Item}
use Rattle.dg_decl.specs.declared.item.Item.TheVariants as item
use Rattle.dg_decl.specs.declared.item.Mark.TheVariants as mark
use Rattle.dg_decl.specs.declared.binding.BindRef.TheVariants as binding
use Rattle.dg_decl.specs.declared.graph.Node.{Node}
use Rattle.dg_decl.specs.declared.graph.NodeKind.TheVariants as node
use Rattle.dg_decl.specs.declared.graph.Edge.{Edge}
use Rattle.dg_decl.specs.declared.graph.EdgeKind.TheVariants as edge
use Rattle.dg_decl.specs.Graph.{EdgeTo, node_of, site_of_node, deps, nodes, needed_edges, called_edge, calls_of, edges, number_of, numbered_edges}
use Rattle.dg_decl.specs.Sizes.{depth, weight, size}
use Rattle.dg_decl.proofs.ExampleWords.{doc_of, bare_use, key_of, text_use, class_use, text_set, module_line, component_line, element_line, parameter}
use Rattle.dg_decl.proofs.JudgeWords.{judges, int_use, provider_use, named_use, provides_line}
use Rattle.dg_decl.proofs.FoldEquations.{folds}

-- ---- the order of nodes

-- A class asks for an optional in two forms, and a producer for a set in two. The component has a
-- bound argument and two entries.
abbrev forms : Doc
forms =
    doc_of (item.Class true None (codes "C") (parameter (codes "o")
    (bare_use (shape.Optional (shape.Lazy shape.Text))) ∷ parameter (codes "p")
    (bare_use (shape.Optional shape.Text)) ∷ []) []
    ∷ module_line (codes "M")
    ∷ element_line (codes "a")
    ∷ item.OptionalOf (codes "t") text_use
    ∷ item.Produces None (codes "q") (parameter (codes "s")
    (bare_use (shape.Set (shape.Produced shape.Text))) ∷ parameter (codes "u")
    (bare_use (shape.Set shape.Text)) ∷ []) int_use (tree.Leaf (expr.Int (pos 1)))
    ∷ item.End
    ∷ component_line (codes "App") (codes "M" ∷ [])
    ∷ item.BindsInstance (codes "t") text_use
    ∷ item.Entry (codes "q") int_use
    ∷ item.Entry (codes "c") (class_use (codes "C"))
    ∷ item.End
    ∷ [])

abbrev optional_of : Inner → Key
optional_of i = key_of (core.Optional base.Text i)

abbrev in_app : List Node
in_app =
    node_of 8 (node.Bound (binding.ClassItem 0))
    ∷ node_of 8 (node.Bound (binding.Member 2))
    ∷ node_of 8 (node.Multi (text_set inner.Plain))
    ∷ node_of 8 (node.Multi (text_set inner.Produced))
    ∷ node_of 8 (node.Opt (optional_of inner.Plain))
    ∷ node_of 8 (node.Opt (optional_of inner.Lazy))
    ∷ node_of 8 (node.Bound (binding.Member 4))
    ∷ node_of 8 (node.Bound (binding.Arg 0))
    ∷ node_of 8 (node.EntryOf 8)
    ∷ node_of 8 (node.EntryOf 9)
    ∷ []

pub nodes_stand_in_order_of_lines : nodes forms ≡ in_app
unfolding judges
nodes_stand_in_order_of_lines = refl

-- a component exposes an entry to another, and an entry point asks for what Hilt binds
abbrev exposing : Doc
exposing =
    doc_of (component_line (codes "Low") []
    ∷ item.BindsInstance (codes "n") int_use
    ∷ item.Entry (codes "e") int_use
    ∷ item.End
    ∷ component_line (codes "App") []
    ∷ item.DependsOn (codes "Low")
    ∷ item.Entry (codes "f") int_use
    ∷ item.End
    ∷ item.EntryPoint (codes "SingletonComponent") (codes "Point")
    ∷ item.Entry (codes "a") (class_use (codes "Application"))
    ∷ item.End
    ∷ [])

pub nodes_stand_in_order_of_classes :
    nodes exposing ≡ node_of 0 (node.Bound binding.Default)
    ∷ node_of 0 (node.EntryOf 9)
    ∷ node_of 8 (node.Bound (binding.Arg 0))
    ∷ node_of 8 (node.EntryOf 2)
    ∷ node_of 9 (node.Bound (binding.Exposed 0 2))
    ∷ node_of 9 (node.EntryOf 6)
    ∷ []
unfolding judges
nodes_stand_in_order_of_classes = refl

pub sites_of_these_nodes :
    map (site_of_node exposing) (nodes exposing)
    ≡ codes "SingletonComponent/SingletonComponent.application"
    ∷ codes "SingletonComponent/Point.a"
    ∷ codes "Low/Low.n"
    ∷ codes "Low/Low.e"
    ∷ codes "App/Low.e"
    ∷ codes "App/App.f"
    ∷ []
unfolding judges
sites_of_these_nodes = refl

pub an_exposed_entry_leads_to_what_its_own_class_finds :
    edges exposing (node_of 9 (node.Bound (binding.Exposed 0 2)))
    ≡ record { kind = edge.Direct; param = 1; to = node_of 8 (node.Bound (binding.Arg 0)) } ∷ []
unfolding judges
an_exposed_entry_leads_to_what_its_own_class_finds = refl

pub sites_of_sets_and_optionals :
    site_of_node forms (node_of 8 (node.Multi (text_set inner.Produced)))
    ∷ site_of_node forms (node_of 8 (node.Opt (optional_of inner.ProviderLazy)))
    ∷ []
    ≡ codes "App/Set<Produced<Text>>" ∷ codes "App/Optional<Provider<Lazy<Text>>>" ∷ []
unfolding judges
sites_of_sets_and_optionals = simp folds refl

-- ---- edges

-- `cat(get(p), text(n), get(p))`
abbrev calling : Expr
calling =
    expr.Call call.Cat (expr.ByName by_name.Get (codes "p")
    ∷ expr.Call call.TextOf (expr.Param (codes "n") ∷ [])
    ∷ expr.ByName by_name.Get (codes "p") ∷ [])

-- a body calls a Provider twice, and takes one Lazy of a Provider
abbrev called : Doc
called =
    doc_of (module_line (codes "M")
    ∷ provides_line (codes "t") [] text_use (expr.Text (codes "x"))
    ∷ provides_line (codes "n") [] int_use (expr.Int (pos 1))
    ∷ provides_line (codes "c") (parameter (codes "n") int_use
    ∷ parameter (codes "p") (provider_use shape.Text)
    ∷ parameter (codes "l") (provider_use (shape.Lazy shape.Int)) ∷ [])
    (named_use (codes "c") shape.Text)
    (expr.Sum calling (expr.ByName by_name.Get (codes "l")))
    ∷ item.End
    ∷ component_line (codes "App") (codes "M" ∷ [])
    ∷ item.Entry (codes "e") (named_use (codes "c") shape.Text)
    ∷ item.End
    ∷ [])

-- the node whose body calls
abbrev caller : Node
caller = node_of 8 (node.Bound (binding.Member 3))

pub calls_are_in_reading_order :
    calls_of called caller ≡ codes "p" ∷ codes "p" ∷ codes "l" ∷ []
unfolding judges
calls_are_in_reading_order = simp folds refl

-- the edges of this node, where its body calls these parameters
abbrev edges_with : List Bytes → List EdgeTo
edges_with calls =
    needed_edges (deps called caller) ++ filter_map (called_edge (deps called caller)) calls

abbrev numbered_with : List Bytes → List Edge
numbered_with calls =
    filter_map
    (λ e. option_map (λ k. record { kind = e.kind; param = e.param; to = k })
    (number_of (nodes called) e.to))
    (edges_with calls)

pub calls_stand_behind_the_dependencies :
    numbered_edges called caller
    ≡ record { kind = edge.Direct; param = 1; to = 1 }
    ∷ record { kind = edge.Deferred; param = 2; to = 0 }
    ∷ record { kind = edge.Deferred; param = 3; to = 1 }
    ∷ record { kind = edge.Called; param = 2; to = 0 }
    ∷ record { kind = edge.Called; param = 2; to = 0 }
    ∷ []
unfolding judges
calls_stand_behind_the_dependencies = ap numbered_with calls_are_in_reading_order

pub an_entry_has_one_direct_edge :
    numbered_edges called (node_of 8 (node.EntryOf 6))
    ≡ record { kind = edge.Direct; param = 1; to = 2 } ∷ []
unfolding judges
an_entry_has_one_direct_edge = refl

-- `cat` of two calls of a text of size 1 and of `text(n)`, and `get(l)`, joined: 1 for the sum, 1
-- for `cat`, 2 for `text(n)`, and 3 for the calls
pub each_expression_counts_one : size called (node_of 8 (node.Bound (binding.Member 3))) ≡ 7
unfolding judges
each_expression_counts_one = simp folds refl

-- its size, 1 for the integer, and 1 for each call of the text
pub a_weight_counts_direct_and_called_edges :
    weight called (node_of 8 (node.Bound (binding.Member 3))) ≡ 10
unfolding judges
a_weight_counts_direct_and_called_edges = simp folds refl

-- a map of Providers defers its contribution, and a plain map doesn't
abbrev maps : Doc
maps =
    doc_of (module_line (codes "M")
    ∷ item.Provides (Some (mark.IntoMap (map_key.Int (pos 1)))) None (codes "a") [] text_use
    (expr.Text (codes "x"))
    ∷ item.End
    ∷ component_line (codes "App") (codes "M" ∷ [])
    ∷ item.Entry (codes "m") (bare_use (shape.Map shape.Int shape.Text))
    ∷ item.Entry (codes "p") (bare_use (shape.Map shape.Int (shape.Provider shape.Text)))
    ∷ item.End
    ∷ [])

abbrev texts : Inner → Node
texts i = node_of 8 (node.Multi (key_of (core.Map map_kind.Int base.Text i)))

abbrev entry_of_map : Node
entry_of_map = node_of 8 (node.Bound (binding.Member 1))

pub a_map_needs_its_contributions :
    edges maps (texts inner.Plain)
    ≡ record { kind = edge.Direct; param = 1; to = entry_of_map } ∷ []
unfolding judges
a_map_needs_its_contributions = refl

pub a_map_of_providers_defers_its_contributions :
    edges maps (texts inner.Provider)
    ≡ record { kind = edge.Deferred; param = 1; to = entry_of_map } ∷ []
unfolding judges
a_map_of_providers_defers_its_contributions = refl

-- ---- sizes

-- a sum of the one before, taken twice
abbrev adding : Option Bytes → Bytes → Bytes → Bytes → Item
adding scope n from to =
    item.Provides None scope n (parameter (codes "x") (named_use from shape.Int)
    ∷ parameter (codes "y") (named_use from shape.Int) ∷ []) (named_use to shape.Int)
    (expr.Sum (expr.Param (codes "x")) (expr.Param (codes "y")))

-- three sums, of which the second has a scope or none
abbrev growing : Option Bytes → Doc
growing scope =
    doc_of (module_line (codes "M")
    ∷ provides_line (codes "a0") [] (named_use (codes "0") shape.Int) (expr.Int (pos 1))
    ∷ adding scope (codes "a1") (codes "0") (codes "1")
    ∷ adding None (codes "a2") (codes "1") (codes "2")
    ∷ item.End
    ∷ item.Component (codes "Singleton" ∷ []) (codes "App") None (codes "M" ∷ [])
    ∷ item.Entry (codes "e") (named_use (codes "2") shape.Int)
    ∷ item.End
    ∷ [])

abbrev weight_at : Option Bytes → ℕ → ℕ
weight_at scope i = weight (growing scope) (node_of 8 (node.Bound (binding.Member i)))

abbrev depth_at : ℕ → ℕ
depth_at i = depth (growing None) (node_of 8 (node.Bound (binding.Member i)))

pub weights_add_up :
    weight_at None 1 ∷ weight_at None 2 ∷ weight_at None 3 ∷ [] ≡ 1 ∷ 5 ∷ 13 ∷ []
unfolding judges
weights_add_up = simp folds refl

pub what_has_a_scope_counts_one_for_others :
    weight_at (Some (codes "Singleton")) 2 ∷ weight_at (Some (codes "Singleton")) 3 ∷ []
    ≡ 5 ∷ 5 ∷ []
unfolding judges
what_has_a_scope_counts_one_for_others = simp folds refl

pub depths_count_nodes : depth_at 1 ∷ depth_at 2 ∷ depth_at 3 ∷ [] ≡ 1 ∷ 2 ∷ 3 ∷ []
unfolding judges
depths_count_nodes = simp folds refl
