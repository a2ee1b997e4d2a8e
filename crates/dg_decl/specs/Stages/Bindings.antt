-- The stage of bindings: what is judged of each node of the graph. The heads of five of these rules
-- are Dagger's.
use Rattle.std.specs.Prelude.{ℕ, Bool, true, false, not, ◌&&◌, ◌||◌, if◌then◌else◌, List, [], ◌∷◌, ◌++◌, nat_lt, map, filter, filter_map, flat_map, codes, Option, Some, None, option_and_then}
use Rattle.std.specs.List.{list_any, join_by, count_by}
use Rattle.std.specs.Option.{option_map_or}
use Rattle.dg_lex.specs.Bytes.{Bytes, is_among}
use Rattle.dg_types.specs.declared.key.Key.{Key}
use Rattle.dg_types.specs.declared.key.Core.{Core}
use Rattle.dg_types.specs.declared.key.Core.TheVariants as core
use Rattle.dg_types.specs.declared.key.Mode.{Mode}
use Rattle.dg_types.specs.declared.key.Mode.TheVariants as mode
use Rattle.dg_types.specs.declared.key.MapKeyVal.{MapKeyVal}
use Rattle.dg_types.specs.Equality.{same_map_key}
use Rattle.dg_types.specs.Texts.{key_text, map_key_text}
use Rattle.dg_decl.specs.declared.document.Doc.{Doc}
use Rattle.dg_decl.specs.declared.item.Item.{Item}
use Rattle.dg_decl.specs.declared.item.Item.TheVariants as item
use Rattle.dg_decl.specs.declared.item.Mark.{Mark}
use Rattle.dg_decl.specs.declared.item.Mark.TheVariants as mark
use Rattle.dg_decl.specs.declared.binding.BindRef.TheVariants as binding
use Rattle.dg_decl.specs.declared.binding.Owned.{Owned}
use Rattle.dg_decl.specs.declared.binding.Found.{Found}
use Rattle.dg_decl.specs.declared.binding.Found.TheVariants as found
use Rattle.dg_decl.specs.declared.graph.Node.{Node}
use Rattle.dg_decl.specs.declared.graph.NodeKind.{NodeKind}
use Rattle.dg_decl.specs.declared.graph.NodeKind.TheVariants as node
use Rattle.dg_decl.specs.declared.violation.Rule.{Rule}
use Rattle.dg_decl.specs.declared.violation.Rule.TheVariants as rule
use Rattle.dg_decl.specs.declared.violation.Violation.{Violation}
use Rattle.dg_decl.specs.Names.{item_at}
use Rattle.dg_decl.specs.Components.{scopes_of}
use Rattle.dg_decl.specs.Lookup.{contributions}
use Rattle.dg_decl.specs.Graph.{Dependency, node_of, item_name, site_of_node, site_of_request, deps, target, targets, inner_of, nodes, is_on_cycle, is_on_call}
use Rattle.dg_decl.specs.Sizes.{item_of_node, scope_of_item, scope_of, is_provider_form, is_production}

abbrev pub at_node : Rule → Option Bytes → Doc → Node → Violation
at_node r detail doc n = record { rule = r; site = site_of_node doc n; detail = detail }

abbrev pub at_request : Rule → Bytes → Doc → Node → Dependency → Violation
at_request r detail doc n d =
    record { rule = r; site = site_of_request doc n d.param; detail = Some detail }

-- the violation of a node that has a property
abbrev pub where_true : Bool → Violation → List Violation
where_true holds v = if holds then v ∷ [] else []

-- ---- requests that find nothing, many, or a class whose scope nobody carries

-- a request finds nothing
unfoldable pub missing_binding : Doc → Node → List Violation
missing_binding doc n = filter_map (λ d. broken d d.found) (deps doc n)
  where
    broken : Dependency → Found → Option Violation
    broken d found.Nothing = Some (at_request rule.MissingBinding (key_text d.key) doc n d)
    broken d other = None

-- the site of a binding with its owner
abbrev pub site_of_owned : Doc → Owned → Bytes
site_of_owned doc o = site_of_node doc (node_of o.owner (node.Bound o.binding))

-- a key, and the sites of what binds it
abbrev pub many_text : Doc → Key → List Owned → Bytes
many_text doc key owners =
    key_text key ++ (codes " by " ++ join_by (site_of_owned doc) (codes ", ") owners)

-- a request finds two bindings or more: the detail is the key and their sites
unfoldable pub duplicate_bindings : Doc → Node → List Violation
duplicate_bindings doc n = filter_map (λ d. broken d d.found) (deps doc n)
  where
    broken : Dependency → Found → Option Violation
    broken d (found.Many owners) =
        Some (at_request rule.DuplicateBindings (many_text doc d.key owners) doc n d)
    broken d other = None

-- `@` and a scope
abbrev pub scope_text : Bytes → Bytes
scope_text scope = codes "@" ++ scope

abbrev pub scoped_class_text : Doc → ℕ → Bytes
scoped_class_text doc i =
    item_name doc i
    ++ option_map_or (λ s. codes " " ++ scope_text s)
    (option_and_then scope_of_item (item_at doc i)) []

-- a request finds an `@Inject` class whose scope no class of the chain carries
unfoldable pub incompatibly_scoped_bindings : Doc → Node → List Violation
incompatibly_scoped_bindings doc n = filter_map (λ d. broken d d.found) (deps doc n)
  where
    broken : Dependency → Found → Option Violation
    broken d (found.BadScope i) =
        Some (at_request rule.IncompatiblyScopedBindings (scoped_class_text doc i) doc n d)
    broken d other = None

-- the owner of a module member doesn't carry the member's scope
unfoldable pub incompatibly_scoped_member : Doc → Node → List Violation
incompatibly_scoped_member doc n = of_kind n.kind
  where
    broken : Bytes → List Violation
    broken scope =
        where_true (not (is_among scope (scopes_of doc n.class)))
        (at_node rule.IncompatiblyScopedMember (Some (scope_text scope)) doc n)

    of_kind : NodeKind → List Violation
    of_kind (node.Bound (binding.Member i)) = option_map_or broken (scope_of doc n) []
    of_kind other = []

-- ---- map keys

abbrev pub map_key_of_mark : Option Mark → Option MapKeyVal
map_key_of_mark (Some (mark.IntoMap k)) = Some k
map_key_of_mark other = None

abbrev pub map_key_of_item : Item → Option MapKeyVal
map_key_of_item (item.Provides m scope n params result body) = map_key_of_mark m
map_key_of_item (item.Binds m scope n param result) = map_key_of_mark m
map_key_of_item (item.Produces m n params result body) = map_key_of_mark m
map_key_of_item other = None

abbrev pub map_key_of : Doc → Owned → Option MapKeyVal
map_key_of doc o =
    option_and_then map_key_of_item (item_of_node doc (node_of o.owner (node.Bound o.binding)))

-- the map keys of the contributions to a map, in order
abbrev pub map_keys_of : Doc → ℕ → Key → List MapKeyVal
map_keys_of doc class key = filter_map (map_key_of doc) (contributions doc class key)

-- the keys that stand more than once, each once, in the order of their first appearance
abbrev pub repeated : List MapKeyVal → List MapKeyVal
repeated ks = filter (λ k. nat_lt 1 (count_by (same_map_key k) ks)) (first_ones ks)
  where
    first_ones : List MapKeyVal → List MapKeyVal
    first_ones [] = []
    first_ones (k ∷ rest) = k ∷ filter (λ other. not (same_map_key k other)) (first_ones rest)

-- two contributions to a map have one key
unfoldable pub map_keys : Doc → Node → List Violation
map_keys doc n = of_kind n.kind
  where
    broken : Key → List Violation
    broken key =
        map (λ k. at_node rule.MapKeys (Some (map_key_text k)) doc n)
        (repeated (map_keys_of doc n.class key))

    of_core : Key → Core → List Violation
    of_core key (core.Map k b i) = broken key
    of_core key other = []

    of_kind : NodeKind → List Violation
    of_kind (node.Multi key) = of_core key key.core
    of_kind other = []

-- ---- productions

-- a `provides` line, an `@Inject` class or a scoped `binds` line: it is evaluated without waiting
abbrev pub is_provision_item : Item → Bool
is_provision_item (item.Provides m scope n params result body) = true
is_provision_item (item.Class inject scope n params interfaces) = true
is_provision_item (item.Binds m (Some scope) n param result) = true
is_provision_item other = false

abbrev pub is_provision : Doc → Node → Bool
is_provision doc n = option_map_or is_provision_item (item_of_node doc n) false

abbrev pub is_provider_mode : Mode → Bool
is_provider_mode mode.Provider = true
is_provider_mode mode.Lazy = true
is_provider_mode mode.ProviderLazy = true
is_provider_mode other = false

abbrev pub is_production_found : Doc → Dependency → Bool
is_production_found doc d = option_map_or (is_production doc) (target d) false

-- A request of a provision finds a production, or a request for a Provider or a Lazy does. A map of
-- Providers with productions among its contributions breaks the rule once, as a whole.
unfoldable pub depends_on_production : Doc → Node → List Violation
depends_on_production doc n = of_kind n.kind
  where
    broken : Dependency → Option Violation
    broken d =
        if (is_provision doc n || is_provider_mode d.mode) && is_production_found doc d
        then Some (at_request rule.DependsOnProduction (key_text d.key) doc n d) else None

    of_kind : NodeKind → List Violation
    of_kind (node.Multi key) =
        where_true
        (is_provider_form (inner_of key.core) && list_any (is_production doc) (targets doc n))
        (at_node rule.DependsOnProduction (Some (key_text key)) doc n)
    of_kind other = filter_map broken (deps doc n)

-- the inside of an optional is a production
unfoldable pub optional_production : Doc → Node → List Violation
optional_production doc n = of_kind n.kind
  where
    of_kind : NodeKind → List Violation
    of_kind (node.Opt key) =
        where_true (list_any (is_production doc) (targets doc n))
        (at_node rule.OptionalProduction None doc n)
    of_kind other = []

-- ---- cycles

-- a closed walk of direct edges goes through the node
unfoldable pub dependency_cycle : Doc → Node → List Violation
dependency_cycle doc n = where_true (is_on_cycle doc n) (at_node rule.DependencyCycle None doc n)

-- a closed walk of direct and called edges, at least one of them called, goes through the node
unfoldable pub call_cycle : Doc → Node → List Violation
call_cycle doc n = where_true (is_on_call doc n) (at_node rule.CallCycle None doc n)

-- ---- the stage

-- what a node breaks, by rule
unfoldable pub bindings_at : Doc → Node → List Violation
bindings_at doc n =
    missing_binding doc n ++ (duplicate_bindings doc n ++ (incompatibly_scoped_bindings doc n
    ++ (incompatibly_scoped_member doc n ++ (map_keys doc n ++ (depends_on_production doc n
    ++ (optional_production doc n ++ (dependency_cycle doc n ++ call_cycle doc n)))))))

-- the stage, by node
unfoldable pub bindings_stage : Doc → List Violation
bindings_stage doc = flat_map (bindings_at doc) (nodes doc)
