-- The graph of a document: its nodes, what each node needs, and the edges between them.
use Rattle.std.specs.Prelude.{◌↔◌, ℕ, suc, Bool, true, false, not, ◌&&◌, ◌||◌, ◌==◌, if◌then◌else◌, List, [], ◌∷◌, ◌++◌, length, nat_lt, is_none, map, filter, filter_map, flat_map, position, codes, slice_get, Option, Some, None, option_map, option_and_then, option_to_list, Contains}
use Rattle.std.specs.List.{list_any, range_with_len, enumerate_from, IsDistinct}
use Rattle.std.specs.Option.{option_map_or}
use Rattle.std.specs.Str.{bytes_eq}
use Rattle.dg_lex.specs.Bytes.{Bytes}
use Rattle.dg_types.specs.declared.key.Key.{Key}
use Rattle.dg_types.specs.declared.key.Core.TheVariants as core
use Rattle.dg_types.specs.declared.key.Core.{Core}
use Rattle.dg_types.specs.declared.key.Inner.{Inner}
use Rattle.dg_types.specs.declared.key.Inner.TheVariants as inner
use Rattle.dg_types.specs.declared.key.Mode.{Mode}
use Rattle.dg_types.specs.declared.key.Mode.TheVariants as mode
use Rattle.dg_types.specs.declared.key.Request.{Request}
use Rattle.dg_types.specs.Requests.{request_of}
use Rattle.dg_types.specs.Equality.{same_key}
use Rattle.dg_types.specs.Texts.{key_text}
use Rattle.dg_decl.specs.declared.document.Doc.{Doc}
use Rattle.dg_decl.specs.declared.item.Item.{Item}
use Rattle.dg_decl.specs.declared.item.Item.TheVariants as item
use Rattle.dg_decl.specs.declared.item.Param.{Param}
use Rattle.dg_decl.specs.declared.binding.BindKind.{BindKind}
use Rattle.dg_decl.specs.declared.binding.BindKind.TheVariants as kind
use Rattle.dg_decl.specs.declared.binding.BindRef.{BindRef}
use Rattle.dg_decl.specs.declared.binding.BindRef.TheVariants as binding
use Rattle.dg_decl.specs.declared.binding.Owned.{Owned}
use Rattle.dg_decl.specs.declared.binding.Found.{Found}
use Rattle.dg_decl.specs.declared.binding.Found.TheVariants as found
use Rattle.dg_decl.specs.declared.graph.Node.{Node}
use Rattle.dg_decl.specs.declared.graph.NodeKind.{NodeKind}
use Rattle.dg_decl.specs.declared.graph.NodeKind.TheVariants as node
use Rattle.dg_decl.specs.declared.graph.EdgeKind.{EdgeKind}
use Rattle.dg_decl.specs.declared.graph.EdgeKind.TheVariants as edge
use Rattle.dg_decl.specs.declared.graph.Edge.{Edge}
use Rattle.dg_decl.specs.Document.{Statement, statements}
use Rattle.dg_decl.specs.Walks.{IsReached, is_within}
use Rattle.dg_decl.specs.Names.{outer_name, member_name, item_at, params_of, result_of}
use Rattle.dg_decl.specs.Components.{class_count, class_name, root_first, bound_of, entries_of, deps_of, exposed_of, header_of}
use Rattle.dg_decl.specs.Lookup.{bindings, contributions, opens_in, is_header_of, bound_lines, find, inside_key}
use Rattle.dg_decl.specs.Bodies.{called_params}

-- ---- nodes, and which are one

abbrev pub same_binding : BindRef → BindRef → Bool
same_binding (binding.Member i) (binding.Member j) = i == j
same_binding (binding.ClassItem i) (binding.ClassItem j) = i == j
same_binding (binding.Arg i) (binding.Arg j) = i == j
same_binding binding.Default binding.Default = true
same_binding (binding.Exposed d i) (binding.Exposed e j) = (d == e) && (i == j)
same_binding b c = false

abbrev pub same_node_kind : NodeKind → NodeKind → Bool
same_node_kind (node.Bound b) (node.Bound c) = same_binding b c
same_node_kind (node.Multi k) (node.Multi l) = same_key k l
same_node_kind (node.Opt k) (node.Opt l) = same_key k l
same_node_kind (node.EntryOf i) (node.EntryOf j) = i == j
same_node_kind k l = false

unfoldable pub same_node : Node → Node → Bool
same_node m n = (m.class == n.class) && same_node_kind m.kind n.kind

abbrev pub node_of : ℕ → NodeKind → Node
node_of class kind = record { class = class; kind = kind }

-- ---- how a node is named

-- the name that an item declares, outside blocks or in its block
abbrev pub name_of : Item → Bytes
name_of i = option_map_or (λ n. n) (outer_name i) (option_map_or (λ n. n) (member_name i) [])

abbrev pub item_name : Doc → ℕ → Bytes
item_name doc i = option_map_or name_of (item_at doc i) []

-- `M.p`: a member behind the name of the block in which it stands
abbrev pub member_text : Doc → ℕ → Bytes
member_text doc i =
    option_map_or (λ s. owner s.block ++ (codes "." ++ name_of s.item))
    (slice_get (statements doc) i) []
  where
    owner : Option ℕ → Bytes
    owner block = option_map_or (item_name doc) block []

abbrev pub argument_text : Doc → ℕ → ℕ → Bytes
argument_text doc class arg =
    option_map_or (λ b. class_name doc class ++ (codes "." ++ b.name))
    (slice_get (bound_of doc class) arg) []

abbrev pub binding_text : Doc → ℕ → BindRef → Bytes
binding_text doc class (binding.Member i) = member_text doc i
binding_text doc class (binding.ClassItem i) = item_name doc i
binding_text doc class (binding.Arg a) = argument_text doc class a
binding_text doc class binding.Default = argument_text doc class 0
binding_text doc class (binding.Exposed dep entry) =
    option_map_or (λ d. class_name doc d ++ (codes "." ++ item_name doc entry))
    (slice_get (deps_of doc class) dep) []

-- A module member is `M.p`, an `@Inject` class its name, a bound argument or default binding
-- `C.arg`, an exposed entry `D.entry` with the dependency's class, a set, map or optional its key,
-- and an entry point `OWNER.entry` with the component or entry point block that declares it.
unfoldable pub node_text : Doc → Node → Bytes
node_text doc n = kind_text n.class n.kind
  where
    kind_text : ℕ → NodeKind → Bytes
    kind_text class (node.Bound b) = binding_text doc class b
    kind_text class (node.Multi k) = key_text k
    kind_text class (node.Opt k) = key_text k
    kind_text class (node.EntryOf i) = member_text doc i

-- `CLASS/NODE`
unfoldable pub site_of_node : Doc → Node → Bytes
site_of_node doc n = class_name doc n.class ++ (codes "/" ++ node_text doc n)

-- `CLASS/NODE(PARAM)`, or the node alone where its one request has no parameter
unfoldable pub site_of_request : Doc → Node → Option Bytes → Bytes
site_of_request doc n param =
    site_of_node doc n ++ option_map_or (λ p. codes "(" ++ (p ++ codes ")")) param []

-- ---- what a node needs

-- a request with its parameter, if it has one, and what it finds; of a contribution the mode in
-- which it is taken
pub record Dependency : Type 0 where
  pub param : Option Bytes
  pub mode : Mode
  pub key : Key
  pub class : ℕ
  pub found : Found

-- a request that is looked up in a class
abbrev pub asked : Doc → ℕ → Option Bytes → Request → Dependency
asked doc class param r =
    record {
      param = param;
      mode = r.mode;
      key = r.key;
      class = class;
      found = find doc class r.key;
    }

abbrev pub of_param : Doc → ℕ → Param → Option Dependency
of_param doc class p = option_map (asked doc class (Some p.name)) (request_of p.shape)

-- the requests of an item's parameters, in order
abbrev pub of_params : Doc → ℕ → ℕ → List Dependency
of_params doc class i =
    option_map_or (λ x. filter_map (of_param doc class) (params_of x)) (item_at doc i) []

-- the one request of an entry point, looked up in a class
abbrev pub of_entry : Doc → ℕ → ℕ → List Dependency
of_entry doc class i =
    option_to_list
    (option_map (asked doc class None)
    (option_and_then request_of (option_and_then result_of (item_at doc i))))

abbrev pub of_binding : Doc → ℕ → BindRef → List Dependency
of_binding doc class (binding.Member i) = of_params doc class i
of_binding doc class (binding.ClassItem i) = of_params doc class i
of_binding doc class (binding.Arg a) = []
of_binding doc class binding.Default = []
of_binding doc class (binding.Exposed dep entry) =
    option_map_or (λ d. of_entry doc d entry) (slice_get (deps_of doc class) dep) []

-- the mode in which what a set holds, a map gives or an optional has inside is taken
abbrev pub mode_of_inner : Inner → Mode
mode_of_inner inner.Plain = mode.Instance
mode_of_inner inner.Provider = mode.Provider
mode_of_inner inner.Lazy = mode.Lazy
mode_of_inner inner.ProviderLazy = mode.ProviderLazy
mode_of_inner inner.Produced = mode.Produced

abbrev pub inner_of : Core → Inner
inner_of (core.One b) = inner.Plain
inner_of (core.Set b i) = i
inner_of (core.Map k b i) = i
inner_of (core.Optional b i) = i

-- a contribution to a set or map that a class sees
abbrev pub contribution_of : ℕ → Key → Owned → Dependency
contribution_of class key o =
    record {
      param = None;
      mode = mode_of_inner (inner_of key.core);
      key = key;
      class = class;
      found = found.One o.owner o.binding;
    }

-- the contributions to a set or map, in order
abbrev pub of_contributions : Doc → ℕ → Key → List Dependency
of_contributions doc class key = map (contribution_of class key) (contributions doc class key)

abbrev pub is_nothing : Found → Bool
is_nothing found.Nothing = true
is_nothing other = false

-- the inside of an optional, where it is present
abbrev pub of_inside : Doc → ℕ → Key → List Dependency
of_inside doc class key =
    filter (λ d. not (is_nothing d.found))
    (asked doc class None
    (record { mode = mode_of_inner (inner_of key.core); key = inside_key key })
    ∷ [])

-- what a node needs, in order: the requests of its parameters, its contributions, its inside or its
-- one request. All are looked up in its owner class, but the request of an exposed entry in the
-- class of the dependency.
unfoldable pub deps : Doc → Node → List Dependency
deps doc n = of_kind n.class n.kind
  where
    of_kind : ℕ → NodeKind → List Dependency
    of_kind class (node.Bound b) = of_binding doc class b
    of_kind class (node.Multi k) = of_contributions doc class k
    of_kind class (node.Opt k) = of_inside doc class k
    of_kind class (node.EntryOf i) = of_entry doc class i

-- the node that a look-up in a class leads to: many bindings, a scope that no class carries, and
-- nothing give none
abbrev pub node_found : ℕ → Key → Found → Option Node
node_found class key (found.One owner b) = Some (node_of owner (node.Bound b))
node_found class key (found.SetOf os) = Some (node_of class (node.Multi key))
node_found class key (found.MapOf os) = Some (node_of class (node.Multi key))
node_found class key found.OptionalOf = Some (node_of class (node.Opt key))
node_found class key other = None

abbrev pub target : Dependency → Option Node
target d = node_found d.class d.key d.found

abbrev pub targets : Doc → Node → List Node
targets doc n = filter_map target (deps doc n)

-- ---- the reachable nodes

-- the entry points of all classes
abbrev pub entry_nodes : Doc → List Node
entry_nodes doc =
    flat_map (λ c. map (λ i. node_of c (node.EntryOf i)) (entries_of doc c))
    (range_with_len 0 (class_count doc))

-- an entry point, or what a reachable node needs
abbrev pub IsReachable : Doc → Node → Type 0
IsReachable doc = IsReached (targets doc) (entry_nodes doc)

-- ---- the order of nodes: by class, then by the statement on which they stand

-- a key in each of the forms in which it can be asked for
abbrev pub forms_of_core : Core → List Core
forms_of_core (core.One b) = []
forms_of_core (core.Set b i) = core.Set b inner.Plain ∷ core.Set b inner.Produced ∷ []
forms_of_core (core.Map k b i) =
    core.Map k b inner.Plain ∷ core.Map k b inner.Provider ∷ core.Map k b inner.Produced ∷ []
forms_of_core (core.Optional b i) =
    core.Optional b inner.Plain ∷ core.Optional b inner.Provider ∷ core.Optional b inner.Lazy
    ∷ core.Optional b inner.ProviderLazy ∷ []

abbrev pub forms_of : Key → List Key
forms_of k = map (λ c. record { qualifier = k.qualifier; core = c }) (forms_of_core k.core)

-- the forms of an optional, from the key of its inside
abbrev pub optional_forms : Key → List Key
optional_forms k = of_core k.core
  where
    of_core : Core → List Key
    of_core (core.One b) =
        forms_of (record { qualifier = k.qualifier; core = core.Optional b inner.Plain })
    of_core other = []

-- the binding of a statement that is one, in any class
abbrev pub own_binding : Statement → List BindRef
own_binding s = of_item s.index s.item
  where
    of_item : ℕ → Item → List BindRef
    of_item i (item.Provides mark scope n params result body) = binding.Member i ∷ []
    of_item i (item.Binds mark scope n param result) = binding.Member i ∷ []
    of_item i (item.Produces mark n params result body) = binding.Member i ∷ []
    of_item i (item.Class true scope n params interfaces) = binding.ClassItem i ∷ []
    of_item i other = []

-- the bound argument of a class that a statement declares, by its number among those of the class
abbrev pub own_argument : Doc → ℕ → Statement → List BindRef
own_argument doc class s =
    map binding.Arg (option_to_list (position (λ b. b.index == s.index) (bound_lines doc class)))

-- the exposed entries of a class stand on its header, by dependency and then by entry
abbrev pub own_exposed : Doc → ℕ → Statement → List BindRef
own_exposed doc class s =
    if is_header_of doc class s then map (λ x. binding.Exposed x.dep x.entry) (exposed_of doc class)
    else []

abbrev pub own_entry : Doc → ℕ → Statement → List NodeKind
own_entry doc class s =
    if list_any (λ i. i == s.index) (entries_of doc class) then node.EntryOf s.index ∷ [] else []

-- the statement on which a set, map or optional stands in a class: its first contribution or
-- declaration, in the first class of the chain, from the root on, that has one
abbrev pub first_statement : Doc → ℕ → Key → Option ℕ
first_statement doc class k =
    option_map (λ b. b.item)
    (slice_get (flat_map (λ o. filter (opens_in doc k o) (bindings doc)) (root_first doc class)) 0)

-- a set, map or optional stands on a statement
abbrev pub stands_first : Doc → ℕ → Statement → Key → Bool
stands_first doc class s k = option_map_or (λ i. i == s.index) (first_statement doc class k) false

-- the sets, maps and optionals of which a binding of this kind and key on a statement is the first
-- contribution or declaration
abbrev pub groups_of : Doc → ℕ → Statement → BindKind → Key → List NodeKind
groups_of doc class s kind.Explicit k = []
groups_of doc class s kind.OptionalOf k =
    map node.Opt (filter (stands_first doc class s) (optional_forms k))
groups_of doc class s other k = map node.Multi (filter (stands_first doc class s) (forms_of k))

-- the sets, maps and optionals of which a statement is the first contribution or declaration, in
-- each of their forms
abbrev pub own_groups : Doc → ℕ → Statement → List NodeKind
own_groups doc class s =
    flat_map (λ b. groups_of doc class s b.kind b.key)
    (filter (λ b. b.item == s.index) (bindings doc))

-- what may stand on a statement in a class, in order: its binding, then sets, maps and optionals
abbrev pub kinds_at : Doc → ℕ → Statement → List NodeKind
kinds_at doc class s =
    map node.Bound (own_binding s ++ (own_argument doc class s ++ own_exposed doc class s))
    ++ (own_entry doc class s ++ own_groups doc class s)

-- the default binding of one of Hilt's classes stands before all statements
abbrev pub default_kind : Doc → ℕ → List NodeKind
default_kind doc class =
    if is_none (header_of doc class) && nat_lt 0 (length (bound_of doc class))
    then node.Bound binding.Default ∷ [] else []

-- what may be a node of a class, in the order of nodes
abbrev pub kinds_of : Doc → ℕ → List NodeKind
kinds_of doc class = default_kind doc class ++ flat_map (kinds_at doc class) (statements doc)

-- what may be a node, in the order of nodes: by class, and within a class by statement
unfoldable pub candidates : Doc → List Node
candidates doc =
    flat_map (λ c. map (node_of c) (kinds_of doc c)) (range_with_len 0 (class_count doc))

-- a walk of no more steps than there are candidates leads from an entry point to a node
unfoldable pub is_reachable : Doc → Node → Bool
is_reachable doc n = is_within same_node (targets doc) (length (candidates doc)) (entry_nodes doc) n

-- the nodes of a document, in order; the number of a node is its index in this list
unfoldable pub nodes : Doc → List Node
nodes doc = filter (is_reachable doc) (candidates doc)

-- the law of nodes: they are exactly the reachable ones, each once
pub record AreNodes (doc : Doc) (ns : List Node) : Type 0 where
  pub each : (n : Node) → Contains ns n ↔ IsReachable doc n
  pub once : IsDistinct same_node ns

-- ---- edges

-- an edge by the node to which it leads
pub record EdgeTo : Type 0 where
  pub kind : EdgeKind
  pub param : ℕ
  pub to : Node

-- a request for a value or for its outcome is a direct edge; one for a way to it is deferred
abbrev pub edge_kind : Mode → EdgeKind
edge_kind mode.Instance = edge.Direct
edge_kind mode.Produced = edge.Direct
edge_kind other = edge.Deferred

abbrev pub edge_to : EdgeKind → ℕ → Dependency → Option EdgeTo
edge_to kind number d = option_map (λ n. record { kind = kind; param = number; to = n }) (target d)

-- the edges of a node's dependencies, in order; they are numbered from 1
abbrev pub needed_edges : List Dependency → List EdgeTo
needed_edges ds = filter_map (λ p. edge_to (edge_kind p.1.mode) (suc p.0) p.1) (enumerate_from 0 ds)

abbrev pub is_param : Bytes → Dependency → Bool
is_param name d = option_map_or (λ p. bytes_eq p name) d.param false

-- a body asks a Provider of a Lazy for the Lazy alone, so that no value is called
abbrev pub is_called_mode : Mode → Bool
is_called_mode mode.ProviderLazy = false
is_called_mode other = true

-- the edge of a call of the parameter of this index
abbrev pub called_at : List Dependency → ℕ → Option EdgeTo
called_at ds k =
    option_and_then (λ d. if is_called_mode d.mode then edge_to edge.Called (suc k) d else None)
    (slice_get ds k)

-- the edge of a call of a parameter in the body
abbrev pub called_edge : List Dependency → Bytes → Option EdgeTo
called_edge ds name = option_and_then (called_at ds) (position (is_param name) ds)

abbrev pub calls_of : Doc → Node → List Bytes
calls_of doc n = of_kind n.kind
  where
    of_kind : NodeKind → List Bytes
    of_kind (node.Bound (binding.Member i)) = option_map_or called_params (item_at doc i) []
    of_kind other = []

-- the edges of a node: those of its dependencies in order, then those of the calls in its body in
-- reading order
unfoldable pub edges : Doc → Node → List EdgeTo
edges doc n = needed_edges (deps doc n) ++ filter_map (called_edge (deps doc n)) (calls_of doc n)

abbrev pub number_of : List Node → Node → Option ℕ
number_of ns n = position (same_node n) ns

-- the edges of a node, by the numbers of nodes
unfoldable pub numbered_edges : Doc → Node → List Edge
numbered_edges doc n =
    filter_map
    (λ e. option_map (λ k. record { kind = e.kind; param = e.param; to = k })
    (number_of (nodes doc) e.to))
    (edges doc n)

-- the same of each node, in order
unfoldable pub edge_lists : Doc → List (List Edge)
edge_lists doc = map (numbered_edges doc) (nodes doc)

-- ---- closed walks

abbrev pub is_direct : EdgeTo → Bool
is_direct e = is_direct_kind e.kind
  where
    is_direct_kind : EdgeKind → Bool
    is_direct_kind edge.Direct = true
    is_direct_kind other = false

abbrev pub is_called : EdgeTo → Bool
is_called e = is_called_kind e.kind
  where
    is_called_kind : EdgeKind → Bool
    is_called_kind edge.Called = true
    is_called_kind other = false

abbrev pub targets_by : (EdgeTo → Bool) → Doc → Node → List Node
targets_by kind doc n = map (λ e. e.to) (filter kind (edges doc n))

-- the nodes to which direct edges lead
abbrev pub direct_targets : Doc → Node → List Node
direct_targets = targets_by is_direct

-- the nodes to which calls in a body lead
abbrev pub called_targets : Doc → Node → List Node
called_targets = targets_by is_called

-- the nodes to which direct and called edges lead
abbrev pub needed_targets : Doc → Node → List Node
needed_targets = targets_by (λ e. is_direct e || is_called e)

-- a walk of at least one direct edge leads from a node to itself
abbrev pub OnCycle : Doc → Node → Type 0
OnCycle doc n = IsReached (direct_targets doc) (direct_targets doc n) n

-- a walk of direct and called edges, at least one of them called, leads from a node to itself
abbrev pub OnCall : Doc → Node → Type 0
OnCall doc n =
    (m t : Node) × IsReached (needed_targets doc) (n ∷ []) m × Contains (called_targets doc m) t
    × IsReached (needed_targets doc) (t ∷ []) n

-- the same, by walks of no more steps than there are candidates
unfoldable pub is_on_cycle : Doc → Node → Bool
is_on_cycle doc n =
    is_within same_node (direct_targets doc) (length (candidates doc)) (direct_targets doc n) n

unfoldable pub is_on_call : Doc → Node → Bool
is_on_call doc n =
    list_any (λ m. leads (n ∷ []) m && list_any (λ t. leads (t ∷ []) n) (called_targets doc m))
    (candidates doc)
  where
    leads : List Node → Node → Bool
    leads = is_within same_node (needed_targets doc) (length (candidates doc))
