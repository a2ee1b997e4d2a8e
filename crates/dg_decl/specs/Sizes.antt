-- Productions, and how deep and how heavy a node is.
use Rattle.std.specs.Prelude.{◌≡◌, ℕ, zero, suc, max, Bool, true, false, ◌&&◌, ◌||◌, if◌then◌else◌, List, [], ◌∷◌, length, map, fold, Option, None, is_some, option_and_then}
use Rattle.std.specs.List.{list_any}
use Rattle.std.specs.Option.{option_map_or}
use Rattle.dg_lex.specs.Bytes.{Bytes}
use Rattle.dg_types.specs.declared.key.Inner.{Inner}
use Rattle.dg_types.specs.declared.key.Inner.TheVariants as inner
use Rattle.dg_decl.specs.declared.document.Doc.{Doc}
use Rattle.dg_decl.specs.declared.item.Item.{Item}
use Rattle.dg_decl.specs.declared.item.Item.TheVariants as item
use Rattle.dg_decl.specs.declared.binding.BindRef.TheVariants as binding
use Rattle.dg_decl.specs.declared.graph.Node.{Node}
use Rattle.dg_decl.specs.declared.graph.NodeKind.{NodeKind}
use Rattle.dg_decl.specs.declared.graph.NodeKind.TheVariants as node
use Rattle.dg_num.specs.Walks.{IsRank}
use Rattle.dg_num.specs.Weights.{weight_within}
use Rattle.dg_decl.specs.Walks.{IsReached, is_within}
use Rattle.dg_decl.specs.Names.{item_at}
use Rattle.dg_decl.specs.Bodies.{size_of_expr, size_of_tree}
use Rattle.dg_decl.specs.Graph.{inner_of, same_node, candidates, targets, needed_targets}

-- ---- the item of a node

-- the item that binds a node, where it is a module member or an `@Inject` class
abbrev pub item_of_node : Doc → Node → Option Item
item_of_node doc n = of_kind n.kind
  where
    of_kind : NodeKind → Option Item
    of_kind (node.Bound (binding.Member i)) = item_at doc i
    of_kind (node.Bound (binding.ClassItem i)) = item_at doc i
    of_kind other = None

abbrev pub scope_of_item : Item → Option Bytes
scope_of_item (item.Class inject scope n params interfaces) = scope
scope_of_item (item.Provides mark scope n params result body) = scope
scope_of_item (item.Binds mark scope n param result) = scope
scope_of_item other = None

-- the scope of a node's binding
abbrev pub scope_of : Doc → Node → Option Bytes
scope_of doc n = option_and_then scope_of_item (item_of_node doc n)

abbrev pub is_produces_item : Item → Bool
is_produces_item (item.Produces mark n params result body) = true
is_produces_item other = false

-- a node is a `produces` line
abbrev pub is_producer : Doc → Node → Bool
is_producer doc n = option_map_or is_produces_item (item_of_node doc n) false

abbrev pub is_bound_instance : Node → Bool
is_bound_instance n = of_kind n.kind
  where
    of_kind : NodeKind → Bool
    of_kind (node.Bound (binding.Arg a)) = true
    of_kind (node.Bound binding.Default) = true
    of_kind other = false

abbrev pub is_entry : Node → Bool
is_entry n = of_kind n.kind
  where
    of_kind : NodeKind → Bool
    of_kind (node.EntryOf i) = true
    of_kind other = false

-- ---- productions

abbrev pub is_unscoped_binds : Item → Bool
is_unscoped_binds (item.Binds mark None n param result) = true
is_unscoped_binds other = false

abbrev pub is_provider_form : Inner → Bool
is_provider_form inner.Provider = true
is_provider_form other = false

-- a node is a production where one of these is: an unscoped `binds` and an exposed entry pass on
-- what their target is, and a set or map, except a map of Providers, what its contributions are
unfoldable pub passed_on : Doc → Node → List Node
passed_on doc n = of_kind n.kind
  where
    of_kind : NodeKind → List Node
    of_kind (node.Bound (binding.Exposed dep entry)) = targets doc n
    of_kind (node.Bound other) =
        if option_map_or is_unscoped_binds (item_of_node doc n) false then targets doc n else []
    of_kind (node.Multi k) = if is_provider_form (inner_of k.core) then [] else targets doc n
    of_kind other = []

-- a node is a `produces` line, or is passed on what a `produces` line gives
abbrev pub IsProduction : Doc → Node → Type 0
IsProduction doc n = (m : Node) × IsReached (passed_on doc) (n ∷ []) m × (is_producer doc m ≡ true)

-- the same, by walks of no more steps than there are candidates
unfoldable pub is_production : Doc → Node → Bool
is_production doc n =
    list_any
    (λ m. is_producer doc m
    && is_within same_node (passed_on doc) (length (candidates doc)) (n ∷ []) m)
    (candidates doc)

-- ---- depth: the number of nodes on the longest walk of direct and called edges

-- the number of nodes on the longest walk from a node, among those of at most so many nodes
abbrev pub depth_within : Doc → ℕ → Node → ℕ
depth_within doc zero n = 0
depth_within doc (suc most) n =
    suc (fold max 0 (map (depth_within doc most) (needed_targets doc n)))

unfoldable pub depth : Doc → Node → ℕ
depth doc n = depth_within doc (length (candidates doc)) n

-- the law of depths: a walk of this many nodes begins at the node, and none that begins there has
-- more
abbrev pub IsDepth : Doc → Node → ℕ → Type 0
IsDepth doc n d = IsRank (needed_targets doc) n d

-- ---- weight

-- the size of the body of an item: an `@Inject` class constructs its object from its parameters, a
-- `binds` line gives one
abbrev pub size_of_item : Item → ℕ
size_of_item (item.Class inject scope n params interfaces) = suc (length params)
size_of_item (item.Provides mark scope n params result body) = size_of_expr body
size_of_item (item.Produces mark n params result body) = size_of_tree body
size_of_item other = 1

-- the size of a node's body; of a set, a map, an optional, a bound instance and an exposed entry it
-- is 1
unfoldable pub size : Doc → Node → ℕ
size doc n = option_map_or size_of_item (item_of_node doc n) 1

-- a node whose value is made once, or is there already: a scoped binding, a `produces` line or a
-- bound instance
unfoldable pub is_shared : Doc → Node → Bool
is_shared doc n = is_some (scope_of doc n) || is_producer doc n || is_bound_instance n

-- The sizes of the bodies that one evaluation of a node goes through, by walks of no more nodes
-- than there are candidates: its own, and for each direct or called edge the weight of its target,
-- or 1 where that is shared.
unfoldable pub weight : Doc → Node → ℕ
weight doc n =
    weight_within (needed_targets doc) (size doc) (is_shared doc) (length (candidates doc)) n
