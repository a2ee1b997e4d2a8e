-- The kinds of a class that are among found nodes, in the order of nodes.
use Rattle.std.specs.Prelude.{ℕ, Bool, true, false, ◌==◌, ◌&&◌, if◌then◌else◌, List, [], ◌∷◌, ◌++◌, map, filter, flat_map, slice_get, Option, Some, None, is_some, option_to_list, unwrap_or, ◌≡◌, ◌≤◌, drop, take, length, filter_map}
use Rattle.std.specs.List.{list_any}
use Rattle.std.specs.Option.{option_map_or}
use Rattle.dg_types.specs.declared.key.Key.{Key}
use Rattle.dg_types.specs.declared.key.Core.{Core}
use Rattle.dg_types.specs.declared.key.Core.TheVariants as core
use Rattle.dg_types.specs.declared.key.Inner.{Inner}
use Rattle.dg_types.specs.declared.key.Inner.TheVariants as inner
use Rattle.dg_decl.specs.contracts.graph.NodePartialEq.TheImpl as of_nodes
use Rattle.dg_decl.specs.declared.document.Doc.{Doc}
use Rattle.dg_decl.specs.declared.component.Exposed.{Exposed}
use Rattle.dg_decl.specs.declared.binding.Bind.{Bind}
use Rattle.dg_decl.specs.declared.binding.BindKind.{BindKind}
use Rattle.dg_decl.specs.declared.binding.BindKind.TheVariants as kind
use Rattle.dg_decl.specs.declared.binding.BindRef.{BindRef}
use Rattle.dg_decl.specs.declared.binding.BindRef.TheVariants as binding
use Rattle.dg_decl.specs.declared.graph.Node.{Node}
use Rattle.dg_decl.specs.declared.graph.NodeKind.{NodeKind}
use Rattle.dg_decl.specs.declared.graph.NodeKind.TheVariants as node
use Rattle.dg_decl.specs.Document.{Statement, statements}
use Rattle.dg_decl.specs.Components.{is_number, bound_in}
use Rattle.dg_decl.specs.Lookup.{binding_of}
use Rattle.dg_decl.specs.Graph.{node_of, own_binding, first_statement, kinds_at}

-- two nodes are one
unfoldable pub same : Node → Node → Bool
same = of_nodes.ghosts.eq

-- a node is among the found ones
abbrev pub is_among : List Node → Node → Bool
is_among found n = list_any (same n) found

-- the nodes of a class of these kinds that are found
unfoldable pub kept : List Node → ℕ → List NodeKind → List Node
kept found c kinds = filter (is_among found) (map (node_of c) kinds)

-- ---- the statement on which a kind stands

-- bound arguments, what is exposed, and default bindings are left out
abbrev pub place_of : Doc → ℕ → NodeKind → Option ℕ
place_of doc c (node.Bound (binding.Member i)) = Some i
place_of doc c (node.Bound (binding.ClassItem i)) = Some i
place_of doc c (node.Bound other) = None
place_of doc c (node.Multi k) = first_statement doc c k
place_of doc c (node.Opt k) = first_statement doc c k
place_of doc c (node.EntryOf i) = Some i

-- a kind stands on the statement of this index
abbrev pub stands_at : Doc → ℕ → ℕ → NodeKind → Bool
stands_at doc c index k = option_map_or (λ i. i == index) (place_of doc c k) false

-- ---- the kinds on a statement

-- a statement is the header of a class that has this header
abbrev pub is_header : Option ℕ → Statement → Bool
is_header header s = is_number s.index header

-- a statement is a bound argument of such a class
abbrev pub is_in : Option ℕ → Option ℕ → Bool
is_in header None = false
is_in header (Some b) = is_number b header

abbrev pub is_line : Option ℕ → Statement → Bool
is_line header s = is_in header s.block && is_some (bound_in s.item)

-- the bound argument that a statement is, where there are so many before it
abbrev pub argument : Option ℕ → ℕ → Statement → Option BindRef
argument header passed s = if is_line header s then Some (binding.Arg passed) else None

-- what is exposed to a class
abbrev pub exposed_at : List (List Exposed) → ℕ → List Exposed
exposed_at exposed c = unwrap_or (slice_get exposed c) []

-- ---- sets, maps and optionals

-- a set or map, or another core type, has this form
abbrev pub has_form : Core → Inner → Bool
has_form (core.One b) j = false
has_form (core.Set b i) inner.Plain = true
has_form (core.Set b i) inner.Produced = true
has_form (core.Set b i) other = false
has_form (core.Map k b i) inner.Plain = true
has_form (core.Map k b i) inner.Provider = true
has_form (core.Map k b i) inner.Produced = true
has_form (core.Map k b i) other = false
has_form (core.Optional b i) inner.Produced = false
has_form (core.Optional b i) other = true

-- the optional of a base type has this form
abbrev pub has_optional_form : Core → Inner → Bool
has_optional_form (core.One b) inner.Produced = false
has_optional_form (core.One b) other = true
has_optional_form other j = false

abbrev pub has_group : BindKind → Core → Inner → Bool
has_group kind.Explicit c j = false
has_group kind.OptionalOf c j = has_optional_form c j
has_group other c j = has_form c j

-- a core type in this form
abbrev pub with_inner : Core → Inner → Core
with_inner (core.One b) j = core.One b
with_inner (core.Set b i) j = core.Set b j
with_inner (core.Map k b i) j = core.Map k b j
with_inner (core.Optional b i) j = core.Optional b j

abbrev pub optional_with : Core → Inner → Core
optional_with (core.One b) j = core.Optional b j
optional_with (core.Set b i) j = core.Optional b j
optional_with (core.Map k b i) j = core.Optional b j
optional_with (core.Optional b i) j = core.Optional b j

-- the set, map or optional of a binding in this form
abbrev pub group : BindKind → Key → Inner → NodeKind
group kind.OptionalOf k j =
    node.Opt (record { qualifier = k.qualifier; core = optional_with k.core j })
group other k j = node.Multi (record { qualifier = k.qualifier; core = with_inner k.core j })

-- where it has this form and stands on the statement
unfoldable pub group_at : Doc → ℕ → ℕ → BindKind → Key → Inner → List NodeKind
group_at doc c index does k j =
    if has_group does k.core j
    then (if stands_at doc c index (group does k j) then group does k j ∷ [] else []) else []

-- in each form
abbrev pub groups_at : Doc → ℕ → ℕ → Bind → List NodeKind
groups_at doc c index b =
    group_at doc c index b.kind b.key inner.Plain
    ++ (group_at doc c index b.kind b.key inner.Provider
    ++ (group_at doc c index b.kind b.key inner.Lazy
    ++ (group_at doc c index b.kind b.key inner.ProviderLazy
    ++ group_at doc c index b.kind b.key inner.Produced)))

abbrev pub groups_of_option : Doc → ℕ → ℕ → Option Bind → List NodeKind
groups_of_option doc c index None = []
groups_of_option doc c index (Some b) = groups_at doc c index b

-- ---- what stands on a statement

-- the binding that a statement is
abbrev pub own_kinds : Statement → List NodeKind
own_kinds s = map node.Bound (own_binding s)

abbrev pub bound_kinds : Option BindRef → List NodeKind
bound_kinds b = map node.Bound (option_to_list b)

abbrev pub exposed_kinds : List Exposed → List NodeKind
exposed_kinds xs = map (λ x. node.Bound (binding.Exposed x.dep x.entry)) xs

-- what is exposed on a statement
abbrev pub exposed_on : Bool → List Exposed → List Exposed
exposed_on here xs = if here then xs else []

abbrev pub is_empty : List Exposed → Bool
is_empty [] = true
is_empty (x ∷ xs) = false

-- the kinds that found nodes on a statement can have
abbrev pub kinds_on : Doc → ℕ → Option BindRef → List Exposed → Option Bind → Statement
    → List NodeKind
kinds_on doc c arg xs b s =
    own_kinds s ++ (bound_kinds arg ++ (exposed_kinds xs
    ++ ((node.EntryOf s.index ∷ []) ++ groups_of_option doc c s.index b)))

-- the default binding of a class, where it has one
abbrev pub default_where : Bool → Option BindRef
default_where is_there = if is_there then Some binding.Default else None

-- ---- so far

-- The nodes have what stands on the statements before this one, so many bound arguments are among
-- these, and the bindings from a place on are those of the statements that are left.
pub record KnowsClass (doc : Doc) (found : List Node) (c : ℕ) (header : Option ℕ)
    (binds : List Bind)
    (before : List Node) (i passed next : ℕ) (nodes : List Node) : Type 0 where
  pub done : nodes ≡ before ++ kept found c (flat_map (kinds_at doc c) (take i (statements doc)))
  pub counted : passed ≡ length (filter (is_line header) (take i (statements doc)))
  pub few : passed ≤ i
  pub short : next ≤ i
  pub left : drop next binds ≡ filter_map binding_of (drop i (statements doc))
