-- What the look-up of a key leads to: of a base type a binding, of a set or map one, and so on.
use Rattle.std.proofs.Common.{◌≡◌, ℕ, Bool, true, false, cond, not, List, [], ◌∷◌, filter_map, map, slice_get, Contains, Option, Some, None, option_and_then, refl, subst}
use Rattle.std.proofs.lemmas.Option.{none-some, same_Some}
use Rattle.dg_lex.specs.Bytes.{Bytes}
use Rattle.dg_types.specs.declared.shape.Qualifier.{Qualifier}
use Rattle.dg_types.specs.declared.key.Key.{Key}
use Rattle.dg_types.specs.declared.key.Base.{Base}
use Rattle.dg_types.specs.declared.key.Base.TheVariants as base
use Rattle.dg_types.specs.declared.key.Core.{Core}
use Rattle.dg_types.specs.declared.key.Core.TheVariants as core
use Rattle.dg_types.specs.declared.key.Request.{Request}
use Rattle.dg_types.specs.Requests.{request_of}
use Rattle.dg_decl.specs.declared.document.Doc.{Doc}
use Rattle.dg_decl.specs.declared.binding.BindRef.{BindRef}
use Rattle.dg_decl.specs.declared.binding.BindRef.TheVariants as binding
use Rattle.dg_decl.specs.declared.binding.Owned.{Owned}
use Rattle.dg_decl.specs.declared.binding.Found.{Found}
use Rattle.dg_decl.specs.declared.binding.Found.TheVariants as found
use Rattle.dg_decl.specs.declared.graph.Node.{Node}
use Rattle.dg_decl.specs.declared.graph.NodeKind.{NodeKind}
use Rattle.dg_decl.specs.declared.graph.NodeKind.TheVariants as node
use Rattle.dg_decl.specs.Names.{item_at, class_item_named, params_of}
use Rattle.dg_decl.specs.Components.{chain, carries, class_count, deps_of, entries_of}
use Rattle.dg_decl.specs.Lookup.{explicit_in_chain, inside_key, contributions, is_optional_declared, injected_scope, injected_with, injected_item, injected_base, injected, found_of_core, find_without_explicit, found_among, find as find_key}
use Rattle.dg_decl.specs.Graph.{node_of, mode_of_inner, inner_of, Dependency, asked, of_param, of_params, of_entry, of_binding, contribution_of, of_contributions, of_inside, is_nothing, deps, node_found, target, targets, nodes, entry_nodes}
use Rattle.dg_decl.specs.Walks.{IsReached, root, step}
use Rattle.dg_decl.proofs.GraphLemmas.{reached_nodes}
use Rattle.dg_decl.proofs.MemberLemmas.{none_in, the_one, out_map, out_filter, out_flat_map, out_option, out_option_map, out_filter_map, out_list_of}
use Rattle.std.specs.List.{find, range_with_len}

abbrev pub IsMulti : Core → Type 0
IsMulti (core.Set b i) = Unit {0}
IsMulti (core.Map k b i) = Unit {0}
IsMulti other = ⊥

abbrev pub IsOption : Core → Type 0
IsOption (core.Optional b i) = Unit {0}
IsOption other = ⊥

-- a node of this kind is found for a key of this type
abbrev pub IsFoundAs : Core → NodeKind → Type 0
IsFoundAs c (node.Bound b) = Unit {0}
IsFoundAs c (node.Multi key) = IsMulti c × IsMulti key.core
IsFoundAs c (node.Opt key) = IsOption c
IsFoundAs c (node.EntryOf i) = ⊥

abbrev Leads : ℕ → Key → Found → Type 0
Leads c k f = (n : Node) → node_found c k f ≡ Some n → IsFoundAs k.core n.kind

nothing_leads : (c : ℕ) (k : Key) → Leads c k found.Nothing
nothing_leads c k n e = absurd (none-some n e)

node_leads : (k : Key) (m n : Node) → IsFoundAs k.core m.kind → Some m ≡ Some n
    → IsFoundAs k.core n.kind
node_leads k m n is e =
    let P : Node → Type 0 = λ n. IsFoundAs k.core n.kind in subst P (same_Some m n e) is

one_leads : (c : ℕ) (k : Key) (o : ℕ) (b : BindRef) → Leads c k (found.One o b)
one_leads c k o b n e = node_leads k (node_of o (node.Bound b)) n tt e

among_leads : (c : ℕ) (k : Key) (os : List Owned) (f : Found) → Leads c k f
    → Leads c k (found_among os f)
among_leads c k [] f h = h
among_leads c k (o ∷ []) f h = one_leads c k o.owner o.binding
among_leads c k (o ∷ p ∷ os) f h = λ n e. absurd (none-some n e)

scoped_leads : (doc : Doc) (c i : ℕ) (k : Key) (scope : Bytes) (o : Option ℕ)
    → find (carries doc scope) (chain doc c) ≡ o
    → Leads c k (injected_with doc c i (Some scope))
scoped_leads doc c i k scope None e = rw e (λ n h. absurd (none-some n h))
scoped_leads doc c i k scope (Some o) e = rw e (one_leads c k o (binding.ClassItem i))

with_leads : (doc : Doc) (c i : ℕ) (k : Key) (scope : Option Bytes)
    → Leads c k (injected_with doc c i scope)
with_leads doc c i k None = one_leads c k c (binding.ClassItem i)
with_leads doc c i k (Some scope) =
    scoped_leads doc c i k scope (find (carries doc scope) (chain doc c)) refl

item_leads : (doc : Doc) (c i : ℕ) (k : Key) (scope : Option (Option Bytes))
    → option_and_then injected_scope (item_at doc i) ≡ scope
    → Leads c k (injected_item doc c (Some i))
item_leads doc c i k None e = rw e (nothing_leads c k)
item_leads doc c i k (Some scope) e = rw e (with_leads doc c i k scope)

named_leads : (doc : Doc) (c : ℕ) (k : Key) (i : Option ℕ) → Leads c k (injected_item doc c i)
named_leads doc c k None = nothing_leads c k
named_leads doc c k (Some i) =
    item_leads doc c i k (option_and_then injected_scope (item_at doc i)) refl

base_leads : (doc : Doc) (c : ℕ) (k : Key) (b : Base) → Leads c k (injected_base doc c b)
base_leads doc c k (base.Named n) = named_leads doc c k (class_item_named doc n)
base_leads doc c k b = nothing_leads c k

injected_leads : (doc : Doc) (c : ℕ) (k : Key) (q : Option Qualifier) (b : Base)
    → Leads c k (injected doc c q b)
injected_leads doc c k None b = base_leads doc c k b
injected_leads doc c k (Some q) b = nothing_leads c k

either_leads : (c : ℕ) (k : Key) (b : Bool) (f g : Found) → Leads c k f → Leads c k g
    → Leads c k (cond b f g)
either_leads c k true f g a b = a
either_leads c k false f g a b = b

multi_leads : (c : ℕ) (k : Key) (n : Node) → IsMulti k.core → Some (node_of c (node.Multi k)) ≡ Some n
    → IsFoundAs k.core n.kind
multi_leads c k n is e = node_leads k (node_of c (node.Multi k)) n (is, is) e

core_leads : (doc : Doc) (c : ℕ) (k : Key) (co : Core) → co ≡ k.core
    → Leads c k (found_of_core doc c k co)
core_leads doc c k (core.One b) is = injected_leads doc c k k.qualifier b
core_leads doc c k (core.Set b i) is =
    either_leads c k _ (found.SetOf (contributions doc c k)) found.Nothing
    (λ n e. multi_leads c k n (subst IsMulti is tt) e) (nothing_leads c k)
core_leads doc c k (core.Map m b i) is =
    either_leads c k _ (found.MapOf (contributions doc c k)) found.Nothing
    (λ n e. multi_leads c k n (subst IsMulti is tt) e) (nothing_leads c k)
core_leads doc c k (core.Optional b i) is =
    either_leads c k (is_optional_declared doc c k) found.OptionalOf found.Nothing
    (λ n e. node_leads k (node_of c (node.Opt k)) n (subst IsOption is tt) e) (nothing_leads c k)

find_leads : (doc : Doc) (c : ℕ) (k : Key) → Leads c k (find_key doc c k)
unfolding find_key find_without_explicit
find_leads doc c k =
    among_leads c k (explicit_in_chain doc c k) (found_of_core doc c k k.core)
    (core_leads doc c k k.core refl)

-- ---- what a node needs

-- a dependency leads to a node that is found for its key
abbrev pub LeadsTo : Dependency → Type 0
LeadsTo d = (t : Node) → target d ≡ Some t → IsFoundAs d.key.core t.kind

pub request_leads : (doc : Doc) (c : ℕ) (param : Option Bytes) (r : Request) (d : Dependency)
    → asked doc c param r ≡ d → LeadsTo d
request_leads doc c param r d same = subst LeadsTo same (find_leads doc c r.key)

params_lead : (doc : Doc) (c i : ℕ) (d : Dependency) → Contains (of_params doc c i) d → LeadsTo d
params_lead doc c i d h =
    let x = out_list_of (λ x. filter_map (of_param doc c) (params_of x)) (item_at doc i) d h in
    let p = out_filter_map (of_param doc c) (params_of x.0) d x.2 in
    let r = out_option_map (asked doc c (Some p.0.name)) (request_of p.0.shape) d p.2 in
    request_leads doc c (Some p.0.name) r.0 d r.2

entry_leads : (doc : Doc) (c i : ℕ) (d : Dependency) → Contains (of_entry doc c i) d → LeadsTo d
entry_leads doc c i d h =
    let r = out_option_map (asked doc c None) _ d (out_option _ d h) in
    request_leads doc c None r.0 d r.2

contributions_lead : (doc : Doc) (c : ℕ) (k : Key) (d : Dependency)
    → Contains (of_contributions doc c k) d → LeadsTo d
contributions_lead doc c k d h =
    let o = out_map (contribution_of c k) (contributions doc c k) d h in
    subst LeadsTo o.2 (one_leads c k o.0.owner o.0.binding)

inside_leads : (doc : Doc) (c : ℕ) (k : Key) (d : Dependency) → Contains (of_inside doc c k) d
    → LeadsTo d
inside_leads doc c k d h =
    let r : Request = record { mode = mode_of_inner (inner_of k.core); key = inside_key k } in
    let one : Dependency = asked doc c None r in
    let kept = out_filter (λ (d : Dependency). not (is_nothing d.found)) (one ∷ []) d h in
    request_leads doc c None r d (the_one d one kept.0)

exposed_leads : (doc : Doc) (c dep entry : ℕ) (d : Dependency)
    → Contains (of_binding doc c (binding.Exposed dep entry)) d → LeadsTo d
exposed_leads doc c dep entry d h =
    let o = out_list_of (λ o. of_entry doc o entry) (slice_get (deps_of doc c) dep) d h in
    entry_leads doc o.0 entry d o.2

pub needs_lead : (doc : Doc) (c : ℕ) (k : NodeKind) (d : Dependency)
    → Contains (deps doc (node_of c k)) d → LeadsTo d
unfolding deps
needs_lead doc c (node.Bound (binding.Member i)) d h = params_lead doc c i d h
needs_lead doc c (node.Bound (binding.ClassItem i)) d h = params_lead doc c i d h
needs_lead doc c (node.Bound (binding.Arg a)) d h = absurd (none_in d h)
needs_lead doc c (node.Bound binding.Default) d h = absurd (none_in d h)
needs_lead doc c (node.Bound (binding.Exposed dep entry)) d h = exposed_leads doc c dep entry d h
needs_lead doc c (node.Multi k) d h = contributions_lead doc c k d h
needs_lead doc c (node.Opt k) d h = inside_leads doc c k d h
needs_lead doc c (node.EntryOf i) d h = entry_leads doc c i d h

-- ---- sets and maps among the nodes

abbrev pub MultiFits : NodeKind → Type 0
MultiFits (node.Multi key) = IsMulti key.core
MultiFits other = Unit {0}

found_fits : (c : Core) (k : NodeKind) → IsFoundAs c k → MultiFits k
found_fits c (node.Bound b) h = tt
found_fits c (node.Multi key) h = h.1
found_fits c (node.Opt key) h = tt
found_fits c (node.EntryOf i) h = tt

entry_fits : (doc : Doc) (n : Node) → Contains (entry_nodes doc) n → MultiFits n.kind
entry_fits doc n c =
    let class = out_flat_map (λ a. map (λ i. node_of a (node.EntryOf i)) (entries_of doc a))
    (range_with_len 0 (class_count doc)) n c in
    let entry = out_map (λ i. node_of class.0 (node.EntryOf i)) (entries_of doc class.0) n class.2
    in
    let P : Node → Type 0 = λ m. MultiFits m.kind in
    subst P entry.2 tt

reached_fits : (doc : Doc) (n : Node) → IsReached (targets doc) (entry_nodes doc) n
    → MultiFits n.kind
reached_fits doc n (root m c) = entry_fits doc n c
reached_fits doc n (step m t w c) =
    let d = out_filter_map target (deps doc m) n c in
    found_fits d.0.key.core n.kind (needs_lead doc m.class m.kind d.0 d.1 n d.2)

-- the key of a set or map is one of a set or map
pub multi_fits : (doc : Doc) (n : Node) → Contains (nodes doc) n → MultiFits n.kind
multi_fits doc n c = reached_fits doc n ((reached_nodes doc n).0 c)
