-- What a class finds stands on its chain, and where the dependencies of a node are looked up.
use Rattle.std.proofs.Common.{◌≡◌, inl, inr, ℕ, Bool, true, false, cond, not, List, [], ◌∷◌, ◌++◌, map, filter_map, flat_map, find, slice_get, Contains, Option, Some, None, option_and_then, refl, sym, ap, subst, ◌∙◌}
use Rattle.std.proofs.lemmas.Option.{none-some, same_Some}
use Rattle.std.proofs.lemmas.List.Elements.{Contains-append_cases}
use Rattle.dg_lex.specs.Bytes.{Bytes}
use Rattle.dg_types.specs.declared.shape.Qualifier.{Qualifier}
use Rattle.dg_types.specs.declared.key.Key.{Key}
use Rattle.dg_types.specs.declared.key.Base.{Base}
use Rattle.dg_types.specs.declared.key.Base.TheVariants as base
use Rattle.dg_types.specs.declared.key.Core.{Core}
use Rattle.dg_types.specs.declared.key.Core.TheVariants as core
use Rattle.dg_types.specs.declared.key.Request.{Request}
use Rattle.dg_types.specs.Requests.{request_of}
use Rattle.dg_decl.specs.declared.document.Doc.{Doc}
use Rattle.dg_decl.specs.declared.component.Exposed.{Exposed}
use Rattle.dg_decl.specs.declared.binding.Bind.{Bind}
use Rattle.dg_decl.specs.declared.binding.BindRef.{BindRef}
use Rattle.dg_decl.specs.declared.binding.BindRef.TheVariants as binding
use Rattle.dg_decl.specs.declared.binding.Owned.{Owned}
use Rattle.dg_decl.specs.declared.binding.Found.{Found}
use Rattle.dg_decl.specs.declared.binding.Found.TheVariants as found
use Rattle.dg_decl.specs.declared.graph.Node.{Node}
use Rattle.dg_decl.specs.declared.graph.NodeKind.{NodeKind}
use Rattle.dg_decl.specs.declared.graph.NodeKind.TheVariants as node
use Rattle.dg_decl.specs.Document.{Statement, statements}
use Rattle.dg_decl.specs.Names.{item_at, class_item_named, params_of}
use Rattle.dg_decl.specs.Components.{chain, root_first, carries, deps_of}
use Rattle.dg_decl.specs.Lookup.{owned, is_header_of, explicit_default, explicit_exposed, explicit_argument, explicit_member, explicit_at, explicit, explicit_in_chain, inside_key, contributions_in, contributions, is_optional_declared, injected_scope, injected_with, injected_item, injected_base, injected, found_of_core, find_without_explicit, found_among, find as find_key}
use Rattle.dg_decl.specs.Graph.{node_of, mode_of_inner, inner_of, Dependency, asked, of_param, of_params, of_entry, of_binding, contribution_of, of_contributions, of_inside, is_nothing, deps, node_found, target}
use Rattle.dg_decl.proofs.MemberLemmas.{none_in, in_front, the_one, out_map, out_filter, out_flat_map, out_option, out_option_map, out_filter_map, out_list_of, out_reverse}
use Rattle.dg_slots.specs.Plans.{through}
use Rattle.dg_eval.proofs.InputLists.{found_is}

-- ---- who owns what is bound

-- each of some owned bindings is that of a class
record AllOf (c : ℕ) (os : List Owned) : Type 0 where
  each : (o : Owned) → Contains os o → o.owner ≡ c

no_owned : (c : ℕ) → AllOf c []
no_owned c = record { each = λ o h. absurd (none_in o h) }

map_owned : {A : Type 0} (c : ℕ) (f : A → BindRef) (xs : List A)
    → AllOf c (map (λ x. owned c (f x)) xs)
map_owned c f xs = record {
  each = λ o h. sym (ap (λ (o : Owned). o.owner) (out_map (λ x. owned c (f x)) xs o h).2);
}

if_owned : (c : ℕ) (b : Bool) (os : List Owned) → AllOf c os → AllOf c (cond b os [])
if_owned c true os all = all
if_owned c false os all = no_owned c

append_owned : (c : ℕ) (os ps : List Owned) → AllOf c os → AllOf c ps → AllOf c (os ++ ps)
append_owned c os ps a b = record {
  each = λ o h. elim (Contains-append_cases os ps o h) [
    | inl front ↦ a.each o front
    | inr later ↦ b.each o later
  ];
}

exposed_owned : (doc : Doc) (c : ℕ) (k : Key) → AllOf c (explicit_exposed doc c k)
exposed_owned doc c k = map_owned c (λ (e : Exposed). binding.Exposed e.dep e.entry) _

argument_owned : (doc : Doc) (c : ℕ) (k : Key) (s : Statement)
    → AllOf c (explicit_argument doc c k s)
argument_owned doc c k s = if_owned c _ _ (map_owned c binding.Arg _)

member_owned : (doc : Doc) (c : ℕ) (k : Key) (s : Statement) → AllOf c (explicit_member doc c k s)
member_owned doc c k s = map_owned c (λ (b : Bind). binding.Member b.item) _

default_owned : (doc : Doc) (c : ℕ) (k : Key) → AllOf c (explicit_default doc c k)
default_owned doc c k = map_owned c (λ b. binding.Default) _

stated_owned : (doc : Doc) (c : ℕ) (k : Key) (s : Statement) → AllOf c (explicit_at doc c k s)
stated_owned doc c k s =
    append_owned c _ (explicit_member doc c k s)
    (append_owned c _ (explicit_argument doc c k s)
    (if_owned c (is_header_of doc c s) (explicit_exposed doc c k) (exposed_owned doc c k))
    (argument_owned doc c k s))
    (member_owned doc c k s)

flat_owned : {A : Type 0} (c : ℕ) (f : A → List Owned) (xs : List A) → ((x : A) → AllOf c (f x))
    → AllOf c (flat_map f xs)
flat_owned c f xs all = record {
  each = λ o h. (let x = out_flat_map f xs o h in (all x.0).each o x.2);
}

explicit_all : (doc : Doc) (c : ℕ) (k : Key) → AllOf c (explicit doc c k)
unfolding explicit
explicit_all doc c k =
    append_owned c (explicit_default doc c k) _ (default_owned doc c k)
    (flat_owned c (explicit_at doc c k) (statements doc) (λ s. stated_owned doc c k s))

-- a class stands on the chain of another
abbrev On : Doc → ℕ → ℕ → Type 0
On doc c a = Contains (chain doc c) a

owner_on : (doc : Doc) (c a : ℕ) (o : Owned) → Contains (root_first doc c) a → o.owner ≡ a
    → On doc c o.owner
owner_on doc c a o among e =
    let P : ℕ → Type 0 = On doc c in subst P (sym e) (out_reverse (chain doc c) a among)

explicit_on : (doc : Doc) (c : ℕ) (k : Key) (o : Owned) → Contains (explicit_in_chain doc c k) o
    → On doc c o.owner
unfolding explicit_in_chain
explicit_on doc c k o h =
    let a = out_flat_map (λ a. explicit doc a k) (root_first doc c) o h in
    owner_on doc c a.0 o a.1 ((explicit_all doc a.0 k).each o a.2)

contributed_all : (doc : Doc) (c : ℕ) (k : Key) → AllOf c (contributions_in doc k c)
contributed_all doc c k = map_owned c (λ (b : Bind). binding.Member b.item) _

contribution_on : (doc : Doc) (c : ℕ) (k : Key) (o : Owned) → Contains (contributions doc c k) o
    → On doc c o.owner
unfolding contributions
contribution_on doc c k o h =
    let a = out_flat_map (contributions_in doc k) (root_first doc c) o h in
    owner_on doc c a.0 o a.1 ((contributed_all doc a.0 k).each o a.2)

itself_on : (doc : Doc) (c : ℕ) → On doc c c
unfolding chain
itself_on doc c = in_front c _

-- ---- what a class finds

-- a look-up leads to a node of a class of the chain
abbrev LeadsUp : Doc → ℕ → Key → Found → Type 0
LeadsUp doc c k f = (n : Node) → node_found c k f ≡ Some n → On doc c n.class

nothing_up : (doc : Doc) (c : ℕ) (k : Key) → LeadsUp doc c k found.Nothing
nothing_up doc c k n e = absurd (none-some n e)

node_up : (doc : Doc) (c : ℕ) (m n : Node) → On doc c m.class → Some m ≡ Some n → On doc c n.class
node_up doc c m n on e =
    let P : Node → Type 0 = λ n. On doc c n.class in subst P (same_Some m n e) on

one_up : (doc : Doc) (c : ℕ) (k : Key) (o : ℕ) (b : BindRef) → On doc c o
    → LeadsUp doc c k (found.One o b)
one_up doc c k o b on n e = node_up doc c (node_of o (node.Bound b)) n on e

among_up : (doc : Doc) (c : ℕ) (k : Key) (os : List Owned) (f : Found)
    → ((o : Owned) → Contains os o → On doc c o.owner) → LeadsUp doc c k f
    → LeadsUp doc c k (found_among os f)
among_up doc c k [] f each h = h
among_up doc c k (o ∷ []) f each h = one_up doc c k o.owner o.binding (each o (in_front o []))
among_up doc c k (o ∷ p ∷ os) f each h = λ n e. absurd (none-some n e)

scoped_up : (doc : Doc) (c i : ℕ) (k : Key) (scope : Bytes) (o : Option ℕ)
    → find (carries doc scope) (chain doc c) ≡ o
    → LeadsUp doc c k (injected_with doc c i (Some scope))
scoped_up doc c i k scope None e = rw e (λ n h. absurd (none-some n h))
scoped_up doc c i k scope (Some o) e =
    rw e (one_up doc c k o (binding.ClassItem i)
    (found_is (carries doc scope) (chain doc c) o e).0)

with_up : (doc : Doc) (c i : ℕ) (k : Key) (scope : Option Bytes)
    → LeadsUp doc c k (injected_with doc c i scope)
with_up doc c i k None = one_up doc c k c (binding.ClassItem i) (itself_on doc c)
with_up doc c i k (Some scope) =
    scoped_up doc c i k scope (find (carries doc scope) (chain doc c)) refl

item_up : (doc : Doc) (c i : ℕ) (k : Key) (scope : Option (Option Bytes))
    → option_and_then injected_scope (item_at doc i) ≡ scope
    → LeadsUp doc c k (injected_item doc c (Some i))
item_up doc c i k None e = rw e (nothing_up doc c k)
item_up doc c i k (Some scope) e = rw e (with_up doc c i k scope)

named_up : (doc : Doc) (c : ℕ) (k : Key) (i : Option ℕ) → LeadsUp doc c k (injected_item doc c i)
named_up doc c k None = nothing_up doc c k
named_up doc c k (Some i) = item_up doc c i k (option_and_then injected_scope (item_at doc i)) refl

base_up : (doc : Doc) (c : ℕ) (k : Key) (b : Base) → LeadsUp doc c k (injected_base doc c b)
base_up doc c k (base.Named n) = named_up doc c k (class_item_named doc n)
base_up doc c k b = nothing_up doc c k

injected_up : (doc : Doc) (c : ℕ) (k : Key) (q : Option Qualifier) (b : Base)
    → LeadsUp doc c k (injected doc c q b)
injected_up doc c k None b = base_up doc c k b
injected_up doc c k (Some q) b = nothing_up doc c k

either_up : (doc : Doc) (c : ℕ) (k : Key) (b : Bool) (f g : Found) → LeadsUp doc c k f
    → LeadsUp doc c k g → LeadsUp doc c k (cond b f g)
either_up doc c k true f g a b = a
either_up doc c k false f g a b = b

core_up : (doc : Doc) (c : ℕ) (k : Key) (co : Core) → LeadsUp doc c k (found_of_core doc c k co)
core_up doc c k (core.One b) = injected_up doc c k k.qualifier b
core_up doc c k (core.Set b i) =
    either_up doc c k _ (found.SetOf (contributions doc c k)) found.Nothing
    (λ n e. node_up doc c (node_of c (node.Multi k)) n (itself_on doc c) e) (nothing_up doc c k)
core_up doc c k (core.Map m b i) =
    either_up doc c k _ (found.MapOf (contributions doc c k)) found.Nothing
    (λ n e. node_up doc c (node_of c (node.Multi k)) n (itself_on doc c) e) (nothing_up doc c k)
core_up doc c k (core.Optional b i) =
    either_up doc c k (is_optional_declared doc c k) found.OptionalOf found.Nothing
    (λ n e. node_up doc c (node_of c (node.Opt k)) n (itself_on doc c) e) (nothing_up doc c k)

find_up : (doc : Doc) (c : ℕ) (k : Key) → LeadsUp doc c k (find_key doc c k)
unfolding find_key find_without_explicit
find_up doc c k =
    among_up doc c k (explicit_in_chain doc c k) (found_of_core doc c k k.core)
    (λ o h. explicit_on doc c k o h) (core_up doc c k k.core)

-- ---- what a node needs

-- a dependency is looked up in a class, and leads to a node of a class of its chain
abbrev LooksUp : Doc → ℕ → Dependency → Type 0
LooksUp doc c d = (d.class ≡ c) × ((t : Node) → target d ≡ Some t → On doc d.class t.class)

request_looks : (doc : Doc) (c : ℕ) (param : Option Bytes) (r : Request) (d : Dependency)
    → asked doc c param r ≡ d → LooksUp doc c d
request_looks doc c param r d same =
    let P : Dependency → Type 0 = LooksUp doc c in
    subst P same (refl, find_up doc c r.key)

params_look : (doc : Doc) (c i : ℕ) (d : Dependency) → Contains (of_params doc c i) d
    → LooksUp doc c d
params_look doc c i d h =
    let x = out_list_of (λ x. filter_map (of_param doc c) (params_of x)) (item_at doc i) d h in
    let p = out_filter_map (of_param doc c) (params_of x.0) d x.2 in
    let r = out_option_map (asked doc c (Some p.0.name)) (request_of p.0.shape) d p.2 in
    request_looks doc c (Some p.0.name) r.0 d r.2

entry_looks : (doc : Doc) (c i : ℕ) (d : Dependency) → Contains (of_entry doc c i) d
    → LooksUp doc c d
entry_looks doc c i d h =
    let r = out_option_map (asked doc c None) _ d (out_option _ d h) in
    request_looks doc c None r.0 d r.2

contributions_look : (doc : Doc) (c : ℕ) (k : Key) (d : Dependency)
    → Contains (of_contributions doc c k) d → LooksUp doc c d
contributions_look doc c k d h =
    let o = out_map (contribution_of c k) (contributions doc c k) d h in
    let P : Dependency → Type 0 = LooksUp doc c in
    subst P o.2
    (refl, one_up doc c k o.0.owner o.0.binding (contribution_on doc c k o.0 o.1))

inside_looks : (doc : Doc) (c : ℕ) (k : Key) (d : Dependency) → Contains (of_inside doc c k) d
    → LooksUp doc c d
inside_looks doc c k d h =
    let r : Request = record { mode = mode_of_inner (inner_of k.core); key = inside_key k } in
    let one : Dependency = asked doc c None r in
    let kept = out_filter (λ (d : Dependency). not (is_nothing d.found)) (one ∷ []) d h in
    request_looks doc c None r d (the_one d one kept.0)

-- the class in which a node asks: its own, or that of the dependency through which it asks
abbrev pub AskedIn : Doc → ℕ → Option ℕ → ℕ → Type 0
AskedIn doc c None in_class = in_class ≡ c
AskedIn doc c (Some dep) in_class = slice_get (deps_of doc c) dep ≡ Some in_class

-- what a node needs is looked up in that class, and found on its chain
abbrev pub FoundUp : Doc → Node → Dependency → Type 0
FoundUp doc n d =
    AskedIn doc n.class (through n.kind) d.class
    × ((t : Node) → target d ≡ Some t → Contains (chain doc d.class) t.class)

exposed_looks : (doc : Doc) (c dep entry : ℕ) (d : Dependency)
    → Contains (of_binding doc c (binding.Exposed dep entry)) d
    → FoundUp doc (node_of c (node.Bound (binding.Exposed dep entry))) d
exposed_looks doc c dep entry d h =
    let o = out_list_of (λ o. of_entry doc o entry) (slice_get (deps_of doc c) dep) d h in
    let w = entry_looks doc o.0 entry d o.2 in
    (o.1 ∙ ap Some (sym w.0), w.1)

pub needs_up : (doc : Doc) (c : ℕ) (k : NodeKind) (d : Dependency)
    → Contains (deps doc (node_of c k)) d → FoundUp doc (node_of c k) d
unfolding deps
needs_up doc c (node.Bound (binding.Member i)) d h = params_look doc c i d h
needs_up doc c (node.Bound (binding.ClassItem i)) d h = params_look doc c i d h
needs_up doc c (node.Bound (binding.Arg a)) d h = absurd (none_in d h)
needs_up doc c (node.Bound binding.Default) d h = absurd (none_in d h)
needs_up doc c (node.Bound (binding.Exposed dep entry)) d h = exposed_looks doc c dep entry d h
needs_up doc c (node.Multi k) d h = contributions_look doc c k d h
needs_up doc c (node.Opt k) d h = inside_looks doc c k d h
needs_up doc c (node.EntryOf i) d h = entry_looks doc c i d h
