-- What the bodies of sets, maps, optionals, bound arguments and entries say of their nodes.
use Rattle.std.proofs.Common.{◌≡◌, ◌⊎◌, inl, inr, ℕ, Bool, false, not, List, [], map, Contains, Option, Some, None, refl, sym, ap, ◌∙◌, arith}
use Rattle.std.specs.Option.{option_map_or}
use Rattle.dg_types.specs.declared.key.Core.{Core}
use Rattle.dg_types.specs.declared.key.Core.TheVariants as core
use Rattle.dg_types.specs.declared.key.Inner.{Inner}
use Rattle.dg_types.specs.declared.key.Key.{Key}
use Rattle.dg_types.specs.declared.key.MapKeyVal.{MapKeyVal}
use Rattle.dg_decl.specs.declared.document.Doc.{Doc}
use Rattle.dg_decl.specs.declared.binding.BindRef.{BindRef}
use Rattle.dg_decl.specs.declared.binding.BindRef.TheVariants as binding
use Rattle.dg_decl.specs.declared.graph.Node.{Node}
use Rattle.dg_decl.specs.declared.graph.NodeKind.{NodeKind}
use Rattle.dg_decl.specs.declared.graph.NodeKind.TheVariants as node
use Rattle.dg_decl.specs.declared.item.Item.{Item}
use Rattle.dg_decl.specs.declared.item.Item.TheVariants as item
use Rattle.dg_decl.specs.Names.{item_at}
use Rattle.dg_decl.specs.Lookup.{contributions}
use Rattle.dg_decl.specs.Graph.{mode_of_inner, inner_of, Dependency, contribution_of, of_contributions, deps, target, node_of, nodes, number_of}
use Rattle.dg_decl.specs.Stages.Bindings.{map_keys_of}
use Rattle.dg_decl.proofs.MemberLemmas.{in_got, out_map, out_filter_map, out_option_map, out_and_then}
use Rattle.dg_slots.specs.declared.plan.Body.{Body}
use Rattle.dg_slots.specs.declared.plan.Body.TheVariants as body
use Rattle.dg_slots.specs.declared.plan.Input.{Input}
use Rattle.dg_slots.specs.Plans.{one_param, gives_elements, body_of_item, body_of_binding, body_of_multi, is_empty, body_of_node, input_of, inputs_of}
use Rattle.dg_value.specs.declared.place.Place.{Place}
use Rattle.dg_value.specs.declared.value.Value.TheVariants as value
use Rattle.dg_eval.specs.Runs.{gives, and_then, all}
use Rattle.dg_eval.specs.World.{bound_value}
use Rattle.dg_eval.specs.Operations.{or_mistyped, only_of}
use Rattle.dg_eval.specs.Bodies.{value_end}
use Rattle.dg_eval.specs.Meaning.{node_at, Eval, given, look, added_by_all, set_of_added, pairs, multi_of, optional_of, eval_node}
use Rattle.dg_evaluator.specs.Ends.{end_of_node}
use Rattle.dg_requests.proofs.LookUps.{IsMulti, MultiFits, multi_fits}

-- ---- which body a node has

abbrev body_number : Body → ℕ
body_number (body.Run t) = 0
body_number (body.Set flags) = 1
body_number (body.Map keys) = 2
body_number (body.Opt b) = 3
body_number (body.Arg a) = 4
body_number body.EntryOf = 5

item_number : (doc : Doc) (i : ℕ) (x : Item) → body_number (body_of_item doc i x) ≡ 0
item_number doc i (item.Provides m scope n params result e) = refl
item_number doc i (item.Produces m n params result t) = refl
item_number doc i (item.Class inject scope n params interfaces) = refl
item_number doc i other = refl

run_number : (doc : Doc) (i : ℕ) (o : Option Item)
    → body_number (option_map_or (body_of_item doc i) o one_param) ≡ 0
run_number doc i None = refl
run_number doc i (Some x) = item_number doc i x

-- a binding has a body that is run, or a bound argument
binding_number : (doc : Doc) (b : BindRef)
    → (body_number (body_of_binding doc b) ≡ 0) ⊎ (body_number (body_of_binding doc b) ≡ 4)
binding_number doc (binding.Member i) = inl (run_number doc i (item_at doc i))
binding_number doc (binding.ClassItem i) = inl (run_number doc i (item_at doc i))
binding_number doc (binding.Arg a) = inr refl
binding_number doc binding.Default = inr refl
binding_number doc (binding.Exposed dep entry) = inl refl

-- so it is no set, map, optional or entry
no_binding : {A : Type 0} (doc : Doc) (b : BindRef) (other : Body) (n : ℕ)
    → body_of_binding doc b ≡ other → body_number other ≡ n → (n ≡ 0 → ⊥) → (n ≡ 4 → ⊥) → A
no_binding doc b other n h is run arg =
    elim (binding_number doc b) [
      | inl e ↦ absurd (run (sym is ∙ sym (ap body_number h) ∙ e))
      | inr e ↦ absurd (arg (sym is ∙ sym (ap body_number h) ∙ e))
    ]

no_number : {A : Type 0} (n m : ℕ) (b other : Body) → b ≡ other → body_number b ≡ n
    → body_number other ≡ m → (n ≡ m → ⊥) → A
no_number n m b other h is are differ = absurd (differ (sym is ∙ ap body_number h ∙ are))

abbrev set_flags : Body → List Bool
set_flags (body.Set flags) = flags
set_flags other = []

abbrev map_keys : Body → List MapKeyVal
map_keys (body.Map keys) = keys
map_keys other = []

abbrev is_present : Body → Bool
is_present (body.Opt b) = b
is_present other = false

abbrev arg_index : Body → ℕ
arg_index (body.Arg a) = a
arg_index other = 0

-- ---- sets and maps

-- each input is taken in the mode of what the set or map holds
modes_are : (doc : Doc) (class : ℕ) (key : Key) (x : Input)
    → Contains (inputs_of doc (node_of class (node.Multi key))) x
    → x.mode ≡ mode_of_inner (inner_of key.core)
unfolding deps
modes_are doc class key x c =
    let n : Node = node_of class (node.Multi key) in
    let d = out_filter_map (input_of doc (node_of class (node.Multi key)))
    (of_contributions doc class key) x c in
    let o = out_map (contribution_of class key) (contributions doc class key) d.0 d.1 in
    let t = out_and_then _ (target d.0) x d.2 in
    let k = out_option_map _ (number_of (nodes doc) t.0) x t.2 in
    sym (ap (λ (x : Input). x.mode) k.2) ∙ sym (ap (λ (d : Dependency). d.mode) o.2)

-- where a set ends: what is added by its contributions, in the form of the set
pub record SetEnds (doc : Doc) (below : Eval) (depth i k : ℕ) (n : Node) (q : Place)
    (flags : List Bool) : Type 0 where
  pub form : Inner
  -- each input is taken in the mode of the form
  pub modes : (x : Input) → Contains (inputs_of doc n) x → x.mode ≡ mode_of_inner form
  pub is : eval_node doc below depth i k n q
      ≡ and_then (all (given doc below i n q)) (λ vs.
      and_then (added_by_all form (look below depth) flags vs)
      (set_of_added form (look below depth)))
  pub ends : end_of_node doc below depth i k n q
      ≡ and_then (eval_node doc below depth i k n q) (λ v. gives (value_end v))

set_by : (doc : Doc) (below : Eval) (depth i k class : ℕ) (key : Key) (q : Place)
    → (flags : List Bool) (c : Core) → key.core ≡ c → IsMulti c
    → body_of_multi doc class key c ≡ body.Set flags
    → SetEnds doc below depth i k (node_of class (node.Multi key)) q flags
set_by doc below depth i k class key q flags (core.Set b form) e is h = record {
  form = form;
  modes = λ x c. modes_are doc class key x c ∙ ap (λ (c : Core). mode_of_inner (inner_of c)) e;
  is = ap (λ (c : Core). and_then (all (given doc below i (node_of class (node.Multi key)) q))
      (multi_of doc below depth class key c)) e
      ∙ ap (λ (bs : List Bool). and_then (all (given doc below i (node_of class (node.Multi key)) q))
      (λ vs. and_then (added_by_all form (look below depth) bs vs)
      (set_of_added form (look below depth)))) (ap set_flags h);
  ends = refl;
}
set_by doc below depth i k class key q flags (core.Map m b form) e is h =
    no_number 2 1 (body.Map (map_keys_of doc class key)) (body.Set flags) h refl refl
    (λ e. (let f : 2 ≡ 1 = e in omega arith))
set_by doc below depth i k class key q flags other e is h = absurd is

sets_by : (doc : Doc) (below : Eval) (depth i k class : ℕ) (kind : NodeKind) (q : Place)
    → (flags : List Bool) → MultiFits kind → body_of_node doc (node_of class kind) ≡ body.Set flags
    → SetEnds doc below depth i k (node_of class kind) q flags
sets_by doc below depth i k class (node.Multi key) q flags fits h =
    set_by doc below depth i k class key q flags key.core refl fits h
sets_by doc below depth i k class (node.Bound b) q flags fits h =
    no_binding doc b (body.Set flags) 1 h refl (λ e. (let f : 1 ≡ 0 = e in omega arith))
    (λ e. (let f : 1 ≡ 4 = e in omega arith))
sets_by doc below depth i k class (node.Opt key) q flags fits h =
    no_number 3 1 _ (body.Set flags) h refl refl (λ e. (let f : 3 ≡ 1 = e in omega arith))
sets_by doc below depth i k class (node.EntryOf x) q flags fits h =
    no_number 5 1 _ (body.Set flags) h refl refl (λ e. (let f : 5 ≡ 1 = e in omega arith))

pub set_ends : (doc : Doc) (below : Eval) (depth i k : ℕ) (n : Node) (q : Place)
    → (flags : List Bool) → node_at doc k ≡ Some n → body_of_node doc n ≡ body.Set flags
    → SetEnds doc below depth i k n q flags
set_ends doc below depth i k n q flags is h =
    sets_by doc below depth i k n.class n.kind q flags
    (multi_fits doc n (in_got (nodes doc) k n is)) h

-- where a map ends: its keys with what its contributions are given
pub record MapEnds (doc : Doc) (below : Eval) (depth i k : ℕ) (n : Node) (q : Place)
    (keys : List MapKeyVal) : Type 0 where
  pub is : eval_node doc below depth i k n q
      ≡ and_then (all (given doc below i n q)) (λ vs. gives (value.Map (pairs keys vs)))
  pub ends : end_of_node doc below depth i k n q
      ≡ and_then (eval_node doc below depth i k n q) (λ v. gives (value_end v))

map_by : (doc : Doc) (below : Eval) (depth i k class : ℕ) (key : Key) (q : Place)
    → (keys : List MapKeyVal) (c : Core) → key.core ≡ c → IsMulti c
    → body_of_multi doc class key c ≡ body.Map keys
    → MapEnds doc below depth i k (node_of class (node.Multi key)) q keys
map_by doc below depth i k class key q keys (core.Map m b form) e is h = record {
  is = ap (λ (c : Core). and_then (all (given doc below i (node_of class (node.Multi key)) q))
      (multi_of doc below depth class key c)) e
      ∙ ap (λ (ks : List MapKeyVal). and_then
      (all (given doc below i (node_of class (node.Multi key)) q))
      (λ vs. gives (value.Map (pairs ks vs)))) (ap map_keys h);
  ends = refl;
}
map_by doc below depth i k class key q keys (core.Set b form) e is h =
    no_number 1 2 (body.Set (map (gives_elements doc) (contributions doc class key)))
    (body.Map keys) h refl refl (λ e. (let f : 1 ≡ 2 = e in omega arith))
map_by doc below depth i k class key q keys other e is h = absurd is

maps_by : (doc : Doc) (below : Eval) (depth i k class : ℕ) (kind : NodeKind) (q : Place)
    → (keys : List MapKeyVal) → MultiFits kind
    → body_of_node doc (node_of class kind) ≡ body.Map keys
    → MapEnds doc below depth i k (node_of class kind) q keys
maps_by doc below depth i k class (node.Multi key) q keys fits h =
    map_by doc below depth i k class key q keys key.core refl fits h
maps_by doc below depth i k class (node.Bound b) q keys fits h =
    no_binding doc b (body.Map keys) 2 h refl (λ e. (let f : 2 ≡ 0 = e in omega arith))
    (λ e. (let f : 2 ≡ 4 = e in omega arith))
maps_by doc below depth i k class (node.Opt key) q keys fits h =
    no_number 3 2 _ (body.Map keys) h refl refl (λ e. (let f : 3 ≡ 2 = e in omega arith))
maps_by doc below depth i k class (node.EntryOf x) q keys fits h =
    no_number 5 2 _ (body.Map keys) h refl refl (λ e. (let f : 5 ≡ 2 = e in omega arith))

pub map_ends : (doc : Doc) (below : Eval) (depth i k : ℕ) (n : Node) (q : Place)
    → (keys : List MapKeyVal) → node_at doc k ≡ Some n → body_of_node doc n ≡ body.Map keys
    → MapEnds doc below depth i k n q keys
map_ends doc below depth i k n q keys is h =
    maps_by doc below depth i k n.class n.kind q keys
    (multi_fits doc n (in_got (nodes doc) k n is)) h

-- ---- optionals

pub record OptEnds (doc : Doc) (below : Eval) (depth i k : ℕ) (n : Node) (q : Place)
    (present : Bool) : Type 0 where
  -- there is a dependency
  pub given_one : present ≡ not (is_empty (deps doc n))
  pub is : eval_node doc below depth i k n q
      ≡ and_then (all (given doc below i n q)) optional_of
  pub ends : end_of_node doc below depth i k n q
      ≡ and_then (eval_node doc below depth i k n q) (λ v. gives (value_end v))

multi_number : (doc : Doc) (class : ℕ) (key : Key) (c : Core)
    → (body_number (body_of_multi doc class key c) ≡ 1)
    ⊎ (body_number (body_of_multi doc class key c) ≡ 2)
multi_number doc class key (core.Map m b form) = inr refl
multi_number doc class key other = inl refl

no_multi : {A : Type 0} (doc : Doc) (class : ℕ) (key : Key) (other : Body) (n : ℕ)
    → body_of_multi doc class key key.core ≡ other → body_number other ≡ n → (n ≡ 1 → ⊥)
    → (n ≡ 2 → ⊥) → A
no_multi doc class key other n h is set is_map =
    elim (multi_number doc class key key.core) [
      | inl e ↦ absurd (set (sym is ∙ sym (ap body_number h) ∙ e))
      | inr e ↦ absurd (is_map (sym is ∙ sym (ap body_number h) ∙ e))
    ]

opts_by : (doc : Doc) (below : Eval) (depth i k class : ℕ) (kind : NodeKind) (q : Place)
    → (present : Bool) → body_of_node doc (node_of class kind) ≡ body.Opt present
    → OptEnds doc below depth i k (node_of class kind) q present
opts_by doc below depth i k class (node.Opt key) q present h = record {
  given_one = sym (ap is_present h);
  is = refl;
  ends = refl;
}
opts_by doc below depth i k class (node.Bound b) q present h =
    no_binding doc b (body.Opt present) 3 h refl (λ e. (let f : 3 ≡ 0 = e in omega arith))
    (λ e. (let f : 3 ≡ 4 = e in omega arith))
opts_by doc below depth i k class (node.Multi key) q present h =
    no_multi doc class key (body.Opt present) 3 h refl (λ e. (let f : 3 ≡ 1 = e in omega arith))
    (λ e. (let f : 3 ≡ 2 = e in omega arith))
opts_by doc below depth i k class (node.EntryOf x) q present h =
    no_number 5 3 _ (body.Opt present) h refl refl (λ e. (let f : 5 ≡ 3 = e in omega arith))

pub opt_ends : (doc : Doc) (below : Eval) (depth i k : ℕ) (n : Node) (q : Place)
    → (present : Bool) → body_of_node doc n ≡ body.Opt present
    → OptEnds doc below depth i k n q present
opt_ends doc below depth i k n q present h =
    opts_by doc below depth i k n.class n.kind q present h

-- ---- bound arguments and entries

pub record ArgEnds (doc : Doc) (below : Eval) (depth i k : ℕ) (n : Node) (q : Place) (a : ℕ)
    : Type 0 where
  pub is : eval_node doc below depth i k n q ≡ or_mistyped (bound_value doc i a)
  pub ends : end_of_node doc below depth i k n q
      ≡ and_then (eval_node doc below depth i k n q) (λ v. gives (value_end v))

args_by : (doc : Doc) (below : Eval) (depth i k class : ℕ) (kind : NodeKind) (q : Place) (a : ℕ)
    → body_of_node doc (node_of class kind) ≡ body.Arg a
    → ArgEnds doc below depth i k (node_of class kind) q a
args_by doc below depth i k class (node.Bound (binding.Arg b)) q a h = record {
  is = ap (λ (a : ℕ). or_mistyped (bound_value doc i a)) (ap arg_index h);
  ends = refl;
}
args_by doc below depth i k class (node.Bound binding.Default) q a h = record {
  is = ap (λ (a : ℕ). or_mistyped (bound_value doc i a)) (ap arg_index h);
  ends = refl;
}
args_by doc below depth i k class (node.Bound (binding.Member m)) q a h =
    no_number 0 4 _ (body.Arg a) h (run_number doc m (item_at doc m)) refl
    (λ e. (let f : 0 ≡ 4 = e in omega arith))
args_by doc below depth i k class (node.Bound (binding.ClassItem m)) q a h =
    no_number 0 4 _ (body.Arg a) h (run_number doc m (item_at doc m)) refl
    (λ e. (let f : 0 ≡ 4 = e in omega arith))
args_by doc below depth i k class (node.Bound (binding.Exposed dep entry)) q a h =
    no_number 0 4 _ (body.Arg a) h refl refl (λ e. (let f : 0 ≡ 4 = e in omega arith))
args_by doc below depth i k class (node.Multi key) q a h =
    no_multi doc class key (body.Arg a) 4 h refl (λ e. (let f : 4 ≡ 1 = e in omega arith))
    (λ e. (let f : 4 ≡ 2 = e in omega arith))
args_by doc below depth i k class (node.Opt key) q a h =
    no_number 3 4 _ (body.Arg a) h refl refl (λ e. (let f : 3 ≡ 4 = e in omega arith))
args_by doc below depth i k class (node.EntryOf x) q a h =
    no_number 5 4 _ (body.Arg a) h refl refl (λ e. (let f : 5 ≡ 4 = e in omega arith))

pub arg_ends : (doc : Doc) (below : Eval) (depth i k : ℕ) (n : Node) (q : Place) (a : ℕ)
    → body_of_node doc n ≡ body.Arg a → ArgEnds doc below depth i k n q a
arg_ends doc below depth i k n q a h = args_by doc below depth i k n.class n.kind q a h

pub record EntryEnds (doc : Doc) (below : Eval) (depth i k : ℕ) (n : Node) (q : Place)
    : Type 0 where
  pub is : eval_node doc below depth i k n q
      ≡ and_then (all (given doc below i n q)) (λ vs. or_mistyped (only_of vs))
  pub ends : end_of_node doc below depth i k n q
      ≡ and_then (eval_node doc below depth i k n q) (λ v. gives (value_end v))

entries_by : (doc : Doc) (below : Eval) (depth i k class : ℕ) (kind : NodeKind) (q : Place)
    → body_of_node doc (node_of class kind) ≡ body.EntryOf
    → EntryEnds doc below depth i k (node_of class kind) q
entries_by doc below depth i k class (node.EntryOf x) q h = record { is = refl; ends = refl }
entries_by doc below depth i k class (node.Bound b) q h =
    no_binding doc b body.EntryOf 5 h refl (λ e. (let f : 5 ≡ 0 = e in omega arith))
    (λ e. (let f : 5 ≡ 4 = e in omega arith))
entries_by doc below depth i k class (node.Multi key) q h =
    no_multi doc class key body.EntryOf 5 h refl (λ e. (let f : 5 ≡ 1 = e in omega arith))
    (λ e. (let f : 5 ≡ 2 = e in omega arith))
entries_by doc below depth i k class (node.Opt key) q h =
    no_number 3 5 _ body.EntryOf h refl refl (λ e. (let f : 3 ≡ 5 = e in omega arith))

pub entry_ends : (doc : Doc) (below : Eval) (depth i k : ℕ) (n : Node) (q : Place)
    → body_of_node doc n ≡ body.EntryOf → EntryEnds doc below depth i k n q
entry_ends doc below depth i k n q h = entries_by doc below depth i k n.class n.kind q h
