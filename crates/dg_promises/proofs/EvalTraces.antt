-- The evaluation of slots is traced, where what names and asks may be is closed.
use Rattle.std.proofs.Common.{◌≡◌, ◌≤◌, ℕ, zero, suc, Bool, true, false, List, [], ◌∷◌, map, slice_get, Some, option_and_then, subst, arith}
use Rattle.std.specs.List.{enumerate_from}
use Rattle.std.specs.Option.{option_map_or}
use Rattle.std.proofs.lemmas.Option.{none-some, same_Some}
use Rattle.dg_types.specs.declared.key.Core.{Core}
use Rattle.dg_types.specs.declared.key.Core.TheVariants as core
use Rattle.dg_types.specs.declared.key.Inner.{Inner}
use Rattle.dg_types.specs.declared.key.Inner.TheVariants as inner
use Rattle.dg_types.specs.declared.key.Key.{Key}
use Rattle.dg_types.specs.declared.key.MapKeyVal.{MapKeyVal}
use Rattle.dg_types.specs.declared.key.Mode.{Mode}
use Rattle.dg_types.specs.declared.key.Mode.TheVariants as mode
use Rattle.dg_decl.specs.declared.document.Doc.{Doc}
use Rattle.dg_decl.specs.declared.binding.BindRef.{BindRef}
use Rattle.dg_decl.specs.declared.binding.BindRef.TheVariants as binding
use Rattle.dg_decl.specs.declared.graph.Node.{Node}
use Rattle.dg_decl.specs.declared.graph.NodeKind.{NodeKind}
use Rattle.dg_decl.specs.declared.graph.NodeKind.TheVariants as node
use Rattle.dg_decl.specs.declared.item.Item.{Item}
use Rattle.dg_decl.specs.declared.item.Item.TheVariants as item
use Rattle.dg_decl.specs.Names.{item_at}
use Rattle.dg_decl.specs.Lookup.{contributions}
use Rattle.dg_decl.specs.Graph.{Dependency, deps, node_of}
use Rattle.dg_decl.specs.Sizes.{is_production}
use Rattle.dg_decl.specs.Stages.Bindings.{map_keys_of}
use Rattle.dg_decl.proofs.MemberLemmas.{in_got, out_option_map, out_and_then}
use Rattle.dg_slots.specs.Numbered.{number_of_class_item}
use Rattle.dg_slots.specs.Plans.{gives_elements}
use Rattle.dg_value.specs.declared.place.Place.{Place}
use Rattle.dg_value.specs.declared.place.PlaceStep.TheVariants as step
use Rattle.dg_value.specs.declared.value.Value.{Value, out-Value}
use Rattle.dg_value.specs.declared.value.Kept.TheOpen.{Value-F}
use Rattle.dg_value.specs.declared.value.Kept.TheVariants as kept
use Rattle.dg_value.specs.declared.value.Value.TheVariants as value
use Rattle.dg_value.specs.Places.{then_step}
use Rattle.dg_value.specs.Same.{Layer}
use Rattle.dg_eval.specs.Named.{held_cell, made_lazy, way_to}
use Rattle.dg_eval.specs.Runs.{Asked, cell, lazy, Run, gives, and_then, asks_of, asking, all, mistyped}
use Rattle.dg_eval.specs.World.{bound_value}
use Rattle.dg_eval.specs.Operations.{or_mistyped, only_of, elements_at, elements_in, kept_in, value_if}
use Rattle.dg_eval.specs.Bodies.{End, value_end, producer_end, tree_part}
use Rattle.dg_eval.specs.Meaning.{node_at, node_in, is_cell, cell_place, Eval, content, held, instance, lazy_content, give, got_at, look_at, look, target_of, step_to, given_one, given, producer_from, awaited_slot, awaited_at, param_in, around, body_of, end_with, object_of, of_end, member_end, outcomes_in, added_by, added_by_all, set_of_added, pairs, multi_of, optional_of, binding_at, eval_node, eval, enough, content_of, lazy_content_of}
use Rattle.dg_eval.specs.Asks.{asked_by}
use Rattle.dg_eval.specs.Report.{value_of_run}
use Rattle.dg_eval.proofs.GrowthLemmas.{EvalGrows, lazy_grows, eval_grows_to}
use Rattle.dg_eval.proofs.RunResults.{Allowed, Each, each_append}
use Rattle.dg_eval.proofs.ValueLemmas.{AllIn, InEntry, InLayer, layer_of, in_object, in_held, in_set, in_map, in_provider, in_provider_lazy, in_lazy, in_none, in_some, in_failed, in_good}
use Rattle.dg_eval.proofs.BodyResults.{Any, each_in, only_gives, kept_in_good, value_of_good}
use Rattle.dg_eval.proofs.ConstantLemmas.{bound_gives}
use Rattle.dg_promises.proofs.TraceLemmas.{Traced, gives_traced, any_traced, then_traced, asking_traced, named_traced, outcome_traced, if_traced, or_traced, option_traced, all_traced, value_traced, asks_before, value_later}
use Rattle.dg_promises.proofs.BodyTraces.{Looks, AtEnd, Sees, set_traced, tree_traced}

-- What may be asked is closed under what a content asks for, and a cell that may be asked may be
-- named where its content gives a value. Lazies and ways may be named.
pub record IsClosed (doc : Doc) (R : Allowed) : Type 0 where
  pub asked : (x : Asked) → R.ask x → Each R.ask (asked_by doc x)
  pub held : (i k : ℕ) (v : Value) → R.ask (cell i k) → value_of_run (content_of doc i k) ≡ Some v
      → R.name (held_cell i k)
  pub lazies : (i k : ℕ) (p : Place) → R.name (made_lazy i k p)
  pub ways : (i k : ℕ) → R.name (way_to i k)

-- an evaluation that grows into that at a depth of 128, each run of which is traced
pub record IsBelow (doc : Doc) (R : Allowed) (f : Eval) : Type 0 where
  pub closed : IsClosed doc R
  pub grows : EvalGrows f (eval doc enough)
  pub traced : (i k : ℕ) (q : Place) → Traced R (AllIn R) (f i k q)

-- ---- cells and Lazies

content_asks : (doc : Doc) (R : Allowed) (f : Eval) → IsBelow doc R f → (i k : ℕ)
    → R.ask (cell i k) → Each R.ask (asks_of (content f i k))
unfolding asked_by content_of
content_asks doc R f h i k a =
    asks_before R.ask (content f i k) (content (eval doc enough) i k) (h.grows i k (cell_place i k))
    (h.closed.asked (cell i k) a)

asked_cell_traced : (doc : Doc) (R : Allowed) (f : Eval) → IsBelow doc R f → (i k : ℕ)
    → Traced R (AllIn R) (asking (cell i k) (content f i k))
asked_cell_traced doc R f h i k =
    asking_traced R (AllIn R) (cell i k) (content f i k) (content_asks doc R f h i k)
    (h.traced i k (cell_place i k))

content_value : (doc : Doc) (R : Allowed) (f : Eval) → IsBelow doc R f → (i k : ℕ) (v : Value)
    → value_of_run (content f i k) ≡ Some v → value_of_run (content_of doc i k) ≡ Some v
unfolding content_of
content_value doc R f h i k v e =
    value_later (content f i k) (content (eval doc enough) i k) v (h.grows i k (cell_place i k)) e

held_traced : (doc : Doc) (R : Allowed) (f : Eval) → IsBelow doc R f → (i k : ℕ)
    → Traced R (AllIn R) (held f i k)
held_traced doc R f h i k =
    named_traced R (AllIn R) (cell i k) (content f i k) (value.Held i k)
    (λ v e a. in_held R i k (h.closed.held i k v a (content_value doc R f h i k v e)))

pub instance_traced : (doc : Doc) (R : Allowed) (f : Eval) → IsBelow doc R f → (i k : ℕ)
    → (q : Place) → Traced R (AllIn R) (instance doc f i k q)
instance_traced doc R f h i k q =
    if_traced R (AllIn R) (is_cell doc k) (held f i k) (f i k q) (held_traced doc R f h i k)
    (h.traced i k q)

lazy_asks : (doc : Doc) (R : Allowed) (f : Eval) → IsBelow doc R f → (i k : ℕ) (p : Place)
    → R.ask (lazy i k p) → Each R.ask (asks_of (lazy_content doc f i k p))
unfolding asked_by lazy_content_of
lazy_asks doc R f h i k p a =
    asks_before R.ask (lazy_content doc f i k p) (lazy_content doc (eval doc enough) i k p)
    (lazy_grows doc f (eval doc enough) h.grows i k p) (h.closed.asked (lazy i k p) a)

asked_lazy_traced : (doc : Doc) (R : Allowed) (f : Eval) → IsBelow doc R f → (i k : ℕ) (p : Place)
    → Traced R (AllIn R) (asking (lazy i k p) (lazy_content doc f i k p))
asked_lazy_traced doc R f h i k p =
    asking_traced R (AllIn R) (lazy i k p) (lazy_content doc f i k p) (lazy_asks doc R f h i k p)
    (instance_traced doc R f h i k (then_step p step.Inside))

-- ---- requests and deferred values

give_traced : (doc : Doc) (R : Allowed) (f : Eval) → IsBelow doc R f → (m : Mode) (i k : ℕ)
    → (q : Place) → Traced R (AllIn R) (give doc f m i k q)
give_traced doc R f h mode.Instance i k q = instance_traced doc R f h i k q
give_traced doc R f h mode.Produced i k q =
    outcome_traced R (AllIn R) (AllIn R) (instance doc f i k q) (instance_traced doc R f h i k q)
    (in_good R) (in_failed R)
give_traced doc R f h mode.Provider i k q = λ every. in_provider R i k (h.closed.ways i k)
give_traced doc R f h mode.Producer i k q = λ every. in_provider R i k (h.closed.ways i k)
give_traced doc R f h mode.ProviderLazy i k q =
    λ every. in_provider_lazy R i k (h.closed.ways i k)
give_traced doc R f h mode.Lazy i k q = λ every. in_lazy R i k q (h.closed.lazies i k q)

pub got_traced : (doc : Doc) (R : Allowed) (f : Eval) → IsBelow doc R f → (l : Layer) (q : Place)
    → Traced R (AllIn R) (got_at doc f l q)
got_traced doc R f h (Value-F.Provider i k) q = instance_traced doc R f h i k q
got_traced doc R f h (Value-F.ProviderLazy i k) q =
    λ every. in_lazy R i k q (h.closed.lazies i k q)
got_traced doc R f h (Value-F.Lazy i k p) q = asked_lazy_traced doc R f h i k p
got_traced doc R f h other q = tt

look_at_traced : (R : Allowed) (behind : ℕ → ℕ → Run Value) (v : Value) (l : Layer) → AllIn R v
    → ((i k : ℕ) → Traced R (AllIn R) (behind i k)) → Traced R (AllIn R) (look_at behind v l)
look_at_traced R behind v (Value-F.Held i k) good h = h i k
look_at_traced R behind v other good h = λ every. good

pub look_traced : (doc : Doc) (R : Allowed) (f : Eval) → IsBelow doc R f → (times : ℕ)
    → Looks R (look f times)
look_traced doc R f h zero v good = look_at_traced R _ v (out-Value v) good (λ i k. tt)
look_traced doc R f h (suc times) v good =
    look_at_traced R _ v (out-Value v) good (λ i k. then_traced R (AllIn R) (AllIn R)
    (asking (cell i k) (content f i k)) (look f times) (asked_cell_traced doc R f h i k)
    (look_traced doc R f h times))

pub given_one_traced : (doc : Doc) (R : Allowed) (f : Eval) → IsBelow doc R f → (i : ℕ) (n : Node)
    → (q : Place) (m : ℕ) (d : Dependency) → Traced R (AllIn R) (given_one doc f i n q m d)
given_one_traced doc R f h i n q m d =
    option_traced R (AllIn R) (target_of doc i n d) _ mistyped
    (λ t e. give_traced doc R f h d.mode t.inst t.slot (then_step q (step_to n.kind m))) tt

given_traced : (doc : Doc) (R : Allowed) (f : Eval) → IsBelow doc R f → (i : ℕ) (n : Node)
    → (q : Place) → Traced R (Each (AllIn R)) (all (given doc f i n q))
given_traced doc R f h i n q =
    all_traced R (AllIn R) (λ d. given_one doc f i n q (suc d.0) d.1)
    (enumerate_from 0 (deps doc n)) (λ d. given_one_traced doc R f h i n q (suc d.0) d.1)

-- ---- bodies

awaited_slot_traced : (doc : Doc) (R : Allowed) (f : Eval) → IsBelow doc R f → (times i k : ℕ)
    → (q : Place) → Traced R (AtEnd R) (awaited_slot doc f times i k q)
awaited_slot_traced doc R f h times i k q =
    if_traced R (AtEnd R) (option_map_or (is_production doc) (node_at doc k) false) _ _
    (then_traced R Any (AtEnd R) (producer_from doc times i k) _
    (any_traced R (producer_from doc times i k)) (λ t u every. tt))
    (then_traced R (AllIn R) (AtEnd R) (instance doc f i k q) _
    (instance_traced doc R f h i k q) (λ v good every. good))

awaited_traced : (doc : Doc) (R : Allowed) (f : Eval) → IsBelow doc R f → (times : ℕ) (l : Layer)
    → (q : Place) → Traced R (AtEnd R) (awaited_at doc f times l q)
awaited_traced doc R f h times (Value-F.Provider i k) q =
    awaited_slot_traced doc R f h times i k q
awaited_traced doc R f h times other q = tt

sees : (doc : Doc) (R : Allowed) (f : Eval) → IsBelow doc R f → (depth k : ℕ) (q : Place)
    → (vs : List Value) → Each (AllIn R) vs → Sees R (around doc f depth k q vs)
sees doc R f h depth k q vs good = record {
  param = λ p. or_traced R (AllIn R) (slice_get vs p)
      (λ v e. each_in (AllIn R) vs v good (in_got vs p v e));
  got = λ p at. then_traced R Any (AllIn R) (param_in vs p) _ (any_traced R (param_in vs p))
      (λ v u. got_traced doc R f h (out-Value v) at);
  awaited = λ p at. then_traced R Any (AtEnd R) (param_in vs p) _ (any_traced R (param_in vs p))
      (λ v u. awaited_traced doc R f h depth (out-Value v) at);
  look = look_traced doc R f h depth;
}

only_traced : (R : Allowed) (vs : List Value) → Each (AllIn R) vs
    → Traced R (AllIn R) (or_mistyped (only_of vs))
only_traced R vs good =
    gives_traced R (AllIn R) (or_mistyped (only_of vs)) (only_gives R vs good)

body_traced : (doc : Doc) (R : Allowed) (f : Eval) → IsBelow doc R f → (depth k : ℕ) (q : Place)
    → (x : Item) (vs : List Value) → Each (AllIn R) vs
    → Traced R (AtEnd R) (option_map_or
    (λ body. (tree_part body).run (around doc f depth k q vs) 0 0) (body_of doc x) mistyped)
body_traced doc R f h depth k q x vs good =
    option_traced R (AtEnd R) (body_of doc x) _ mistyped
    (λ body e. tree_traced R body (around doc f depth k q vs) (sees doc R f h depth k q vs good) 0
    0) tt

end_traced : (doc : Doc) (R : Allowed) (f : Eval) → IsBelow doc R f → (depth k : ℕ) (q : Place)
    → (x : Item) (vs : List Value) → Each (AllIn R) vs
    → Traced R (AtEnd R) (end_with doc f depth k q x vs)
end_traced doc R f h depth k q (item.Binds m scope n param result) vs good =
    then_traced R (AllIn R) (AtEnd R) (or_mistyped (only_of vs)) _ (only_traced R vs good)
    (λ v gv every. gv)
end_traced doc R f h depth k q (item.Class inject scope n params interfaces) vs good = tt
end_traced doc R f h depth k q x vs good = body_traced doc R f h depth k q x vs good

of_end_traced : (doc : Doc) (R : Allowed) (f : Eval) → IsBelow doc R f → (e : End) → AtEnd R e
    → Traced R (AllIn R) (of_end f e)
of_end_traced doc R f h (value_end v) good = λ every. good
of_end_traced doc R f h (producer_end i k) good = asked_cell_traced doc R f h i k

member_traced : (doc : Doc) (R : Allowed) (f : Eval) → IsBelow doc R f → (depth i k : ℕ)
    → (n : Node) (q : Place) (m : ℕ) → Traced R (AtEnd R) (member_end doc f depth i k n q m)
member_traced doc R f h depth i k n q m =
    then_traced R (Each (AllIn R)) (AtEnd R) (all (given doc f i n q)) _
    (given_traced doc R f h i n q)
    (λ vs good. option_traced R (AtEnd R) (item_at doc m) _ mistyped
    (λ x e. end_traced doc R f h depth k q x vs good) tt)

-- ---- sets and maps

elements_good : (R : Allowed) (l : Layer) (vs : List Value) → InLayer R l
    → elements_at l ≡ Some vs → Each (AllIn R) vs
elements_good R (Value-F.Set ws) vs good e = subst (Each (AllIn R)) (same_Some ws vs e) good
elements_good R other vs good e = absurd (none-some vs e)

elements_traced : (R : Allowed) (v : Value) → AllIn R v → Traced R (Each (AllIn R)) (elements_in v)
elements_traced R v good =
    or_traced R (Each (AllIn R)) (elements_at (out-Value v))
    (λ vs e. elements_good R (out-Value v) vs (layer_of R v good) e)

all_outcomes : (R : Allowed) (vs : List Value) → Each (AllIn R) vs
    → Each (AllIn R) (map (λ x. value.Outcome (kept.Value x)) vs)
all_outcomes R [] good = tt
all_outcomes R (v ∷ vs) good = (in_good R v good.0, all_outcomes R vs good.1)

outcomes_traced : (R : Allowed) (look : Value → Run Value) → Looks R look → (v : Value)
    → AllIn R v → Traced R (Each (AllIn R)) (outcomes_in look v)
outcomes_traced R look h v good =
    option_traced R (Each (AllIn R)) (option_and_then value_if (kept_in v)) _ (gives (v ∷ []))
    (λ set e. (let o = out_and_then value_if (kept_in v) set e in
    then_traced R (AllIn R) (Each (AllIn R)) (look set) _
    (h set (value_of_good R o.0 set (kept_in_good R v o.0 good o.1) o.2))
    (λ w gw. then_traced R (Each (AllIn R)) (Each (AllIn R)) (elements_in w) _
    (elements_traced R w gw) (λ vs goods every. all_outcomes R vs goods)))) (λ every. (good, tt))

members_traced : (R : Allowed) (look : Value → Run Value) → Looks R look → (v : Value)
    → AllIn R v → Traced R (Each (AllIn R)) (and_then (look v) elements_in)
members_traced R look h v good =
    then_traced R (AllIn R) (Each (AllIn R)) (look v) elements_in (h v good) (elements_traced R)

added_traced : (R : Allowed) (form : Inner) (look : Value → Run Value) → Looks R look
    → (b : Bool) (v : Value) → AllIn R v → Traced R (Each (AllIn R)) (added_by form look b v)
added_traced R inner.Produced look h true v good = outcomes_traced R look h v good
added_traced R inner.Produced look h false v good = λ every. (good, tt)
added_traced R form look h true v good = members_traced R look h v good
added_traced R form look h false v good = λ every. (good, tt)

all_added_traced : (R : Allowed) (form : Inner) (look : Value → Run Value) → Looks R look
    → (bs : List Bool) (vs : List Value) → Each (AllIn R) vs
    → Traced R (Each (AllIn R)) (added_by_all form look bs vs)
all_added_traced R form look h [] vs good = λ every. tt
all_added_traced R form look h (b ∷ bs) [] good = λ every. tt
all_added_traced R form look h (b ∷ bs) (v ∷ vs) good =
    then_traced R (Each (AllIn R)) (Each (AllIn R)) (added_by form look b v) _
    (added_traced R form look h b v good.0)
    (λ xs goods. then_traced R (Each (AllIn R)) (Each (AllIn R)) (added_by_all form look bs vs) _
    (all_added_traced R form look h bs vs good.1)
    (λ more others every. each_append (AllIn R) xs more goods others))

set_added_traced : (R : Allowed) (form : Inner) (look : Value → Run Value) (vs : List Value)
    → Each (AllIn R) vs → Traced R (AllIn R) (set_of_added form look vs)
set_added_traced R inner.Produced look vs good = λ every. in_set R vs good
set_added_traced R form look vs good = set_traced R look vs good

pairs_good : (R : Allowed) (ks : List MapKeyVal) (vs : List Value) → Each (AllIn R) vs
    → Each (InEntry (AllIn R)) (pairs ks vs)
pairs_good R [] vs good = tt
pairs_good R (k ∷ ks) [] good = tt
pairs_good R (k ∷ ks) (v ∷ vs) good = (good.0, pairs_good R ks vs good.1)

multi_traced : (doc : Doc) (R : Allowed) (f : Eval) → IsBelow doc R f → (depth class : ℕ)
    → (key : Key) (c : Core) (vs : List Value) → Each (AllIn R) vs
    → Traced R (AllIn R) (multi_of doc f depth class key c vs)
multi_traced doc R f h depth class key (core.Set b form) vs good =
    then_traced R (Each (AllIn R)) (AllIn R)
    (added_by_all form (look f depth) (map (gives_elements doc) (contributions doc class key)) vs)
    _ (all_added_traced R form (look f depth) (look_traced doc R f h depth)
    (map (gives_elements doc) (contributions doc class key)) vs good)
    (set_added_traced R form (look f depth))
multi_traced doc R f h depth class key (core.Map m b form) vs good =
    λ every. in_map R (pairs (map_keys_of doc class key) vs)
    (pairs_good R (map_keys_of doc class key) vs good)
multi_traced doc R f h depth class key other vs good = tt

optional_traced : (R : Allowed) (vs : List Value) → Each (AllIn R) vs
    → Traced R (AllIn R) (optional_of vs)
optional_traced R [] good = λ every. in_none R
optional_traced R (v ∷ vs) good = λ every. in_some R v good.0

object_traced : (R : Allowed) (doc : Doc) (c : ℕ) (q : Place) (vs : List Value)
    → Each (AllIn R) vs → Traced R (AllIn R) (object_of doc c q vs)
object_traced R doc c q vs good =
    or_traced R (AllIn R) _
    (λ v e. (let o = out_option_map (λ class. value.Object class (then_step q (step.New 1)) vs)
    (number_of_class_item doc c) v e in
    subst (AllIn R) o.2 (in_object R o.0 (then_step q (step.New 1)) vs good)))

-- ---- nodes

bound_traced : (R : Allowed) (doc : Doc) (i a : ℕ)
    → Traced R (AllIn R) (or_mistyped (bound_value doc i a))
bound_traced R doc i a =
    gives_traced R (AllIn R) (or_mistyped (bound_value doc i a)) (bound_gives R doc i a)

binding_traced : (doc : Doc) (R : Allowed) (f : Eval) → IsBelow doc R f → (depth i k : ℕ)
    → (n : Node) (q : Place) (b : BindRef)
    → Traced R (AllIn R) (binding_at doc f depth i k n q b)
binding_traced doc R f h depth i k n q (binding.Member m) =
    then_traced R (AtEnd R) (AllIn R) (member_end doc f depth i k n q m) (of_end f)
    (member_traced doc R f h depth i k n q m) (of_end_traced doc R f h)
binding_traced doc R f h depth i k n q (binding.ClassItem c) =
    then_traced R (Each (AllIn R)) (AllIn R) (all (given doc f i n q)) (object_of doc c q)
    (given_traced doc R f h i n q) (object_traced R doc c q)
binding_traced doc R f h depth i k n q (binding.Arg a) = bound_traced R doc i a
binding_traced doc R f h depth i k n q binding.Default = bound_traced R doc i 0
binding_traced doc R f h depth i k n q (binding.Exposed dep entry) =
    then_traced R (Each (AllIn R)) (AllIn R) (all (given doc f i n q)) _
    (given_traced doc R f h i n q) (only_traced R)

node_traced : (doc : Doc) (R : Allowed) (f : Eval) → IsBelow doc R f → (depth i k class : ℕ)
    → (kind : NodeKind) (q : Place)
    → Traced R (AllIn R) (eval_node doc f depth i k (node_of class kind) q)
node_traced doc R f h depth i k class (node.Bound b) q =
    binding_traced doc R f h depth i k (node_of class (node.Bound b)) q b
node_traced doc R f h depth i k class (node.Multi key) q =
    then_traced R (Each (AllIn R)) (AllIn R)
    (all (given doc f i (node_of class (node.Multi key)) q)) _
    (given_traced doc R f h i (node_of class (node.Multi key)) q)
    (multi_traced doc R f h depth class key key.core)
node_traced doc R f h depth i k class (node.Opt key) q =
    then_traced R (Each (AllIn R)) (AllIn R)
    (all (given doc f i (node_of class (node.Opt key)) q)) _
    (given_traced doc R f h i (node_of class (node.Opt key)) q) (optional_traced R)
node_traced doc R f h depth i k class (node.EntryOf e) q =
    then_traced R (Each (AllIn R)) (AllIn R)
    (all (given doc f i (node_of class (node.EntryOf e)) q)) _
    (given_traced doc R f h i (node_of class (node.EntryOf e)) q) (only_traced R)

-- ---- evaluation

eval_traced : (doc : Doc) (R : Allowed) → IsClosed doc R → (d : ℕ) → d ≤ enough
    → (i k : ℕ) (q : Place) → Traced R (AllIn R) (eval doc d i k q)
unfolding eval
eval_traced doc R closed zero le i k q = tt
eval_traced doc R closed (suc d) le i k q =
    option_traced R (AllIn R) (node_in doc i k) _ mistyped
    (λ n found. node_traced doc R (eval doc d)
    (record {
      closed = closed;
      grows = eval_grows_to doc d 128 (omega arith);
      traced = eval_traced doc R closed d (omega arith);
    })
    d i k n.class n.kind q) tt

-- the evaluation at a depth of 128
pub evaluation : (doc : Doc) (R : Allowed) → IsClosed doc R → IsBelow doc R (eval doc enough)
evaluation doc R closed = record {
  closed = closed;
  grows = eval_grows_to doc 128 128 (omega arith);
  traced = eval_traced doc R closed 128 (omega arith);
}

-- what is so of all that the content of a cell names that may be asked
pub content_named : (doc : Doc) (R : Allowed) → IsClosed doc R → (i k : ℕ) (v : Value)
    → R.ask (cell i k) → value_of_run (content_of doc i k) ≡ Some v → AllIn R v
unfolding content_of asked_by
content_named doc R closed i k v a e =
    value_traced R (AllIn R) (content (eval doc enough) i k) v
    (eval_traced doc R closed 128 (omega arith) i k (cell_place i k))
    (closed.asked (cell i k) a) e
