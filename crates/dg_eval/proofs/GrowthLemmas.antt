-- Evaluation at a depth grows with the depth: more depth changes nothing.
use Rattle.std.proofs.Common.{◌≡◌, ◌≤◌, inl, inr, ℕ, zero, suc, Bool, true, false, List, [], ◌∷◌, ◌++◌, map, Option, Some, None, option_and_then, refl, subst, arith}
use Rattle.std.specs.List.{enumerate_from}
use Rattle.std.specs.Option.{option_map_or}
use Rattle.std.proofs.lemmas.Bool.{cases_lt}
use Rattle.dg_types.specs.declared.key.Core.{Core}
use Rattle.dg_types.specs.declared.key.Core.TheVariants as core
use Rattle.dg_types.specs.declared.key.Inner.{Inner}
use Rattle.dg_types.specs.declared.key.Inner.TheVariants as inner
use Rattle.dg_types.specs.declared.key.Key.{Key}
use Rattle.dg_types.specs.declared.key.Mode.{Mode}
use Rattle.dg_types.specs.declared.key.Mode.TheVariants as mode
use Rattle.dg_decl.specs.declared.document.Doc.{Doc}
use Rattle.dg_decl.specs.declared.binding.BindRef.{BindRef}
use Rattle.dg_decl.specs.declared.binding.BindRef.TheVariants as binding
use Rattle.dg_decl.specs.declared.graph.Node.{Node}
use Rattle.dg_decl.specs.declared.graph.NodeKind.{NodeKind}
use Rattle.dg_decl.specs.declared.graph.NodeKind.TheVariants as node
use Rattle.dg_decl.specs.declared.item.Item.{Item}
use Rattle.dg_decl.specs.declared.item.Item.TheVariants as item
use Rattle.dg_decl.specs.Names.{item_at}
use Rattle.dg_decl.specs.Lookup.{contributions}
use Rattle.dg_decl.specs.Graph.{deps, node_of}
use Rattle.dg_decl.specs.Sizes.{is_producer, is_production}
use Rattle.dg_value.specs.declared.place.Place.{Place}
use Rattle.dg_value.specs.declared.place.PlaceStep.TheVariants as step
use Rattle.dg_value.specs.declared.value.Value.{Value, out-Value}
use Rattle.dg_value.specs.declared.value.Kept.TheOpen.{Value-F}
use Rattle.dg_value.specs.declared.value.Value.TheVariants as value
use Rattle.dg_value.specs.Places.{then_step}
use Rattle.dg_value.specs.Same.{Layer}
use Rattle.dg_eval.specs.Runs.{Run, cell, lazy, gives, and_then, asking, all, mistyped}
use Rattle.dg_eval.specs.World.{bound_value}
use Rattle.dg_eval.specs.Operations.{or_mistyped, only_of, elements_in, kept_in, value_if}
use Rattle.dg_eval.specs.Bodies.{End, value_end, producer_end, tree_part}
use Rattle.dg_eval.specs.Meaning.{node_at, node_in, is_cell, cell_place, Eval, content, held, instance, lazy_content, give, got_at, look_at, look, target_of, step_to, given_one, given, first_target, producer_from, awaited_slot, awaited_at, param_in, around, body_of, end_with, object_of, of_end, member_end, outcomes_in, added_by, added_by_all, set_of_added, multi_of, optional_of, binding_at, eval_node, eval}
use Rattle.dg_slots.specs.Plans.{gives_elements}
use Rattle.dg_eval.specs.Laws.{MoreDepthChangesNothing}
use Rattle.dg_eval.proofs.RunGrowth.{Grows, grows_same, grows_on, stays, then_grows, asking_grows, outcome_grows, if_grows, all_grow}
use Rattle.dg_eval.proofs.BodyGrowth.{Seen, SeenGrows, set_grows, tree_grows}

abbrev pub EvalGrows : Eval → Eval → Type 0
EvalGrows f g = (i k : ℕ) (q : Place) → Grows (f i k q) (g i k q)

abbrev pub LookGrows : (Value → Run Value) → (Value → Run Value) → Type 0
LookGrows f g = (v : Value) → Grows (f v) (g v)

option_grows : {A B : Type 0} (o : Option A) (f g : A → Run B) (d : Run B)
    → ((a : A) → Grows (f a) (g a)) → Grows (option_map_or f o d) (option_map_or g o d)
option_grows None f g d h = grows_same d
option_grows (Some a) f g d h = h a

-- ---- cells, requests and deferred values

pub content_grows : (f g : Eval) → EvalGrows f g → (i k : ℕ)
    → Grows (content f i k) (content g i k)
content_grows f g h i k = h i k (cell_place i k)

held_grows : (f g : Eval) → EvalGrows f g → (i k : ℕ) → Grows (held f i k) (held g i k)
held_grows f g h i k =
    asking_grows (cell i k) _ _ (then_grows (content f i k) (content g i k) _ _
    (content_grows f g h i k) (λ v. grows_same (gives (value.Held i k))))

pub instance_grows : (doc : Doc) (f g : Eval) → EvalGrows f g → (i k : ℕ) (q : Place)
    → Grows (instance doc f i k q) (instance doc g i k q)
instance_grows doc f g h i k q =
    if_grows (is_cell doc k) (held f i k) (f i k q) (held g i k) (g i k q) (held_grows f g h i k)
    (h i k q)

pub lazy_grows : (doc : Doc) (f g : Eval) → EvalGrows f g → (i k : ℕ) (p : Place)
    → Grows (lazy_content doc f i k p) (lazy_content doc g i k p)
lazy_grows doc f g h i k p = instance_grows doc f g h i k (then_step p step.Inside)

pub give_grows : (doc : Doc) (f g : Eval) → EvalGrows f g → (m : Mode) (i k : ℕ) (q : Place)
    → Grows (give doc f m i k q) (give doc g m i k q)
give_grows doc f g h mode.Instance i k q = instance_grows doc f g h i k q
give_grows doc f g h mode.Produced i k q =
    outcome_grows (instance doc f i k q) (instance doc g i k q) (instance_grows doc f g h i k q)
give_grows doc f g h mode.Provider i k q = refl
give_grows doc f g h mode.Producer i k q = refl
give_grows doc f g h mode.ProviderLazy i k q = refl
give_grows doc f g h mode.Lazy i k q = refl

got_grows : (doc : Doc) (f g : Eval) → EvalGrows f g → (l : Layer) (q : Place)
    → Grows (got_at doc f l q) (got_at doc g l q)
got_grows doc f g h (Value-F.Provider i k) q = instance_grows doc f g h i k q
got_grows doc f g h (Value-F.ProviderLazy i k) q = refl
got_grows doc f g h (Value-F.Lazy i k p) q =
    asking_grows (lazy i k p) _ _ (lazy_grows doc f g h i k p)
got_grows doc f g h other q = refl

look_at_grows : (f g : ℕ → ℕ → Run Value) → ((i k : ℕ) → Grows (f i k) (g i k))
    → (v : Value) (l : Layer) → Grows (look_at f v l) (look_at g v l)
look_at_grows f g h v (Value-F.Held i k) = h i k
look_at_grows f g h v other = refl

look_grows : (f g : Eval) → EvalGrows f g → (times : ℕ)
    → LookGrows (look f times) (look g (suc times))
look_grows f g h zero v = look_at_grows _ _ (λ i k. tt) v (out-Value v)
look_grows f g h (suc times) v =
    look_at_grows _ _ (λ i k. then_grows (asking (cell i k) (content f i k)) (asking (cell i k)
    (content g i k)) (look f times) (look g (suc times))
    (asking_grows (cell i k) (content f i k) (content g i k) (content_grows f g h i k))
    (look_grows f g h times)) v (out-Value v)

given_grows : (doc : Doc) (f g : Eval) → EvalGrows f g → (i : ℕ) (n : Node) (q : Place)
    → Grows (all (given doc f i n q)) (all (given doc g i n q))
given_grows doc f g h i n q =
    all_grow (λ d. given_one doc f i n q (suc d.0) d.1) (λ d. given_one doc g i n q (suc d.0) d.1)
    (enumerate_from 0 (deps doc n))
    (λ d. option_grows (target_of doc i n d.1) _ _ mistyped
    (λ t. give_grows doc f g h d.1.mode t.inst t.slot (then_step q (step_to n.kind (suc d.0)))))

-- ---- producers

producer_grows : (doc : Doc) (times i k : ℕ)
    → Grows (producer_from doc times i k) (producer_from doc (suc times) i k)
producer_grows doc zero i k = tt
producer_grows doc (suc times) i k =
    option_grows (node_at doc k) _ _ mistyped
    (λ n. if_grows (is_producer doc n) _ _ _ _ refl
    (option_grows (first_target doc i n) _ _ mistyped
    (λ t. producer_grows doc times t.inst t.slot)))

awaited_slot_grows : (doc : Doc) (f g : Eval) → EvalGrows f g → (times i k : ℕ) (q : Place)
    → Grows (awaited_slot doc f times i k q) (awaited_slot doc g (suc times) i k q)
awaited_slot_grows doc f g h times i k q =
    if_grows (option_map_or (is_production doc) (node_at doc k) false) _ _ _ _
    (then_grows (producer_from doc times i k) (producer_from doc (suc times) i k) _ _
    (producer_grows doc times i k) (λ t. grows_same (gives (producer_end t.inst t.slot))))
    (then_grows (instance doc f i k q) (instance doc g i k q) _ _ (instance_grows doc f g h i k q)
    (λ v. grows_same (gives (value_end v))))

awaited_grows : (doc : Doc) (f g : Eval) → EvalGrows f g → (times : ℕ) (l : Layer) (q : Place)
    → Grows (awaited_at doc f times l q) (awaited_at doc g (suc times) l q)
awaited_grows doc f g h times (Value-F.Provider i k) q = awaited_slot_grows doc f g h times i k q
awaited_grows doc f g h times other q = refl

-- ---- bodies

abbrev seen : Doc → Eval → ℕ → List Value → Seen
seen doc f depth vs = record {
  param = param_in vs;
  got = λ p at. and_then (param_in vs p) (λ v. got_at doc f (out-Value v) at);
  awaited = λ p at. and_then (param_in vs p) (λ v. awaited_at doc f depth (out-Value v) at);
  look = look f depth;
}

seen_grows : (doc : Doc) (f g : Eval) → EvalGrows f g → (depth : ℕ) (vs : List Value)
    → SeenGrows (seen doc f depth vs) (seen doc g (suc depth) vs)
seen_grows doc f g h depth vs = record {
  param = λ p. grows_same (param_in vs p);
  got = λ p q. then_grows (param_in vs p) (param_in vs p) _ _ (grows_same (param_in vs p))
      (λ v. got_grows doc f g h (out-Value v) q);
  awaited = λ p q. then_grows (param_in vs p) (param_in vs p) _ _ (grows_same (param_in vs p))
      (λ v. awaited_grows doc f g h depth (out-Value v) q);
  look = look_grows f g h depth;
}

body_grows : (doc : Doc) (f g : Eval) → EvalGrows f g → (depth k : ℕ) (q : Place) (x : Item)
    → (vs : List Value)
    → Grows (option_map_or (λ body. (tree_part body).run (around doc f depth k q vs) 0 0)
    (body_of doc x) mistyped)
    (option_map_or (λ body. (tree_part body).run (around doc g (suc depth) k q vs) 0 0)
    (body_of doc x) mistyped)
body_grows doc f g h depth k q x vs =
    option_grows (body_of doc x) _ _ mistyped
    (λ body. tree_grows body k q (seen doc f depth vs) (seen doc g (suc depth) vs)
    (seen_grows doc f g h depth vs) 0 0)

end_grows : (doc : Doc) (f g : Eval) → EvalGrows f g → (depth k : ℕ) (q : Place) (x : Item)
    → (vs : List Value)
    → Grows (end_with doc f depth k q x vs) (end_with doc g (suc depth) k q x vs)
end_grows doc f g h depth k q (item.Binds m scope n param result) vs =
    grows_same (and_then (or_mistyped (only_of vs)) (λ v. gives (value_end v)))
end_grows doc f g h depth k q (item.Class inject scope n params interfaces) vs = refl
end_grows doc f g h depth k q x vs = body_grows doc f g h depth k q x vs

of_end_grows : (f g : Eval) → EvalGrows f g → (e : End) → Grows (of_end f e) (of_end g e)
of_end_grows f g h (value_end v) = refl
of_end_grows f g h (producer_end i k) =
    asking_grows (cell i k) (content f i k) (content g i k) (content_grows f g h i k)

member_grows : (doc : Doc) (f g : Eval) → EvalGrows f g → (depth i k : ℕ) (n : Node) (q : Place)
    → (m : ℕ) → Grows (member_end doc f depth i k n q m) (member_end doc g (suc depth) i k n q m)
member_grows doc f g h depth i k n q m =
    then_grows (all (given doc f i n q)) (all (given doc g i n q)) _ _ (given_grows doc f g h i n q)
    (λ vs. option_grows (item_at doc m) _ _ mistyped (λ x. end_grows doc f g h depth k q x vs))

-- ---- sets

outcomes_grow : (f g : Value → Run Value) → LookGrows f g → (v : Value)
    → Grows (outcomes_in f v) (outcomes_in g v)
outcomes_grow f g h v =
    option_grows (option_and_then value_if (kept_in v)) _ _ (gives (v ∷ []))
    (λ set. then_grows (f set) (g set) _ _ (h set)
    (λ w. then_grows (elements_in w) (elements_in w) _ _ (grows_same (elements_in w))
    (λ vs. refl)))

elements_grow : (f g : Value → Run Value) → LookGrows f g → (v : Value)
    → Grows (and_then (f v) elements_in) (and_then (g v) elements_in)
elements_grow f g h v =
    then_grows (f v) (g v) elements_in elements_in (h v) (λ w. grows_same (elements_in w))

added_grows : (form : Inner) (f g : Value → Run Value) → LookGrows f g → (b : Bool) (v : Value)
    → Grows (added_by form f b v) (added_by form g b v)
added_grows inner.Produced f g h true v = outcomes_grow f g h v
added_grows inner.Produced f g h false v = refl
added_grows form f g h true v = elements_grow f g h v
added_grows form f g h false v = refl

all_added_grow : (form : Inner) (f g : Value → Run Value) → LookGrows f g
    → (bs : List Bool) (vs : List Value)
    → Grows (added_by_all form f bs vs) (added_by_all form g bs vs)
all_added_grow form f g h [] vs = refl
all_added_grow form f g h (b ∷ bs) [] = refl
all_added_grow form f g h (b ∷ bs) (v ∷ vs) =
    then_grows (added_by form f b v) (added_by form g b v) _ _ (added_grows form f g h b v)
    (λ xs. then_grows (added_by_all form f bs vs) (added_by_all form g bs vs) _ _
    (all_added_grow form f g h bs vs) (λ more. grows_same (gives (xs ++ more))))

set_added_grows : (form : Inner) (f g : Value → Run Value) → LookGrows f g → (vs : List Value)
    → Grows (set_of_added form f vs) (set_of_added form g vs)
set_added_grows inner.Produced f g h vs = refl
set_added_grows form f g h vs = set_grows f g h vs

multi_grows : (doc : Doc) (f g : Eval) → EvalGrows f g → (depth class : ℕ) (key : Key) (c : Core)
    → (vs : List Value)
    → Grows (multi_of doc f depth class key c vs) (multi_of doc g (suc depth) class key c vs)
multi_grows doc f g h depth class key (core.Set b form) vs =
    let looks : LookGrows (look f depth) (look g (suc depth)) = look_grows f g h depth in
    then_grows
    (added_by_all form (look f depth) (map (gives_elements doc) (contributions doc class key)) vs)
    (added_by_all form (look g (suc depth)) (map (gives_elements doc) (contributions doc class key))
    vs)
    _ _ (all_added_grow form (look f depth) (look g (suc depth)) looks
    (map (gives_elements doc) (contributions doc class key)) vs)
    (set_added_grows form (look f depth) (look g (suc depth)) looks)
multi_grows doc f g h depth class key (core.Map m b form) vs = refl
multi_grows doc f g h depth class key other vs = refl

-- ---- nodes

binding_grows : (doc : Doc) (f g : Eval) → EvalGrows f g → (depth i k : ℕ) (n : Node) (q : Place)
    → (b : BindRef)
    → Grows (binding_at doc f depth i k n q b) (binding_at doc g (suc depth) i k n q b)
binding_grows doc f g h depth i k n q (binding.Member m) =
    then_grows (member_end doc f depth i k n q m) (member_end doc g (suc depth) i k n q m) _ _
    (member_grows doc f g h depth i k n q m) (of_end_grows f g h)
binding_grows doc f g h depth i k n q (binding.ClassItem c) =
    then_grows (all (given doc f i n q)) (all (given doc g i n q)) _ _ (given_grows doc f g h i n q)
    (λ vs. grows_same (object_of doc c q vs))
binding_grows doc f g h depth i k n q (binding.Arg a) = grows_same (or_mistyped (bound_value doc i a))
binding_grows doc f g h depth i k n q binding.Default =
    grows_same (or_mistyped (bound_value doc i 0))
binding_grows doc f g h depth i k n q (binding.Exposed dep entry) =
    then_grows (all (given doc f i n q)) (all (given doc g i n q)) _ _ (given_grows doc f g h i n q)
    (λ vs. grows_same (or_mistyped (only_of vs)))

node_grows : (doc : Doc) (f g : Eval) → EvalGrows f g → (depth i k class : ℕ) (kind : NodeKind)
    → (q : Place) → Grows (eval_node doc f depth i k (node_of class kind) q)
    (eval_node doc g (suc depth) i k (node_of class kind) q)
node_grows doc f g h depth i k class (node.Bound b) q =
    binding_grows doc f g h depth i k (node_of class (node.Bound b)) q b
node_grows doc f g h depth i k class (node.Multi key) q =
    then_grows _ _ _ _ (given_grows doc f g h i (node_of class (node.Multi key)) q)
    (multi_grows doc f g h depth class key key.core)
node_grows doc f g h depth i k class (node.Opt key) q =
    then_grows _ _ _ _ (given_grows doc f g h i (node_of class (node.Opt key)) q)
    (λ vs. grows_same (optional_of vs))
node_grows doc f g h depth i k class (node.EntryOf e) q =
    then_grows _ _ _ _ (given_grows doc f g h i (node_of class (node.EntryOf e)) q)
    (λ vs. grows_same (or_mistyped (only_of vs)))

-- ---- evaluation

pub eval_grows : (doc : Doc) (d : ℕ) → EvalGrows (eval doc d) (eval doc (suc d))
unfolding eval
eval_grows doc zero i k q = tt
eval_grows doc (suc d) i k q =
    option_grows (node_in doc i k) _ _ mistyped
    (λ n. node_grows doc (eval doc d) (eval doc (suc d)) (eval_grows doc d) d i k n.class n.kind q)

pub eval_grows_to : (doc : Doc) (d e : ℕ) → d ≤ e → EvalGrows (eval doc d) (eval doc e)
eval_grows_to doc d zero le i k q =
    let same : d ≡ 0 = omega arith in
    let P : ℕ → Type 0 = λ e. Grows (eval doc d i k q) (eval doc e i k q) in
    subst P same (grows_same (eval doc d i k q))
eval_grows_to doc d (suc e) le i k q =
    elim (cases_lt d (suc e)) [
      | inl lt ↦ grows_on (eval doc d i k q) (eval doc e i k q) (eval doc (suc e) i k q)
          (eval_grows_to doc d e (omega arith) i k q) (eval_grows doc e i k q)
      | inr above ↦ (let same : d ≡ suc e = omega arith in
          let P : ℕ → Type 0 = λ e. Grows (eval doc d i k q) (eval doc e i k q) in
          subst P same (grows_same (eval doc d i k q)))
    ]

pub more_depth_changes_nothing : MoreDepthChangesNothing
more_depth_changes_nothing doc d e i k q le some =
    stays (eval doc d i k q) (eval doc e i k q) (eval_grows_to doc d e le i k q) some
