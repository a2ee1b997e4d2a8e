-- How each kind of body makes the value of its slot, of what the slot is given.
use Rattle.std.proofs.Common.{◌≡◌, ℕ, suc, Bool, List, [], ◌∷◌, Option, Some, None, Result, Ok, Err, refl, sym, ap, subst, ◌∙◌}
use Rattle.std.specs.Option.{option_map_or, IsSome}
use Rattle.std.proofs.lemmas.Bool.{false≢true}
use Rattle.std.proofs.lemmas.Option.{same_Some}
use Rattle.dg_types.specs.declared.key.MapKeyVal.{MapKeyVal}
use Rattle.dg_decl.specs.declared.document.Doc.{Doc}
use Rattle.dg_decl.specs.declared.graph.Node.{Node}
use Rattle.dg_decl.specs.Diagnostics.{IsAccepted}
use Rattle.dg_slots.specs.declared.body.NTree.{NTree}
use Rattle.dg_slots.specs.declared.plan.Body.TheVariants as body
use Rattle.dg_value.specs.declared.place.Place.{Place}
use Rattle.dg_value.specs.declared.value.Value.{Value}
use Rattle.dg_value.specs.declared.value.Value.TheVariants as value
use Rattle.dg_eval.specs.Runs.{Asked, Run, gives, and_then, all, asks_of, mistyped}
use Rattle.dg_eval.specs.Operations.{or_mistyped, only_of}
use Rattle.dg_eval.specs.Bodies.{tree_part}
use Rattle.dg_eval.specs.Meaning.{node_at, node_in, Eval, given, around, pairs, optional_of, eval_node, eval}
use Rattle.dg_requests.specs.declared.stop.Stop.{Stop}
use Rattle.dg_requests.specs.Scopes.{Scope}
use Rattle.dg_requests.specs.Results.{CanRun, Gave, Ran}
use Rattle.dg_requests.proofs.ContextLemmas.{in_class_is}
use Rattle.dg_requests.proofs.RanLemmas.{can_as, can_first, can_rest, ran_as, ran_plain, ran_then}
use Rattle.dg_evaluator.specs.Answers.{HasBody}
use Rattle.dg_evaluator.specs.Ends.{end_of_node, end_over, only_over}
use Rattle.dg_evaluator.proofs.BodyOfSlot.{run_ends}
use Rattle.dg_evaluator.proofs.BodyOfMulti.{map_ends, opt_ends, entry_ends}
use Rattle.dg_evaluator.proofs.RestLemmas.{stopped}

-- ---- the node of a slot

node_over : {A : Type 0} (f : Node → Run A) (o : Option Node) (n : Node) → o ≡ Some n
    → option_map_or f o mistyped ≡ f n
node_over f o n e = ap (λ (o : Option Node). option_map_or f o mistyped) e

pub eval_is : (doc : Doc) (depth i k : ℕ) (n : Node) (q : Place) → node_in doc i k ≡ Some n
    → eval doc (suc depth) i k q ≡ eval_node doc (eval doc depth) depth i k n q
unfolding eval
eval_is doc depth i k n q e =
    node_over (λ n. eval_node doc (eval doc depth) depth i k n q) (node_in doc i k) n e

pub end_is : (doc : Doc) (f : Eval) (depth i k : ℕ) (n : Node) (q : Place)
    → node_in doc i k ≡ Some n → end_over doc f depth i k q ≡ end_of_node doc f depth i k n q
end_is doc f depth i k n q e =
    node_over (λ n. end_of_node doc f depth i k n q) (node_in doc i k) n e

pub only_is : (doc : Doc) (f : Eval) (i k : ℕ) (n : Node) (q : Place) → node_in doc i k ≡ Some n
    → only_over doc f i k q
    ≡ and_then (all (given doc f i n q)) (λ vs. or_mistyped (only_of vs))
only_is doc f i k n q e =
    node_over (λ n. and_then (all (given doc f i n q)) (λ vs. or_mistyped (only_of vs)))
    (node_in doc i k) n e

at_number : (doc : Doc) (i k : ℕ) (n : Node) → node_in doc i k ≡ Some n → node_at doc k ≡ Some n
at_number doc i k n e = (in_class_is doc i k n e).0

-- ---- what a slot is given, and then

-- a run is what a slot is given, and then something that is made of it
pub record ByGiven {A : Type 0} (doc : Doc) (f : Eval) (i k : ℕ) (q : Place) (run : Run A)
    (next : List Value → Run A) : Type 0 where
  pub node : Node
  pub is_node : node_in doc i k ≡ Some node
  pub is : run ≡ and_then (all (given doc f i node q)) next

-- what a slot was given
abbrev pub WasGiven : Scope → Eval → ℕ → ℕ → Place → Option (List Asked) → Option (List Asked)
    → Result (List Value) Stop → Type 0
WasGiven s f i k q a b result =
    (n : Node) → node_in s.doc i k ≡ Some n → Ran s (all (given s.doc f i n q)) a b result

pub given_can : {A : Type 0} (s : Scope) (f : Eval) (i k : ℕ) (q : Place) (run : Run A)
    → (next : List Value → Run A) → ByGiven s.doc f i k q run next → CanRun s run → (n : Node)
    → node_in s.doc i k ≡ Some n → CanRun s (all (given s.doc f i n q))
given_can s f i k q run next by can n e =
    let same : by.node ≡ n = same_Some by.node n (sym by.is_node ∙ e) in
    subst (λ (m : Node). CanRun s (all (given s.doc f i m q))) same
    (can_first s (all (given s.doc f i by.node q)) next
    (can_as s run (and_then (all (given s.doc f i by.node q)) next) by.is can))

pub given_next : {A : Type 0} (s : Scope) (f : Eval) (i k : ℕ) (q : Place) (run : Run A)
    → (next : List Value → Run A) (a b : Option (List Asked)) (vs : List Value)
    → ByGiven s.doc f i k q run next → CanRun s run → WasGiven s f i k q a b (Ok vs)
    → CanRun s (next vs)
given_next s f i k q run next a b vs by can h =
    can_rest s (all (given s.doc f i by.node q)) next vs
    (can_as s run (and_then (all (given s.doc f i by.node q)) next) by.is can)
    (h by.node by.is_node).gave

pub given_then : {A : Type 0} (s : Scope) (f : Eval) (i k : ℕ) (q : Place) (run : Run A)
    → (next : List Value → Run A) (a b d : Option (List Asked)) (vs : List Value)
    → (result : Result A Stop) → ByGiven s.doc f i k q run next → CanRun s run
    → WasGiven s f i k q a b (Ok vs) → Ran s (next vs) b d result → Ran s run a d result
given_then s f i k q run next a b d vs result by can h then =
    let r = all (given s.doc f i by.node q) in
    ran_as s (and_then r next) run a d result (sym by.is)
    (ran_then s r next vs a b d result (can_as s run (and_then r next) by.is can)
    (h by.node by.is_node) then)

pub given_plain : {A : Type 0} (s : Scope) (f : Eval) (i k : ℕ) (q : Place) (run : Run A)
    → (next : List Value → Run A) (a b : Option (List Asked)) (vs : List Value)
    → (result : Result A Stop) → ByGiven s.doc f i k q run next → CanRun s run
    → WasGiven s f i k q a b (Ok vs) → asks_of (next vs) ≡ [] → Gave (next vs) result
    → Ran s run a b result
given_plain s f i k q run next a b vs result by can h quiet gave =
    given_then s f i k q run next a b b vs result by can h
    (ran_plain s (next vs) b result quiet gave)

pub given_stops : {A : Type 0} (s : Scope) (f : Eval) (i k : ℕ) (q : Place) (run : Run A)
    → (next : List Value → Run A) (a b : Option (List Asked)) (e d : Stop) (result : Result A Stop)
    → ByGiven s.doc f i k q run next → CanRun s run → WasGiven s f i k q a b (Err e)
    → result ≡ Err d → d ≡ e → Ran s run a b result
given_stops s f i k q run next a b e d result by can h gave same =
    let r = all (given s.doc f i by.node q) in
    ran_as s (and_then r next) run a b result (sym by.is)
    (stopped s r next a b e d result (can_as s run (and_then r next) by.is can)
    (h by.node by.is_node) gave same)

-- the same, of a list that is what was given
pub given_next_as : {A : Type 0} (s : Scope) (f : Eval) (i k : ℕ) (q : Place) (run : Run A)
    → (next : List Value → Run A) (a b : Option (List Asked)) (vs ws : List Value) → ws ≡ vs
    → ByGiven s.doc f i k q run next → CanRun s run → WasGiven s f i k q a b (Ok vs)
    → CanRun s (next ws)
given_next_as s f i k q run next a b vs ws e by can h =
    can_as s (next vs) (next ws) (sym (ap next e)) (given_next s f i k q run next a b vs by can h)

pub given_then_as : {A : Type 0} (s : Scope) (f : Eval) (i k : ℕ) (q : Place) (run : Run A)
    → (next : List Value → Run A) (a b d : Option (List Asked)) (vs ws : List Value)
    → (result : Result A Stop) → ws ≡ vs → ByGiven s.doc f i k q run next → CanRun s run
    → WasGiven s f i k q a b (Ok vs) → Ran s (next ws) b d result → Ran s run a d result
given_then_as s f i k q run next a b d vs ws result e by can h then =
    given_then s f i k q run next a b d vs result by can h
    (ran_as s (next ws) (next vs) b d result (ap next e) then)

pub given_plain_as : {A : Type 0} (s : Scope) (f : Eval) (i k : ℕ) (q : Place) (run : Run A)
    → (next : List Value → Run A) (a b : Option (List Asked)) (vs ws : List Value)
    → (result : Result A Stop) → ws ≡ vs → ByGiven s.doc f i k q run next → CanRun s run
    → WasGiven s f i k q a b (Ok vs) → asks_of (next ws) ≡ [] → Gave (next ws) result
    → Ran s run a b result
given_plain_as s f i k q run next a b vs ws result e by can h quiet gave =
    given_then_as s f i k q run next a b b vs ws result e by can h
    (ran_plain s (next ws) b result quiet gave)

-- ---- runs that ask for nothing

pub quiet_option : {A : Type 0} (o : Option A) → asks_of (or_mistyped o) ≡ []
quiet_option None = refl
quiet_option (Some a) = refl

pub quiet_optional : (vs : List Value) → asks_of (optional_of vs) ≡ []
quiet_optional [] = refl
quiet_optional (v ∷ vs) = refl

-- ---- each kind of body

some_node : (doc : Doc) (i k : ℕ) → IsSome (node_in doc i k)
    → (n : Node) × (node_in doc i k ≡ Some n)
some_node doc i k is = by_option (node_in doc i k) is
  where
    by_option : (o : Option Node) → IsSome o → (n : Node) × (o ≡ Some n)
    by_option None is = absurd (false≢true is)
    by_option (Some n) is = (n, refl)

pub only_by : (doc : Doc) (f : Eval) (i k : ℕ) (q : Place) → IsSome (node_in doc i k)
    → ByGiven doc f i k q (only_over doc f i k q) (λ vs. or_mistyped (only_of vs))
only_by doc f i k q is =
    let n = some_node doc i k is in
    record { node = n.0; is_node = n.1; is = only_is doc f i k n.0 q n.1 }

pub entry_same : (doc : Doc) (depth i k : ℕ) (q : Place) → HasBody doc i k body.EntryOf
    → only_over doc (eval doc depth) i k q ≡ eval doc (suc depth) i k q
entry_same doc depth i k q has =
    only_is doc (eval doc depth) i k has.node q has.is_node
    ∙ sym (entry_ends doc (eval doc depth) depth i k has.node q has.is_body).is
    ∙ sym (eval_is doc depth i k has.node q has.is_node)

pub optional_by : (doc : Doc) (depth i k : ℕ) (q : Place) (present : Bool)
    → HasBody doc i k (body.Opt present)
    → ByGiven doc (eval doc depth) i k q (eval doc (suc depth) i k q) optional_of
optional_by doc depth i k q present has = record {
  node = has.node;
  is_node = has.is_node;
  is = eval_is doc depth i k has.node q has.is_node
      ∙ (opt_ends doc (eval doc depth) depth i k has.node q present has.is_body).is;
}

pub map_by : (doc : Doc) (depth i k : ℕ) (q : Place) (keys : List MapKeyVal)
    → HasBody doc i k (body.Map keys)
    → ByGiven doc (eval doc depth) i k q (eval doc (suc depth) i k q)
    (λ vs. gives (value.Map (pairs keys vs)))
map_by doc depth i k q keys has = record {
  node = has.node;
  is_node = has.is_node;
  is = eval_is doc depth i k has.node q has.is_node
      ∙ (map_ends doc (eval doc depth) depth i k has.node q keys
      (at_number doc i k has.node has.is_node) has.is_body).is;
}

pub run_by : (doc : Doc) → IsAccepted doc → (f : Eval) (depth i k : ℕ) (q : Place) (t : NTree)
    → HasBody doc i k (body.Run t)
    → ByGiven doc f i k q (end_over doc f depth i k q)
    (λ vs. (tree_part t).run (around doc f depth k q vs) 0 0)
run_by doc accepted f depth i k q t has = record {
  node = has.node;
  is_node = has.is_node;
  is = end_is doc f depth i k has.node q has.is_node
      ∙ run_ends doc accepted f depth i k has.node q t
      (at_number doc i k has.node has.is_node) has.is_body;
}
