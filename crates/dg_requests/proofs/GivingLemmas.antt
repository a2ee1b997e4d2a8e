-- What is given in each mode, and what all inputs are given.
use Rattle.std.proofs.Common.{◌≡◌, ◌<◌, ◌≤◌, ℕ, suc, List, length, slice_get, get_or, take, Option, Some, None, IsSome, option_map, Result, Ok, Err, refl, sym, ap, subst, ◌∙◌, arith}
use Rattle.std.specs.List.{enumerate_from}
use Rattle.std.specs.Option.{option_map_or}
use Rattle.std.proofs.lemmas.List.{length-map, take_all}
use Rattle.std.proofs.lemmas.List.FromFn.{length-enumerate_from}
use Rattle.std.proofs.lemmas.Bool.{false≢true}
use Rattle.std.proofs.lemmas.Option.{slice_get-get_or}
use Rattle.dg_types.specs.declared.key.Core.{Core}
use Rattle.dg_types.specs.declared.key.Core.TheVariants as core
use Rattle.dg_types.specs.declared.key.Key.{Key}
use Rattle.dg_types.specs.declared.key.Mode.{Mode}
use Rattle.dg_decl.specs.declared.document.Doc.{Doc}
use Rattle.dg_decl.specs.declared.binding.BindRef.TheVariants as binding
use Rattle.dg_decl.specs.declared.graph.Node.{Node}
use Rattle.dg_decl.specs.declared.graph.NodeKind.{NodeKind}
use Rattle.dg_decl.specs.declared.graph.NodeKind.TheVariants as node
use Rattle.dg_decl.specs.declared.item.Item.{Item}
use Rattle.dg_decl.specs.declared.item.Item.TheVariants as item
use Rattle.dg_decl.specs.Diagnostics.{IsAccepted}
use Rattle.dg_decl.specs.Graph.{Dependency, deps, node_of, nodes}
use Rattle.dg_decl.specs.Names.{item_at}
use Rattle.dg_decl.proofs.MemberLemmas.{in_got, out_and_then}
use Rattle.dg_slots.specs.declared.plan.Input.{Input}
use Rattle.dg_slots.specs.declared.plan.Plan.{Plan}
use Rattle.dg_slots.specs.declared.plan.Slot.{Slot}
use Rattle.dg_slots.specs.Plans.{one_param, body_of_item, body_of_multi, body_of_node, input_of, inputs_of, slot_of}
use Rattle.dg_value.specs.declared.place.Place.{Place}
use Rattle.dg_value.specs.declared.place.PlaceStep.{PlaceStep}
use Rattle.dg_value.specs.declared.place.PlaceStep.TheVariants as step
use Rattle.dg_value.specs.Places.{then_step}
use Rattle.dg_value.specs.declared.value.Failure.{Failure}
use Rattle.dg_value.specs.declared.value.Kept.{Kept}
use Rattle.dg_value.specs.declared.value.Kept.TheVariants as kept
use Rattle.dg_value.specs.declared.value.Value.{Value}
use Rattle.dg_value.specs.declared.value.Value.TheVariants as value
use Rattle.dg_eval.specs.declared.world.World.{World}
use Rattle.dg_eval.specs.Runs.{Asked, Run, all, outcome_of, mistyped}
use Rattle.dg_eval.specs.Meaning.{node_in, Eval, Target as Look, give, step_to, target_of, given_one, given}
use Rattle.dg_eval.proofs.AcceptedDepth.{stages_of_accepted}
use Rattle.dg_eval.proofs.InputLemmas.{each_given, no_input_is_left_out}
use Rattle.dg_eval.proofs.InputLists.{given_at}
use Rattle.dg_requests.specs.declared.context.Target.{Target}
use Rattle.dg_requests.specs.declared.stop.Stop.{Stop}
use Rattle.dg_requests.specs.declared.stop.Stop.TheVariants as stop
use Rattle.dg_requests.specs.Scopes.{Scope, IsFit}
use Rattle.dg_requests.specs.Results.{CanRun, Ran, result_of, BecomesOutcome}
use Rattle.dg_requests.specs.Contexts.{IsContextOf, IsInputFor, as_look, step_of}
use Rattle.dg_requests.proofs.RanLemmas.{ran_as, told_weaker}
use Rattle.dg_requests.proofs.ContextLemmas.{first_enumerated, in_class_is}
use Rattle.dg_requests.proofs.Behind.{input_mode, slot_is}

-- ---- outcomes

pub can_outcome : (s : Scope) (r : Run Value) → CanRun s (outcome_of r) → CanRun s r
can_outcome s None h = absurd h.may
can_outcome s (Some (r, asks)) h = record { may = h.may }

-- a run that came to what is kept
outcome_is : (s : Scope) (r : Run Value) (x y : Option (List Asked)) (k : Kept)
    → Ran s r x y (result_of (Ok k)) → Ran s (outcome_of r) x y (Ok (value.Outcome k))
outcome_is s None x y (kept.Value v) h = (let e = h.gave in cc)
outcome_is s None x y (kept.Failed f) h = (let e = h.gave in cc)
outcome_is s (Some (Ok w, asks)) x y (kept.Value v) h =
    let e = h.gave in
    let same : w ≡ v = cc in
    record {
      gave = ap (λ (u : Value). Some (Ok (value.Outcome (kept.Value u)))) same;
      asked = h.asked;
    }
outcome_is s (Some (Err f, asks)) x y (kept.Value v) h = (let e = h.gave in cc)
outcome_is s (Some (Ok w, asks)) x y (kept.Failed f) h = (let e = h.gave in cc)
outcome_is s (Some (Err g, asks)) x y (kept.Failed f) h =
    let e = h.gave in
    let same : g ≡ f = cc in
    record {
      gave = ap (λ (u : Failure). Some (Ok (value.Outcome (kept.Failed u)))) same;
      asked = h.asked;
    }

-- memory lacks for the outcome, whatever the run came to
outcome_lacks : (s : Scope) (r : Run Value) (x y : Option (List Asked)) (came : Result Value Stop)
    → Ran s r x y came → Ran s (outcome_of r) x y (Err stop.NoMemory)
outcome_lacks s None x y (Ok v) h = (let e = h.gave in cc)
outcome_lacks s None x y (Err (stop.Failed f)) h = (let e = h.gave in cc)
outcome_lacks s None x y (Err stop.NoMemory) h = record { gave = tt; asked = h.asked }
outcome_lacks s (Some (r, asks)) x y (Ok v) h =
    record { gave = tt; asked = told_weaker _ _ x y (λ m k. k.used) h.asked }
outcome_lacks s (Some (r, asks)) x y (Err (stop.Failed f)) h =
    record { gave = tt; asked = told_weaker _ _ x y (λ m k. k.used) h.asked }
outcome_lacks s (Some (r, asks)) x y (Err stop.NoMemory) h = record { gave = tt; asked = h.asked }

pub ran_outcome : (s : Scope) (r : Run Value) (x y : Option (List Asked))
    → (came result : Result Value Stop) → Ran s r x y came → BecomesOutcome came result
    → Ran s (outcome_of r) x y result
ran_outcome s r x y came (Ok v) h b =
    let P : Value → Type 0 = λ u. Ran s (outcome_of r) x y (Ok u) in
    let Q : Result Value Stop → Type 0 = λ u. Ran s r x y u in
    subst P (sym b.1) (outcome_is s r x y b.0 (subst Q (sym b.2) h))
ran_outcome s r x y came (Err (stop.Failed f)) h b = cc
ran_outcome s r x y came (Err stop.NoMemory) h b = outcome_lacks s r x y came h

-- ---- contexts

pub fit_is_context : (s : Scope) (plan : Plan) (world : World) → IsFit s plan world
    → IsContextOf s.doc plan world
fit_is_context s plan world fit =
    record { accepted = fit.accepted; of_plan = fit.of_plan; of_world = fit.of_world }

pub node_there : {A : Type 0} (o : Option A) → IsSome o → (a : A) × (o ≡ Some a)
node_there None there = absurd (false≢true there)
node_there (Some a) there = (a, refl)

-- ---- the steps to inputs

step_of_item : (doc : Doc) (i m : ℕ) (x : Item) → step_of (body_of_item doc i x) m ≡ step.Arg m
step_of_item doc i m (item.Provides mk scope n params result e) = refl
step_of_item doc i m (item.Produces mk n params result t) = refl
step_of_item doc i m (item.Class inject scope n params interfaces) = refl
step_of_item doc i m other = refl

step_of_member : (doc : Doc) (i m : ℕ) (o : Option Item)
    → step_of (option_map_or (body_of_item doc i) o one_param) m ≡ step.Arg m
step_of_member doc i m None = refl
step_of_member doc i m (Some x) = step_of_item doc i m x

step_of_multi : (doc : Doc) (class m : ℕ) (key : Key) (c : Core)
    → step_of (body_of_multi doc class key c) m ≡ step.Elem m
step_of_multi doc class m key (core.Map k b form) = refl
step_of_multi doc class m key other = refl

-- the body of a slot tells the step to its inputs
step_of_kind : (doc : Doc) (class m : ℕ) (kind : NodeKind)
    → step_of (body_of_node doc (node_of class kind)) m ≡ step_to kind m
step_of_kind doc class m (node.Bound (binding.Member i)) = step_of_member doc i m (item_at doc i)
step_of_kind doc class m (node.Bound (binding.ClassItem i)) =
    step_of_member doc i m (item_at doc i)
step_of_kind doc class m (node.Bound (binding.Arg a)) = refl
step_of_kind doc class m (node.Bound binding.Default) = refl
step_of_kind doc class m (node.Bound (binding.Exposed dep entry)) = refl
step_of_kind doc class m (node.Multi key) = step_of_multi doc class m key key.core
step_of_kind doc class m (node.Opt key) = refl
step_of_kind doc class m (node.EntryOf e) = refl

-- ---- inputs

-- the input of this index of a slot, and what is given for it
pub record GivesInput (doc : Doc) (f : Eval) (i k m : ℕ) (n : Node) (q : Place) (s : Slot)
    (x : Input) : Type 0 where
  pub dependency : Dependency
  pub is_input : IsInputFor doc i k m n dependency x
  pub run : (t : Target) → Some (as_look t) ≡ target_of doc i n dependency
      → slice_get (given doc f i n q) m
      ≡ Some (give doc f x.mode t.inst t.slot (then_step q (step_of s.body (suc m))))

pub runs_at : (doc : Doc) (f : Eval) (i m : ℕ) (n : Node) (q : Place)
    → slice_get (given doc f i n q) m
    ≡ option_map (λ (d : Dependency). given_one doc f i n q (suc m) d) (slice_get (deps doc n) m)
runs_at doc f i m n q =
    first_enumerated (λ (p : ℕ × Dependency). given_one doc f i n q (suc p.0) p.1) (deps doc n) m

run_to : (doc : Doc) (f : Eval) (i m : ℕ) (n : Node) (q : Place) (d : Dependency) (x : Input)
    → (s : Slot) (l : Look) → x.mode ≡ d.mode → s ≡ slot_of doc n → Some l ≡ target_of doc i n d
    → given_one doc f i n q (suc m) d
    ≡ give doc f x.mode l.inst l.slot (then_step q (step_of s.body (suc m)))
run_to doc f i m n q d x s l mode same to =
    ap (λ (o : Option Look). option_map_or (λ (l : Look). give doc f d.mode l.inst l.slot
    (then_step q (step_to n.kind (suc m)))) o mistyped) (sym to)
    ∙ ap (λ (u : Mode). give doc f u l.inst l.slot (then_step q (step_to n.kind (suc m))))
    (sym mode)
    ∙ ap (λ (u : PlaceStep). give doc f x.mode l.inst l.slot (then_step q u))
    (sym (ap (λ (s : Slot). step_of s.body (suc m)) same
    ∙ step_of_kind doc n.class (suc m) n.kind))

gives_input : (doc : Doc) → IsAccepted doc → (f : Eval) (i k m : ℕ) (n : Node) (q : Place)
    → (s : Slot) (xs : List Input) (x : Input) → node_in doc i k ≡ Some n → s ≡ slot_of doc n
    → xs ≡ s.inputs → slice_get xs m ≡ Some x → GivesInput doc f i k m n q s x
gives_input doc accepted f i k m n q s xs x is same list here =
    let among = in_got (nodes doc) k n (in_class_is doc i k n is).0 in
    let is_input : slice_get (inputs_of doc n) m ≡ Some x =
    sym (ap (λ (l : List Input). slice_get l m) (list ∙ ap (λ (s : Slot). s.inputs) same)) ∙ here in
    let d = out_and_then (input_of doc n) (slice_get (deps doc n) m) x
    (sym (given_at (input_of doc n) (deps doc n) m
    (each_given doc (stages_of_accepted doc accepted).bindings n among)) ∙ is_input) in
    record {
      dependency = d.0;
      is_input = record { is_node = is; is_dependency = d.1; is_input = is_input };
      run = λ t to. runs_at doc f i m n q
          ∙ ap (option_map (λ (d : Dependency). given_one doc f i n q (suc m) d)) d.1
          ∙ ap Some (run_to doc f i m n q d.0 x s (as_look t) (input_mode doc n d.0 x d.2) same to);
    }

-- the same, as the code sees the slot and its inputs
pub input_here : (doc : Doc) (plan : Plan) (world : World) → IsContextOf doc plan world
    → (f : Eval) (i k m : ℕ) (n : Node) (q : Place) (s : Slot) (xs : List Input) (x : Input)
    → node_in doc i k ≡ Some n → Some s ≡ option_map (slot_of doc) (node_in doc i k)
    → xs ≡ s.inputs → m < length xs → GivesInput doc f i k m n q s (get_or xs m x)
input_here doc plan world of f i k m n q s xs x is slot list within =
    gives_input doc of.accepted f i k m n q s xs (get_or xs m x) is
    (slot_is doc n s (node_in doc i k) slot is) list (slice_get-get_or xs m x within)

-- all inputs are all that is given
given_count : (doc : Doc) → IsAccepted doc → (f : Eval) (i k : ℕ) (n : Node) (q : Place) (s : Slot)
    → node_in doc i k ≡ Some n → s ≡ slot_of doc n
    → length (given doc f i n q) ≡ length s.inputs
given_count doc accepted f i k n q s is same =
    length-map (enumerate_from 0 (deps doc n)) (λ d. given_one doc f i n q (suc d.0) d.1)
    ∙ length-enumerate_from 0 (deps doc n)
    ∙ sym (no_input_is_left_out doc accepted k n (in_class_is doc i k n is).0)
    ∙ sym (ap (λ (s : Slot). length s.inputs) same)

pub ran_all : (s : Scope) → IsAccepted s.doc → (f : Eval) (i k m : ℕ) (n : Node) (q : Place)
    → (slot : Slot) (xs : List Input) (x y : Option (List Asked))
    → (result : Result (List Value) Stop) → node_in s.doc i k ≡ Some n
    → Some slot ≡ option_map (slot_of s.doc) (node_in s.doc i k) → xs ≡ slot.inputs
    → length xs ≤ m → Ran s (all (take m (given s.doc f i n q))) x y result
    → Ran s (all (given s.doc f i n q)) x y result
ran_all s accepted f i k m n q slot xs x y result is there list past h =
    let same = slot_is s.doc n slot (node_in s.doc i k) there is in
    let count = given_count s.doc accepted f i k n q slot is same in
    let inputs : length xs ≡ length slot.inputs = ap (λ (l : List Input). length l) list in
    let le : length (given s.doc f i n q) ≤ m = omega (arith, count, inputs, past) in
    ran_as s (all (take m (given s.doc f i n q))) (all (given s.doc f i n q)) x y result
    (ap all (take_all m (given s.doc f i n q) le)) h
