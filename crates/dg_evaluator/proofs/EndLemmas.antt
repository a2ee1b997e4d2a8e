-- Evaluation ends, and gives the value at its end.
use Rattle.std.proofs.Common.{◌≡◌, ◌≤◌, ◌-◌, ℕ, zero, suc, Bool, List, [], ◌++◌, Option, Some, None, Result, Ok, Err, option_map, refl, sym, ap, subst, ◌∙◌, append-nil, arith}
use Rattle.std.specs.Option.{option_map_or}
use Rattle.dg_types.specs.declared.key.MapKeyVal.{MapKeyVal}
use Rattle.dg_decl.specs.declared.document.Doc.{Doc}
use Rattle.dg_decl.specs.declared.binding.BindRef.TheVariants as binding
use Rattle.dg_decl.specs.declared.graph.Node.{Node}
use Rattle.dg_decl.specs.declared.graph.NodeKind.{NodeKind}
use Rattle.dg_decl.specs.declared.graph.NodeKind.TheVariants as node
use Rattle.std.proofs.lemmas.Option.{none-some}
use Rattle.dg_decl.specs.Graph.{node_of}
use Rattle.dg_decl.proofs.MemberLemmas.{out_option_map}
use Rattle.dg_slots.specs.declared.plan.Body.{Body}
use Rattle.dg_slots.specs.declared.plan.Body.TheVariants as body
use Rattle.dg_slots.specs.declared.plan.Plan.{Plan}
use Rattle.dg_slots.specs.declared.plan.Slot.{Slot}
use Rattle.dg_slots.specs.Plans.{slot_of}
use Rattle.dg_value.specs.declared.place.Place.{Place}
use Rattle.dg_value.specs.declared.value.Value.{Value}
use Rattle.dg_eval.specs.Runs.{Asked, Run, gives, and_then, mistyped}
use Rattle.dg_eval.specs.declared.world.World.{World}
use Rattle.dg_eval.specs.World.{bound_value}
use Rattle.dg_eval.specs.Operations.{or_mistyped}
use Rattle.dg_eval.specs.Bodies.{End, value_end}
use Rattle.dg_eval.specs.Meaning.{Eval, node_in, of_end, eval_node, eval}
use Rattle.dg_requests.specs.declared.calls.End.{End as Ends}
use Rattle.dg_requests.specs.declared.stop.Stop.{Stop}
use Rattle.dg_requests.specs.declared.stop.Stop.TheVariants as stop
use Rattle.dg_requests.specs.Contexts.{IsContextOf}
use Rattle.dg_requests.specs.Scopes.{Scope, IsFit}
use Rattle.dg_requests.specs.Results.{CanRun, Gave, Ran, ends}
use Rattle.dg_requests.proofs.ContextLemmas.{in_class_is}
use Rattle.dg_requests.proofs.RanLemmas.{can_as, can_first, can_rest, ran_as, ran_plain, ran_stops, ran_then}
use Rattle.dg_evaluator.specs.Answers.{IsSlotIn, HasBody, HasSet, ends_in}
use Rattle.dg_evaluator.specs.Ends.{end_of_node, end_over, end_of_slot, EvaluationEnds}
use Rattle.dg_evaluator.specs.Sets.{takes_outcomes}
use Rattle.dg_evaluator.proofs.BodyOfMulti.{set_ends, map_ends, opt_ends, arg_ends, entry_ends}
use Rattle.dg_evaluator.proofs.RestLemmas.{stopped, then_plain}
use Rattle.dg_evaluator.proofs.SlotLemmas.{eval_is, end_is, quiet_option}

-- ---- the law

-- the value at an end that is a value
value_ends : (f : Eval) (r : Run Value)
    → r ≡ and_then (and_then r (λ v. gives (value_end v))) (of_end f)
value_ends f None = refl
value_ends f (Some (Ok v, asked)) =
    ap (λ (l : List Asked). Some (Ok v, l))
    (sym (append-nil (asked ++ []) ∙ append-nil asked))
value_ends f (Some (Err e, asked)) = refl

kind_ends : (doc : Doc) (f : Eval) (depth i k class : ℕ) (kind : NodeKind) (q : Place)
    → eval_node doc f depth i k (node_of class kind) q
    ≡ and_then (end_of_node doc f depth i k (node_of class kind) q) (of_end f)
kind_ends doc f depth i k class (node.Bound (binding.Member m)) q = refl
kind_ends doc f depth i k class (node.Bound (binding.ClassItem c)) q =
    value_ends f (eval_node doc f depth i k (node_of class (node.Bound (binding.ClassItem c))) q)
kind_ends doc f depth i k class (node.Bound (binding.Arg a)) q =
    value_ends f (eval_node doc f depth i k (node_of class (node.Bound (binding.Arg a))) q)
kind_ends doc f depth i k class (node.Bound binding.Default) q =
    value_ends f (eval_node doc f depth i k (node_of class (node.Bound binding.Default)) q)
kind_ends doc f depth i k class (node.Bound (binding.Exposed d e)) q =
    value_ends f (eval_node doc f depth i k (node_of class (node.Bound (binding.Exposed d e))) q)
kind_ends doc f depth i k class (node.Multi key) q =
    value_ends f (eval_node doc f depth i k (node_of class (node.Multi key)) q)
kind_ends doc f depth i k class (node.Opt key) q =
    value_ends f (eval_node doc f depth i k (node_of class (node.Opt key)) q)
kind_ends doc f depth i k class (node.EntryOf e) q =
    value_ends f (eval_node doc f depth i k (node_of class (node.EntryOf e)) q)

pub eval_ends : (doc : Doc) (depth i k : ℕ) (q : Place)
    → eval doc (suc depth) i k q
    ≡ and_then (end_over doc (eval doc depth) depth i k q) (of_end (eval doc depth))
unfolding eval
eval_ends doc depth i k q = by_node (node_in doc i k)
  where
    by_node : (o : Option Node)
        → option_map_or (λ n. eval_node doc (eval doc depth) depth i k n q) o mistyped
        ≡ and_then (option_map_or (λ n. end_of_node doc (eval doc depth) depth i k n q) o mistyped)
        (of_end (eval doc depth))
    by_node None = refl
    by_node (Some n) = kind_ends doc (eval doc depth) depth i k n.class n.kind q

pub evaluation_ends : EvaluationEnds
unfolding end_of_slot
evaluation_ends doc i k q = eval_ends doc 127 i k q

pub whole_is : (doc : Doc) (i k : ℕ) (q : Place)
    → end_of_slot doc i k q ≡ end_over doc (eval doc 127) 127 i k q
unfolding end_of_slot
whole_is doc i k q = refl

-- ---- depths

pub some_depth : (s : Scope) (depth i k : ℕ) (q : Place) → CanRun s (eval s.doc depth i k q)
    → 1 ≤ depth
unfolding eval
some_depth s zero i k q can = absurd can.may
some_depth s (suc depth) i k q can = omega arith

pub deeper : (depth : ℕ) → 1 ≤ depth → suc (depth - 1) ≡ depth
deeper depth le = omega arith

-- ---- values as ends

-- an evaluation that ends in its value
abbrev pub EndsInValue : Doc → ℕ → ℕ → ℕ → Place → Type 0
EndsInValue doc depth i k q =
    end_over doc (eval doc depth) depth i k q
    ≡ and_then (eval doc (suc depth) i k q) (λ v. gives (value_end v))

ends_so : (doc : Doc) (depth i k : ℕ) (q : Place) (n : Node) → node_in doc i k ≡ Some n
    → end_of_node doc (eval doc depth) depth i k n q
    ≡ and_then (eval_node doc (eval doc depth) depth i k n q) (λ v. gives (value_end v))
    → EndsInValue doc depth i k q
ends_so doc depth i k q n is e =
    end_is doc (eval doc depth) depth i k n q is ∙ e
    ∙ sym (ap (λ (r : Run Value). and_then r (λ v. gives (value_end v)))
    (eval_is doc depth i k n q is))

pub has_body : (doc : Doc) (i k : ℕ) (s : Slot) (b : Body) → IsSlotIn doc i k s → s.body ≡ b
    → HasBody doc i k b
has_body doc i k s b is e = record {
  node = is.node;
  is_node = is.is_node;
  is_body = sym (ap (λ (s : Slot). s.body) is.is_slot) ∙ e;
}

pub has_set : (doc : Doc) (i k : ℕ) (s : Slot) (flags : List Bool) (of_outcomes : Bool)
    → IsSlotIn doc i k s → s.body ≡ body.Set flags → of_outcomes ≡ takes_outcomes s.inputs
    → HasSet doc i k of_outcomes flags
has_set doc i k s flags of_outcomes is e form = record {
  node = is.node;
  is_node = is.is_node;
  is_body = sym (ap (λ (s : Slot). s.body) is.is_slot) ∙ e;
  is_form = form ∙ ap (λ (s : Slot). takes_outcomes s.inputs) is.is_slot;
}

pub set_ends_so : (doc : Doc) (depth i k : ℕ) (q : Place) (flags : List Bool)
    → HasBody doc i k (body.Set flags) → EndsInValue doc depth i k q
set_ends_so doc depth i k q flags has =
    ends_so doc depth i k q has.node has.is_node
    (set_ends doc (eval doc depth) depth i k has.node q flags
    (in_class_is doc i k has.node has.is_node).0 has.is_body).ends

pub map_ends_so : (doc : Doc) (depth i k : ℕ) (q : Place) (keys : List MapKeyVal)
    → HasBody doc i k (body.Map keys) → EndsInValue doc depth i k q
map_ends_so doc depth i k q keys has =
    ends_so doc depth i k q has.node has.is_node
    (map_ends doc (eval doc depth) depth i k has.node q keys
    (in_class_is doc i k has.node has.is_node).0 has.is_body).ends

pub optional_ends_so : (doc : Doc) (depth i k : ℕ) (q : Place) (present : Bool)
    → HasBody doc i k (body.Opt present) → EndsInValue doc depth i k q
optional_ends_so doc depth i k q present has =
    ends_so doc depth i k q has.node has.is_node
    (opt_ends doc (eval doc depth) depth i k has.node q present has.is_body).ends

pub argument_ends_so : (doc : Doc) (depth i k : ℕ) (q : Place) (a : ℕ)
    → HasBody doc i k (body.Arg a) → EndsInValue doc depth i k q
argument_ends_so doc depth i k q a has =
    ends_so doc depth i k q has.node has.is_node
    (arg_ends doc (eval doc depth) depth i k has.node q a has.is_body).ends

pub entry_ends_so : (doc : Doc) (depth i k : ℕ) (q : Place) → HasBody doc i k body.EntryOf
    → EndsInValue doc depth i k q
entry_ends_so doc depth i k q has =
    ends_so doc depth i k q has.node has.is_node
    (entry_ends doc (eval doc depth) depth i k has.node q has.is_body).ends

pub argument_is : (doc : Doc) (depth i k : ℕ) (q : Place) (a : ℕ) → HasBody doc i k (body.Arg a)
    → eval doc (suc depth) i k q ≡ or_mistyped (bound_value doc i a)
argument_is doc depth i k q a has =
    eval_is doc depth i k has.node q has.is_node
    ∙ (arg_ends doc (eval doc depth) depth i k has.node q a has.is_body).is

-- what fits is a context
pub fits_so : (s : Scope) (plan : Plan) (world : World) → IsFit s plan world
    → IsContextOf s.doc plan world
fits_so s plan world fit =
    record { accepted = fit.accepted; of_plan = fit.of_plan; of_world = fit.of_world }

-- a slot that is there
pub slot_so : (doc : Doc) (i k : ℕ) (s : Slot)
    → Some s ≡ option_map (slot_of doc) (node_in doc i k) → IsSlotIn doc i k s
slot_so doc i k s e =
    let o = out_option_map (slot_of doc) (node_in doc i k) s (sym e) in
    record { node = o.0; is_node = o.1; is_slot = sym o.2 }

no_node : (doc : Doc) (o : Option Node) → None ≡ option_map (slot_of doc) o → o ≡ None
no_node doc None e = refl
no_node doc (Some n) e = absurd (none-some (slot_of doc n) e)

-- there is no slot
pub not_so : (doc : Doc) (f : Eval) (depth i k : ℕ) (q : Place)
    → None ≡ option_map (slot_of doc) (node_in doc i k)
    → end_over doc f depth i k q ≡ mistyped
not_so doc f depth i k q e =
    ap (λ (o : Option Node). option_map_or (λ n. end_of_node doc f depth i k n q) o mistyped)
    (no_node doc (node_in doc i k) e)

pub mistyped_ran : {A : Type 0} (s : Scope) (run : Run A) (a : Option (List Asked))
    → (result : Result A Stop) → run ≡ mistyped → Gave (mistyped {A = A}) result
    → Ran s run a a result
mistyped_ran s run a result e gave =
    ran_as s mistyped run a a result (sym e) (ran_plain s mistyped a result refl gave)

-- a failure where a part is missing, as one of an end
pub ends_gave : (result : Result Ends Stop) → Gave (mistyped {A = Ends}) result
    → Gave (mistyped {A = End}) (ends result)
ends_gave (Ok e) gave = cc
ends_gave (Err (stop.Failed f)) gave = (let same = gave in cc)
ends_gave (Err stop.NoMemory) gave = tt

-- ---- what was run

pub end_can : (s : Scope) (depth i k : ℕ) (q : Place) → EndsInValue s.doc depth i k q
    → CanRun s (end_over s.doc (eval s.doc depth) depth i k q)
    → CanRun s (eval s.doc (suc depth) i k q)
end_can s depth i k q so can =
    can_first s (eval s.doc (suc depth) i k q) (λ v. gives (value_end v))
    (can_as s (end_over s.doc (eval s.doc depth) depth i k q) _ so can)

ran_in : (s : Scope) (r : Run Value) (a b : Option (List Asked)) (result : Result Value Stop)
    → CanRun s (and_then r (λ v. gives (value_end v))) → Ran s r a b result
    → Ran s (and_then r (λ v. gives (value_end v))) a b (ends_in result)
ran_in s r a b (Ok v) can h =
    then_plain s r (λ v. gives (value_end v)) v a b (Ok (value_end v)) can h refl refl
ran_in s r a b (Err e) can h = ran_stops s r (λ v. gives (value_end v)) e a b can h

pub end_ran : (s : Scope) (depth i k : ℕ) (q : Place) (a b : Option (List Asked))
    → (value : Result Value Stop) (result : Result End Stop) → EndsInValue s.doc depth i k q
    → CanRun s (end_over s.doc (eval s.doc depth) depth i k q)
    → Ran s (eval s.doc (suc depth) i k q) a b value → result ≡ ends_in value
    → Ran s (end_over s.doc (eval s.doc depth) depth i k q) a b result
end_ran s depth i k q a b value result so can h same =
    let r = eval s.doc (suc depth) i k q in
    let run = end_over s.doc (eval s.doc depth) depth i k q in
    let then = and_then r (λ v. gives (value_end v)) in
    subst (λ (u : Result End Stop). Ran s run a b u) (sym same)
    (ran_as s then run a b (ends_in value) (sym so)
    (ran_in s r a b value (can_as s run then so can) h))

pub argument_ran : (s : Scope) (depth i k : ℕ) (q : Place) (index : ℕ) (a : Option (List Asked))
    → (result : Result Value Stop) → HasBody s.doc i k (body.Arg index)
    → Gave (or_mistyped (bound_value s.doc i index)) result
    → Ran s (eval s.doc (suc depth) i k q) a a result
argument_ran s depth i k q index a result has gave =
    let r = or_mistyped (bound_value s.doc i index) in
    ran_as s r (eval s.doc (suc depth) i k q) a a result
    (sym (argument_is s.doc depth i k q index has))
    (ran_plain s r a result (quiet_option (bound_value s.doc i index)) gave)

-- ---- the value at an end

pub at_end_can : (s : Scope) (depth i k : ℕ) (q : Place) (a b : Option (List Asked)) (e : End)
    → CanRun s (eval s.doc (suc depth) i k q)
    → Ran s (end_over s.doc (eval s.doc depth) depth i k q) a b (Ok e)
    → CanRun s (of_end (eval s.doc depth) e)
at_end_can s depth i k q a b e can h =
    can_rest s (end_over s.doc (eval s.doc depth) depth i k q) (of_end (eval s.doc depth)) e
    (can_as s (eval s.doc (suc depth) i k q) _ (eval_ends s.doc depth i k q) can) h.gave

pub end_first_can : (s : Scope) (depth i k : ℕ) (q : Place)
    → CanRun s (eval s.doc (suc depth) i k q)
    → CanRun s (end_over s.doc (eval s.doc depth) depth i k q)
end_first_can s depth i k q can =
    can_first s (end_over s.doc (eval s.doc depth) depth i k q) (of_end (eval s.doc depth))
    (can_as s (eval s.doc (suc depth) i k q) _ (eval_ends s.doc depth i k q) can)

pub at_end_ran : (s : Scope) (depth i k : ℕ) (q : Place) (a b d : Option (List Asked)) (e : End)
    → (result : Result Value Stop) → CanRun s (eval s.doc (suc depth) i k q)
    → Ran s (end_over s.doc (eval s.doc depth) depth i k q) a b (Ok e)
    → Ran s (of_end (eval s.doc depth) e) b d result
    → Ran s (eval s.doc (suc depth) i k q) a d result
at_end_ran s depth i k q a b d e result can h k' =
    let r = end_over s.doc (eval s.doc depth) depth i k q in
    let next = of_end (eval s.doc depth) in
    ran_as s (and_then r next) (eval s.doc (suc depth) i k q) a d result
    (sym (eval_ends s.doc depth i k q))
    (ran_then s r next e a b d result
    (can_as s (eval s.doc (suc depth) i k q) (and_then r next) (eval_ends s.doc depth i k q) can)
    h k')

pub at_end_stops : (s : Scope) (depth i k : ℕ) (q : Place) (a b : Option (List Asked))
    → (e d : Stop) (result : Result Value Stop) → CanRun s (eval s.doc (suc depth) i k q)
    → Ran s (end_over s.doc (eval s.doc depth) depth i k q) a b (Err e) → result ≡ Err d → d ≡ e
    → Ran s (eval s.doc (suc depth) i k q) a b result
at_end_stops s depth i k q a b e d result can h gave same =
    let r = end_over s.doc (eval s.doc depth) depth i k q in
    let next = of_end (eval s.doc depth) in
    ran_as s (and_then r next) (eval s.doc (suc depth) i k q) a b result
    (sym (eval_ends s.doc depth i k q))
    (stopped s r next a b e d result
    (can_as s (eval s.doc (suc depth) i k q) (and_then r next) (eval_ends s.doc depth i k q) can)
    h gave same)
