-- Steps of the path of an ask, and the entry that it asks for.
use Rattle.std.proofs.Common.{◌≡◌, ◌<◌, ◌≤◌, ℕ, suc, ◌+◌, List, [], ◌∷◌, ◌++◌, length, map, slice_get, drop, Contains, Option, Some, None, option_map, option_and_then, Result, Ok, Err, refl, sym, ap, subst, ◌∙◌, append-nil, arith}
use Rattle.std.specs.List.{enumerate_from, range_with_len}
use Rattle.std.specs.Option.{option_map_or}
use Rattle.std.proofs.lemmas.Option.{none-some, slice_get-map, slice_get_read}
use Rattle.std.proofs.lemmas.List.FromFn.{get_or-range_with_len, length-range_with_len}
use Rattle.dg_types.specs.declared.key.MapKeyVal.{MapKeyVal}
use Rattle.dg_decl.specs.declared.document.Doc.{Doc}
use Rattle.dg_decl.specs.declared.graph.Node.{Node}
use Rattle.dg_decl.specs.declared.graph.NodeKind.TheVariants as node
use Rattle.dg_decl.specs.declared.item.Item.{Item}
use Rattle.dg_decl.specs.declared.item.Item.TheVariants as item
use Rattle.dg_decl.specs.Components.{class_count, class_named, entries_of}
use Rattle.dg_decl.specs.Document.{Statement, statements}
use Rattle.dg_decl.specs.Graph.{Dependency, deps, node_of, nodes, number_of}
use Rattle.dg_decl.proofs.ComponentLemmas.{class_below}
use Rattle.dg_decl.proofs.MemberLemmas.{in_got, out_filter_map, out_option_map, out_and_then}
use Rattle.dg_slots.specs.declared.plan.Plan.{Plan}
use Rattle.dg_slots.specs.declared.session.Ask.{Ask}
use Rattle.dg_slots.specs.declared.session.Inst.{Inst}
use Rattle.dg_slots.specs.declared.session.PathStep.{PathStep}
use Rattle.dg_slots.specs.declared.session.PathStep.TheVariants as path
use Rattle.dg_slots.specs.Sessions.{inst_of, insts_of}
use Rattle.dg_slots.specs.Plans.{entries_of_class, entry_slots, plan_of}
use Rattle.dg_value.specs.declared.place.Place.{Place}
use Rattle.dg_value.specs.declared.place.PlaceStep.TheVariants as step
use Rattle.dg_value.specs.declared.value.Kept.TheOpen.{Value-F}
use Rattle.dg_value.specs.declared.value.Value.{Value, out-Value}
use Rattle.dg_value.specs.declared.place.PlaceRoot.TheVariants as root
use Rattle.dg_value.specs.Places.{at_root, then_step}
use Rattle.dg_value.specs.Same.{Layer}
use Rattle.dg_eval.specs.declared.world.World.{World}
use Rattle.dg_eval.specs.Runs.{Asked, Run, gives, and_then, both, all, asks_of, mistyped}
use Rattle.dg_eval.specs.World.{inst_at, class_of_inst}
use Rattle.dg_eval.specs.Operations.{or_mistyped, only_of, field_at, field_in, entry_of, inside_in}
use Rattle.dg_eval.specs.Meaning.{node_in, given_one, given, got_at, look, eval, enough}
use Rattle.dg_eval.specs.Asks.{Reached, value_there, not_there, present, entry_at, inside_reached, stepped, goes_on, followed, entry_node, first_run, requested, run_of_ask}
use Rattle.dg_eval.proofs.EntryNodes.{asked_entry}
use Rattle.dg_eval.proofs.InputLists.{EachGiven, given_at}
use Rattle.dg_eval.proofs.TargetLemmas.{number_is}
use Rattle.dg_requests.specs.declared.stop.Stop.{Stop}
use Rattle.dg_requests.specs.declared.stop.Stop.TheVariants as stop
use Rattle.dg_requests.specs.Scopes.{Scope}
use Rattle.dg_requests.specs.Results.{CanRun, Gave, Ran}
use Rattle.dg_requests.specs.Contexts.{IsContextOf}
use Rattle.dg_requests.proofs.RanLemmas.{can_as, can_first, can_rest, ran_as, ran_plain, ran_stops, ran_then, ran_nothing}
use Rattle.dg_requests.proofs.ContextLemmas.{classes_are, in_its_class}
use Rattle.dg_evaluator.specs.Answers.{step_run, is_there, entry_there}
use Rattle.dg_evaluator.specs.Ends.{only_over}
use Rattle.dg_evaluator.proofs.BodyOfSlot.{then_then, AtMostOne, option_most}
use Rattle.dg_evaluator.proofs.RestLemmas.{stopped, then_plain, Rest, left_as, left_next, left_plain}
use Rattle.dg_evaluator.proofs.SetLemmas.{cons_left, dropped}
use Rattle.dg_evaluator.proofs.SlotLemmas.{only_is, quiet_option}

-- ---- steps

-- a path that has a step goes on with it
pub followed_step : (doc : Doc) (q : Place) (k : ℕ) (x : PathStep) (xs : List PathStep) (v : Value)
    → followed doc q k (x ∷ xs) v
    ≡ and_then (step_run doc q k x v) (goes_on (followed doc q (suc k) xs))
followed_step doc q k x xs v =
    sym (then_then (look (eval doc enough) enough v) _ (goes_on (followed doc q (suc k) xs)))

-- a value that is there
there_ran : (s : Scope) (r : Run Value) (a b : Option (List Asked)) (given : Result Value Stop)
    → CanRun s (and_then r (λ w. gives (value_there w))) → Ran s r a b given
    → Ran s (and_then r (λ w. gives (value_there w))) a b (is_there given)
there_ran s r a b (Ok v) can h =
    then_plain s r (λ w. gives (value_there w)) v a b (Ok (value_there v)) can h refl refl
there_ran s r a b (Err e) can h = ran_stops s r (λ w. gives (value_there w)) e a b can h

there_as : (s : Scope) (run : Run Reached) (r : Run Value) (a b : Option (List Asked))
    → (given : Result Value Stop) (result : Result Reached Stop)
    → run ≡ and_then r (λ w. gives (value_there w)) → CanRun s run → Ran s r a b given
    → result ≡ is_there given → Ran s run a b result
there_as s run r a b given result e can h same =
    let then = and_then r (λ w. gives (value_there w)) in
    subst (λ (u : Result Reached Stop). Ran s run a b u) (sym same)
    (ran_as s then run a b (is_there given) (sym e)
    (there_ran s r a b given (can_as s run then e can) h))

pub field_ran : (s : Scope) (q : Place) (x : PathStep) (k : ℕ) (v : Value)
    → (a : Option (List Asked)) (given : Result Value Stop) (result : Result Reached Stop)
    → x ≡ path.Field k → CanRun s (stepped s.doc q x v) → Gave (field_in k v) given
    → result ≡ is_there given → Ran s (stepped s.doc q x v) a a result
field_ran s q x k v a given result e can gave same =
    there_as s (stepped s.doc q x v) (field_in k v) a a given result
    (ap (λ (x : PathStep). stepped s.doc q x v) e) can
    (ran_plain s (field_in k v) a given (quiet_option (field_at k (out-Value v))) gave) same

pub got_can : (s : Scope) (q : Place) (x : PathStep) (v : Value) → x ≡ path.Get
    → CanRun s (stepped s.doc q x v)
    → CanRun s (got_at s.doc (eval s.doc 128) (out-Value v) q)
got_can s q x v e can =
    can_first s (got_at s.doc (eval s.doc 128) (out-Value v) q) (λ w. gives (value_there w))
    (can_as s (stepped s.doc q x v) _ (ap (λ (x : PathStep). stepped s.doc q x v) e) can)

pub got_ran : (s : Scope) (q : Place) (x : PathStep) (v : Value) (a b : Option (List Asked))
    → (given : Result Value Stop) (result : Result Reached Stop) → x ≡ path.Get
    → CanRun s (stepped s.doc q x v)
    → Ran s (got_at s.doc (eval s.doc 128) (out-Value v) q) a b given → result ≡ is_there given
    → Ran s (stepped s.doc q x v) a b result
got_ran s q x v a b given result e can h same =
    there_as s (stepped s.doc q x v) (got_at s.doc (eval s.doc 128) (out-Value v) q) a b given
    result (ap (λ (x : PathStep). stepped s.doc q x v) e) can h same

quiet_present : (o : Option Value) → asks_of (present o) ≡ []
quiet_present None = refl
quiet_present (Some v) = refl

quiet_entry : (key : MapKeyVal) (l : Layer) → asks_of (entry_at key l) ≡ []
quiet_entry key (Value-F.Map es) = quiet_present (entry_of key es)
quiet_entry key other = refl

quiet_inside : (o : Option (Option Value)) → asks_of (inside_reached o) ≡ []
quiet_inside None = refl
quiet_inside (Some o) = quiet_present o

pub entry_ran : (s : Scope) (q : Place) (x : PathStep) (key : MapKeyVal) (v : Value)
    → (a : Option (List Asked)) (result : Result Reached Stop) → x ≡ path.At key
    → Gave (entry_at key (out-Value v)) result → Ran s (stepped s.doc q x v) a a result
entry_ran s q x key v a result e gave =
    ran_as s (entry_at key (out-Value v)) (stepped s.doc q x v) a a result
    (sym (ap (λ (x : PathStep). stepped s.doc q x v) e))
    (ran_plain s (entry_at key (out-Value v)) a result (quiet_entry key (out-Value v)) gave)

pub inside_ran : (s : Scope) (q : Place) (x : PathStep) (v : Value) (a : Option (List Asked))
    → (result : Result Reached Stop) → x ≡ path.Inside → Gave (inside_reached (inside_in v)) result
    → Ran s (stepped s.doc q x v) a a result
inside_ran s q x v a result e gave =
    ran_as s (inside_reached (inside_in v)) (stepped s.doc q x v) a a result
    (sym (ap (λ (x : PathStep). stepped s.doc q x v) e))
    (ran_plain s (inside_reached (inside_in v)) a result (quiet_inside (inside_in v)) gave)

-- a step from the content behind a value, at a place that is that of the step
pub seen_can : (s : Scope) (q at : Place) (k : ℕ) (x : PathStep) (v w : Value)
    → (a b : Option (List Asked)) → at ≡ then_step q (step.Step k)
    → CanRun s (step_run s.doc q k x v) → Ran s (look (eval s.doc 128) 128 v) a b (Ok w)
    → CanRun s (stepped s.doc at x w)
seen_can s q at k x v w a b e can h =
    can_as s (stepped s.doc (then_step q (step.Step k)) x w) (stepped s.doc at x w)
    (ap (λ (p : Place). stepped s.doc p x w) (sym e))
    (can_rest s (look (eval s.doc 128) 128 v) (stepped s.doc (then_step q (step.Step k)) x) w can
    h.gave)

pub seen_ran : (s : Scope) (q at : Place) (k : ℕ) (x : PathStep) (v w : Value)
    → (a b d : Option (List Asked)) (result : Result Reached Stop)
    → at ≡ then_step q (step.Step k) → CanRun s (step_run s.doc q k x v)
    → Ran s (look (eval s.doc 128) 128 v) a b (Ok w) → Ran s (stepped s.doc at x w) b d result
    → Ran s (step_run s.doc q k x v) a d result
seen_ran s q at k x v w a b d result e can h then =
    ran_then s (look (eval s.doc 128) 128 v) (stepped s.doc (then_step q (step.Step k)) x) w a b d
    result can h
    (ran_as s (stepped s.doc at x w) (stepped s.doc (then_step q (step.Step k)) x w) b d result
    (ap (λ (p : Place). stepped s.doc p x w) e) then)

-- memory lacks for what goes on
pub lacks : {A B : Type 0} (s : Scope) (r : Run A) (next : A → Run B) (v : A)
    → (a b : Option (List Asked)) (d : Stop) (result : Result B Stop) → CanRun s (and_then r next)
    → Ran s r a b (Ok v) → result ≡ Err d → d ≡ stop.NoMemory → Ran s (and_then r next) a b result
lacks {A} {B} s r next v a b d result can h gave same =
    let err : Stop → Result B Stop = λ u. Err u in
    let to : err stop.NoMemory ≡ result = ap err (sym same) ∙ sym gave in
    subst (λ (u : Result B Stop). Ran s (and_then r next) a b u) to
    (ran_then s r next v a b b (Err stop.NoMemory) can h (ran_nothing s (next v) b))

-- ---- the steps of a path, one after the other

-- what goes on from a value, with the steps from this one on
abbrev pub FromStep : Doc → Place → List PathStep → ℕ → Value → Run Reached
FromStep doc q xs i v = followed doc q (suc i) (drop i xs) v

pub path_next : (s : Scope) (whole : Run Reached) (q : Place) (xs : List PathStep) (i : ℕ)
    → (x : PathStep) (v : Value) (a b : Option (List Asked)) → slice_get xs i ≡ Some x
    → Rest s whole a (FromStep s.doc q xs i v) b
    → Rest s whole a (and_then (step_run s.doc q (suc i) x v)
    (goes_on (FromStep s.doc q xs (i + 1)))) b
path_next s whole q xs i x v a b is rest =
    let next : suc i ≡ i + 1 = omega arith in
    left_as s whole _ _ a b
    (ap (λ (l : List PathStep). followed s.doc q (suc i) l v) (cons_left xs i x is)
    ∙ followed_step s.doc q (suc i) x (drop (i + 1) xs) v
    ∙ ap (λ (n : ℕ). and_then (step_run s.doc q (suc i) x v)
    (goes_on (followed s.doc q (suc n) (drop (i + 1) xs)))) next) rest

pub path_ends : (s : Scope) (whole : Run Reached) (q : Place) (xs : List PathStep) (i : ℕ)
    → (v : Value) (a b : Option (List Asked)) → length xs ≤ i
    → Rest s whole a (FromStep s.doc q xs i v) b → Ran s whole a b (Ok (value_there v))
path_ends s whole q xs i v a b le rest =
    left_plain s whole (gives (value_there v)) a b (Ok (value_there v))
    (left_as s whole _ _ a b
    (ap (λ (l : List PathStep). followed s.doc q (suc i) l v) (dropped xs i le)) rest) refl refl

-- after a step that gives a value the rest of the path is left
pub path_goes : (s : Scope) (whole : Run Reached) (q : Place) (xs : List PathStep) (i : ℕ)
    → (x : PathStep) (v w : Value) (came : Reached) (a b d : Option (List Asked))
    → slice_get xs i ≡ Some x → Rest s whole a (FromStep s.doc q xs i v) b
    → Ran s (step_run s.doc q (suc i) x v) b d (Ok came) → came ≡ value_there w
    → Rest s whole a (FromStep s.doc q xs (i + 1) w) d
path_goes s whole q xs i x v w came a b d is rest h same =
    left_as s whole _ _ a d
    (ap (λ (r : Reached). goes_on (FromStep s.doc q xs (i + 1)) r) same)
    (left_next s whole (step_run s.doc q (suc i) x v) (goes_on (FromStep s.doc q xs (i + 1))) a b d
    came (path_next s whole q xs i x v a b is rest) h)

-- where nothing is there the path ends
pub path_stops : (s : Scope) (whole : Run Reached) (q : Place) (xs : List PathStep) (i : ℕ)
    → (x : PathStep) (v : Value) (came : Reached) (a b d : Option (List Asked))
    → slice_get xs i ≡ Some x → Rest s whole a (FromStep s.doc q xs i v) b
    → Ran s (step_run s.doc q (suc i) x v) b d (Ok came) → came ≡ not_there
    → Ran s whole a d (Ok not_there)
path_stops s whole q xs i x v came a b d is rest h same =
    left_plain s whole (gives not_there) a d (Ok not_there)
    (left_as s whole _ _ a d
    (ap (λ (r : Reached). goes_on (FromStep s.doc q xs (i + 1)) r) same)
    (left_next s whole (step_run s.doc q (suc i) x v) (goes_on (FromStep s.doc q xs (i + 1))) a b d
    came (path_next s whole q xs i x v a b is rest) h)) refl refl

-- ---- the class of an instance

abbrev OpensClass : Doc → Statement → Inst → Type 0
OpensClass doc s x = inst_of doc s ≡ Some x → x.class < class_count doc

opens_class : (doc : Doc) (i l : ℕ) (block : Option ℕ) (x : Item) (made : Inst)
    → OpensClass doc (record { index = i; line = l; block = block; item = x }) made
unfolding inst_of
opens_class doc i l block (item.OpenLine n class parent args) made e =
    let o = out_option_map _ (class_named doc class) made e in
    let same : o.0 ≡ made.class = ap (λ (x : Inst). x.class) o.2 in
    let lt : o.0 < class_count doc = class_below doc class o.0 o.1 in
    omega arith
opens_class doc i l block other made e = absurd (none-some made e)

class_is_below : (doc : Doc) (i class : ℕ) → class_of_inst doc i ≡ Some class
    → class < class_count doc
unfolding insts_of
class_is_below doc i class e =
    let o = out_option_map (λ (x : Inst). x.class) (inst_at doc i) class e in
    let among : Contains (insts_of doc) o.0 = in_got (insts_of doc) i o.0 o.1 in
    let s = out_filter_map (inst_of doc) (statements doc) o.0 among in
    let lt : o.0.class < class_count doc =
    opens_class doc s.0.index s.0.line s.0.block s.0.item o.0 s.2 in
    let same : o.0.class ≡ class = o.2 in
    omega arith

-- ---- the slots of entries

-- the node of an entry of the class of an instance has a number
entry_numbered : (doc : Doc) (i class : ℕ) → class_of_inst doc i ≡ Some class
    → EachGiven (λ e. number_of (nodes doc) (node_of class (node.EntryOf e))) (entries_of doc class)
entry_numbered doc i class is x c =
    let at : slice_get (entries_of doc class) c.0 ≡ Some x =
    slice_get_read (entries_of doc class) (length (entries_of doc class)) c.0 x refl c.1 (sym c.2)
    in
    let n : Node = node_of class (node.EntryOf x) in
    let asks : entry_node doc (record { inst = i; entry = c.0; steps = [] }) ≡ Some n =
    ap (option_and_then (λ (k : ℕ). option_map (λ e. node_of k (node.EntryOf e))
    (slice_get (entries_of doc k) c.0))) is
    ∙ ap (option_map (λ (e : ℕ). node_of class (node.EntryOf e))) at in
    let entry = asked_entry doc (record { inst = i; entry = c.0; steps = [] }) n asks in
    (entry.number, entry.is_number)

entries_are : (doc : Doc) (plan : Plan) (world : World) → IsContextOf doc plan world → (class : ℕ)
    → class < class_count doc → slice_get plan.entries class ≡ Some (entries_of_class doc class)
unfolding plan_of entry_slots
entries_are doc plan world of class lt =
    ap (λ (p : Plan). slice_get p.entries class) of.of_plan
    ∙ slice_get-map (entries_of_class doc) (range_with_len 0 (class_count doc)) class
    ∙ ap (option_map (entries_of_class doc))
    (slice_get_read (range_with_len 0 (class_count doc)) (class_count doc) class class
    (sym (length-range_with_len 0 (class_count doc))) lt
    (let same : 0 + class ≡ class = omega arith in
    sym (get_or-range_with_len 0 (class_count doc) class class lt ∙ same)))

in_two : (doc : Doc) (class : ℕ) (o : Option ℕ)
    → option_and_then (λ (e : ℕ). number_of (nodes doc) (node_of class (node.EntryOf e))) o
    ≡ option_and_then (number_of (nodes doc))
    (option_map (λ (e : ℕ). node_of class (node.EntryOf e)) o)
in_two doc class None = refl
in_two doc class (Some e) = refl

-- the slot of an ask's entry, by the plan, is that of its node
pub entry_is : (doc : Doc) (plan : Plan) (world : World) → IsContextOf doc plan world → (a : Ask)
    → entry_there plan world a ≡ option_and_then (number_of (nodes doc)) (entry_node doc a)
entry_is doc plan world of a =
    ap (option_and_then (λ (c : ℕ). option_and_then (λ (slots : List ℕ). slice_get slots a.entry)
    (slice_get plan.entries c))) (classes_are doc plan world of a.inst)
    ∙ by_class (class_of_inst doc a.inst) refl
  where
    by_class : (o : Option ℕ) → class_of_inst doc a.inst ≡ o
        → option_and_then (λ (c : ℕ). option_and_then (λ (slots : List ℕ). slice_get slots a.entry)
        (slice_get plan.entries c)) o
        ≡ option_and_then (number_of (nodes doc))
        (option_and_then (λ (c : ℕ). option_map (λ e. node_of c (node.EntryOf e))
        (slice_get (entries_of doc c) a.entry)) o)
    by_class None is = refl
    by_class (Some c) is =
        ap (option_and_then (λ (slots : List ℕ). slice_get slots a.entry))
        (entries_are doc plan world of c (class_is_below doc a.inst c is))
        ∙ given_at (λ (e : ℕ). number_of (nodes doc) (node_of c (node.EntryOf e)))
        (entries_of doc c) a.entry (entry_numbered doc a.inst c is)
        ∙ in_two doc c (slice_get (entries_of doc c) a.entry)

-- ---- what the request of an entry is given

one_run : (r : Run Value)
    → and_then (both r (gives [])) (λ vs. or_mistyped (only_of vs)) ≡ r
one_run None = refl
one_run (Some (Ok v, asked)) =
    ap (λ (l : List Asked). Some (Ok v, l)) (append-nil (asked ++ []) ∙ append-nil asked)
one_run (Some (Err e, asked)) =
    ap (λ (l : List Asked). Some (Err e, l)) (append-nil asked)

one_given : (g : ℕ × Dependency → Run Value) (ds : List Dependency) → AtMostOne ds
    → first_run (map g (enumerate_from 0 ds))
    ≡ and_then (all (map g (enumerate_from 0 ds))) (λ vs. or_mistyped (only_of vs))
one_given g [] most = refl
one_given g (d ∷ []) most = sym (one_run (g (0, d)))
one_given g (d ∷ c ∷ ds) most = absurd most

entry_most : (doc : Doc) (class e : ℕ) → AtMostOne (deps doc (node_of class (node.EntryOf e)))
unfolding deps
entry_most doc class e = option_most _

-- the slot of an ask's entry
pub record EntrySlot (doc : Doc) (a : Ask) (k : ℕ) : Type 0 where
  pub node : Node
  pub is_asked : entry_node doc a ≡ Some node
  pub is_node : node_in doc a.inst k ≡ Some node
  pub most : AtMostOne (deps doc node)

pub entry_slot_is : (doc : Doc) (plan : Plan) (world : World) → IsContextOf doc plan world
    → (a : Ask) (k : ℕ) → Some k ≡ entry_there plan world a → EntrySlot doc a k
entry_slot_is doc plan world of a k is =
    let o = out_and_then (number_of (nodes doc)) (entry_node doc a) k
    (sym (entry_is doc plan world of a) ∙ sym is) in
    let class = out_and_then _ (class_of_inst doc a.inst) o.0 o.1 in
    let entry = out_option_map (λ (e : ℕ). node_of class.0 (node.EntryOf e))
    (slice_get (entries_of doc class.0) a.entry) o.0 class.2 in
    let P : Node → Type 0 = λ n. AtMostOne (deps doc n) in
    record {
      node = o.0;
      is_asked = o.1;
      is_node = in_its_class doc a.inst k o.0 (class.1 ∙ ap (λ (n : Node). Some n.class) entry.2)
          (number_is (nodes doc) o.0 k o.2);
      most = subst P entry.2 (entry_most doc class.0 entry.0);
    }

-- what the request of an ask's entry is given, by the slot of the entry
pub requested_is : (doc : Doc) (a : Ask) (k : ℕ) (q : Place) → EntrySlot doc a k
    → requested doc a q ≡ only_over doc (eval doc 128) a.inst k q
requested_is doc a k q slot =
    ap (λ (o : Option Node). option_map_or (λ (n : Node).
    first_run (given doc (eval doc enough) a.inst n q)) o mistyped) slot.is_asked
    ∙ one_given (λ (d : ℕ × Dependency). given_one doc (eval doc enough) a.inst slot.node q
    (suc d.0) d.1) (deps doc slot.node) slot.most
    ∙ sym (only_is doc (eval doc 128) a.inst k slot.node q slot.is_node)

pub not_requested : (doc : Doc) (plan : Plan) (world : World) → IsContextOf doc plan world
    → (a : Ask) (q : Place) → None ≡ entry_there plan world a → requested doc a q ≡ mistyped
not_requested doc plan world of a q is =
    by_node (entry_node doc a) refl (sym (entry_is doc plan world of a) ∙ sym is)
  where
    by_node : (o : Option Node) → entry_node doc a ≡ o
        → option_and_then (number_of (nodes doc)) o ≡ None
        → option_map_or (λ (n : Node). first_run (given doc (eval doc enough) a.inst n q)) o
        mistyped
        ≡ mistyped
    by_node None e none = refl
    by_node (Some n) e none =
        absurd (none-some (asked_entry doc a n e).number
        (sym none ∙ (asked_entry doc a n e).is_number))

-- ---- whole asks

ask_run : (doc : Doc) (number : ℕ) (a : Ask) (q : Place) → q ≡ at_root (root.Ask number)
    → run_of_ask doc number a ≡ and_then (requested doc a q) (followed doc q 1 a.steps)
unfolding run_of_ask
ask_run doc number a q at =
    ap (λ (p : Place). and_then (requested doc a p) (followed doc p 1 a.steps)) (sym at)

pub ask_first_can : (s : Scope) (number : ℕ) (a : Ask) (q : Place) → q ≡ at_root (root.Ask number)
    → CanRun s (run_of_ask s.doc number a) → CanRun s (requested s.doc a q)
ask_first_can s number a q at can =
    can_first s (requested s.doc a q) (followed s.doc q 1 a.steps)
    (can_as s (run_of_ask s.doc number a) _ (ask_run s.doc number a q at) can)

pub ask_stops : (s : Scope) (number : ℕ) (a : Ask) (q : Place) (x y : Option (List Asked))
    → (e d : Stop) (result : Result Reached Stop) → q ≡ at_root (root.Ask number)
    → CanRun s (run_of_ask s.doc number a) → Ran s (requested s.doc a q) x y (Err e)
    → result ≡ Err d → d ≡ e → Ran s (run_of_ask s.doc number a) x y result
ask_stops s number a q x y e d result at can h gave same =
    let r = requested s.doc a q in
    let next = followed s.doc q 1 a.steps in
    ran_as s (and_then r next) (run_of_ask s.doc number a) x y result
    (sym (ask_run s.doc number a q at))
    (stopped s r next x y e d result
    (can_as s (run_of_ask s.doc number a) (and_then r next) (ask_run s.doc number a q at) can) h
    gave same)

pub path_can : (s : Scope) (number : ℕ) (a : Ask) (q : Place) (xs : List PathStep)
    → (x y : Option (List Asked)) (v : Value) → q ≡ at_root (root.Ask number) → xs ≡ a.steps
    → CanRun s (run_of_ask s.doc number a) → Ran s (requested s.doc a q) x y (Ok v)
    → CanRun s (followed s.doc q 1 xs v)
path_can s number a q xs x y v at are can h =
    can_as s (followed s.doc q 1 a.steps v) (followed s.doc q 1 xs v)
    (ap (λ (l : List PathStep). followed s.doc q 1 l v) (sym are))
    (can_rest s (requested s.doc a q) (followed s.doc q 1 a.steps) v
    (can_as s (run_of_ask s.doc number a) _ (ask_run s.doc number a q at) can) h.gave)

pub path_ran : (s : Scope) (number : ℕ) (a : Ask) (q : Place) (xs : List PathStep)
    → (x y z : Option (List Asked)) (v : Value) (result : Result Reached Stop)
    → q ≡ at_root (root.Ask number) → xs ≡ a.steps → CanRun s (run_of_ask s.doc number a)
    → Ran s (requested s.doc a q) x y (Ok v) → Ran s (followed s.doc q 1 xs v) y z result
    → Ran s (run_of_ask s.doc number a) x z result
path_ran s number a q xs x y z v result at are can h then =
    let r = requested s.doc a q in
    let next = followed s.doc q 1 a.steps in
    ran_as s (and_then r next) (run_of_ask s.doc number a) x z result
    (sym (ask_run s.doc number a q at))
    (ran_then s r next v x y z result
    (can_as s (run_of_ask s.doc number a) (and_then r next) (ask_run s.doc number a q at) can) h
    (ran_as s (followed s.doc q 1 xs v) (next v) y z result
    (ap (λ (l : List PathStep). followed s.doc q 1 l v) are) then))
