-- The Lazies that an ask gives and asks for stand at their places.
use Rattle.std.proofs.Common.{◌≡◌, ℕ, suc, ◌+◌, ◌-◌, Bool, true, false, cond, List, [], ◌∷◌, ◌++◌, length, map, take, Contains, Option, Some, None, option_map, option_and_then, Ok, Err, refl, sym, ap, subst, ◌∙◌, arith}
use Rattle.std.specs.List.{enumerate_from, find}
use Rattle.std.proofs.Math.Seq.{take-append_seam}
use Rattle.std.proofs.lemmas.Bool.{false≢true}
use Rattle.std.proofs.lemmas.List.{append_assoc, length-append}
use Rattle.std.proofs.lemmas.Option.{none-some, same_Some}
use Rattle.dg_types.specs.declared.key.MapKeyVal.{MapKeyVal}
use Rattle.dg_types.specs.declared.key.Mode.TheVariants as mode
use Rattle.dg_decl.specs.declared.document.Doc.{Doc}
use Rattle.dg_decl.specs.declared.graph.Node.{Node}
use Rattle.dg_decl.specs.Graph.{deps, nodes, number_of}
use Rattle.dg_decl.proofs.MemberLemmas.{in_front, in_got, out_map, out_option_map}
use Rattle.dg_decl.proofs.NodeWalks.{in_rest}
use Rattle.dg_slots.specs.declared.session.Ask.{Ask}
use Rattle.dg_slots.specs.declared.session.PathStep.{PathStep}
use Rattle.dg_slots.specs.declared.session.PathStep.TheVariants as path
use Rattle.dg_slots.specs.Sessions.{asks_of}
use Rattle.dg_value.specs.declared.place.Place.{Place}
use Rattle.dg_value.specs.declared.place.PlaceRoot.TheVariants as root
use Rattle.dg_value.specs.declared.place.PlaceStep.TheVariants as step
use Rattle.dg_value.specs.declared.value.Kept.TheOpen.{Value-F}
use Rattle.dg_value.specs.declared.value.Reply.{Reply}
use Rattle.dg_value.specs.declared.value.Reply.TheVariants as reply
use Rattle.dg_value.specs.declared.value.Value.{Value, out-Value}
use Rattle.dg_value.specs.Places.{at_root, then_step}
use Rattle.dg_value.specs.Same.{Layer}
use Rattle.dg_eval.specs.Runs as runs
use Rattle.dg_eval.specs.Runs.{lazy, Run, and_then}
use Rattle.dg_eval.specs.Operations.{field_in, entry_of, inside_in}
use Rattle.dg_eval.specs.Meaning.{got_at, look, lazy_content, given_one, eval, enough}
use Rattle.dg_eval.specs.Asks.{Reached, value_there, not_there, present, entry_at, inside_reached, stepped, goes_on, followed, entry_node, first_run, requested, run_of_ask, reply_of, answer_to, numbered_asks}
use Rattle.dg_eval.specs.Report.{value_of_run}
use Rattle.dg_eval.specs.At.{reached_before, content_there, value_before, deferred_to, ask_numbered, at_ask, stands_at}
use Rattle.dg_eval.specs.Laws.{IsPlaceOf, AskStands}
use Rattle.dg_eval.proofs.RunResults.{Allowed, Gives, Each, gives_more, then_gives, then_gives_at, asking_gives}
use Rattle.dg_eval.proofs.ValueLemmas.{AllIn, InEntry, InLayer, layer_of, in_lazy}
use Rattle.dg_eval.proofs.BodyResults.{each_in, field_gives, inside_good}
use Rattle.dg_eval.proofs.AcceptedDepth.{StagesFindNothing}
use Rattle.dg_eval.proofs.TotalLemmas.{CallsAreEdges, Within, Good, Has, Fits, option_gives, instance_has, lazy_has, look_has, given_one_has}
use Rattle.dg_eval.proofs.PlaceLemmas.{Stood, placing, numbered_in}
use Rattle.dg_eval.proofs.StandLemmas.{good_stands, asked_stands, all_stand}
use Rattle.dg_eval.proofs.EntryNodes.{asked_entry, node_shallow}
use Rattle.dg_eval.proofs.PathValues.{then_comes, followed_more}

-- what is allowed behind an ask
abbrev Asking : Doc → Allowed
Asking doc = Within doc (IsPlaceOf doc) 128

abbrev ask_place : ℕ → Place
ask_place number = at_root (root.Ask number)

abbrev step_place : ℕ → ℕ → Place
step_place number k = then_step (at_root (root.Ask number)) (step.Step k)

-- what a path has come to
abbrev ReachedGood : Doc → Reached → Type 0
ReachedGood doc (value_there v) = AllIn (Asking doc) v
ReachedGood doc not_there = Unit {0}

-- ---- one step

found_from : {A : Type 0} (b : Bool) (y : A) (ys : List A) (o : Option A) (x : A)
    → cond b (Some y) o ≡ Some x → (o ≡ Some x → Contains ys x) → Contains (y ∷ ys) x
found_from {A} true y ys o x e later =
    let P : A → Type 0 = λ z. Contains (y ∷ ys) z in subst P (same_Some y x e) (in_front y ys)
found_from false y ys o x e later = in_rest x y ys (later e)

found_in : {A : Type 0} (p : A → Bool) (xs : List A) (x : A) → find p xs ≡ Some x → Contains xs x
found_in p [] x e = absurd (none-some x e)
found_in p (y ∷ ys) x e = found_from (p y) y ys (find p ys) x e (found_in p ys x)

-- the value of an entry
entry_found : (R : Allowed) (k : MapKeyVal) (es : List (MapKeyVal × Value)) (v : Value)
    → Each (InEntry (AllIn R)) es → entry_of k es ≡ Some v → AllIn R v
entry_found R k es v all e =
    let o = out_option_map (λ (e : MapKeyVal × Value). e.1) _ v e in
    let c : Contains es o.0 = found_in _ es o.0 o.1 in
    let P : Value → Type 0 = AllIn R in
    subst P o.2 (each_in (InEntry (AllIn R)) es o.0 all c)

present_gives : (doc : Doc) (o : Option Value) → ((v : Value) → o ≡ Some v → AllIn (Asking doc) v)
    → Gives (Asking doc) (ReachedGood doc) (present o)
present_gives doc None h = (tt, tt)
present_gives doc (Some v) h = (h v refl, tt)

entry_gives : (doc : Doc) (k : MapKeyVal) (l : Layer) → InLayer (Asking doc) l
    → Gives (Asking doc) (ReachedGood doc) (entry_at k l)
entry_gives doc k (Value-F.Map es) parts =
    present_gives doc (entry_of k es) (λ v e. entry_found (Asking doc) k es v parts e)
entry_gives doc k other parts = tt

inside_gives : (doc : Doc) (o : Option (Option Value))
    → ((v : Value) → o ≡ Some (Some v) → AllIn (Asking doc) v)
    → Gives (Asking doc) (ReachedGood doc) (inside_reached o)
inside_gives doc None h = tt
inside_gives doc (Some o) h = present_gives doc o (λ v e. h v (ap Some e))

-- what a `!` gives, at a place at which the target of the deferred value stands
got_has : (doc : Doc) → StagesFindNothing doc → CallsAreEdges doc → (q : Place) (l : Layer)
    → InLayer (Asking doc) l → stands_at doc q ≡ deferred_to l
    → Has doc (IsPlaceOf doc) 128 (got_at doc (eval doc 128) l q)
got_has doc none ok q (Value-F.Provider i k) parts at =
    instance_has doc (Stood doc) (IsPlaceOf doc) (placing doc none) 128 (eval doc 128)
    (all_stand doc none ok) 128 i k q (omega arith) parts (mode.Instance, tt, at)
got_has doc none ok q (Value-F.ProviderLazy i k) parts at =
    (in_lazy (Asking doc) i k q (parts, at), tt)
got_has doc none ok q (Value-F.Lazy i k p) parts at =
    asking_gives (Asking doc) (Asking doc) (Good doc (IsPlaceOf doc) 128) (lazy i k p)
    (lazy_content doc (eval doc 128) i k p) parts
    (lazy_has doc (Stood doc) (IsPlaceOf doc) (placing doc none) 128 (eval doc 128)
    (all_stand doc none ok) 128 i k p (omega arith) parts.0 parts.1)
got_has doc none ok q other parts at = tt

stepped_has : (doc : Doc) → StagesFindNothing doc → CallsAreEdges doc → (q : Place) (x : PathStep)
    → (w : Value) → AllIn (Asking doc) w → stands_at doc q ≡ deferred_to (out-Value w)
    → Gives (Asking doc) (ReachedGood doc) (stepped doc q x w)
stepped_has doc none ok q (path.Field k) w good at =
    then_gives (Asking doc) (AllIn (Asking doc)) (ReachedGood doc) (field_in k w) _
    (field_gives (Asking doc) k w good) (λ u gu. (gu, tt))
stepped_has doc none ok q path.Get w good at =
    then_gives (Asking doc) (AllIn (Asking doc)) (ReachedGood doc)
    (got_at doc (eval doc 128) (out-Value w) q) _
    (got_has doc none ok q (out-Value w) (layer_of (Asking doc) w good) at) (λ u gu. (gu, tt))
stepped_has doc none ok q (path.At key) w good at =
    entry_gives doc key (out-Value w) (layer_of (Asking doc) w good)
stepped_has doc none ok q path.Inside w good at =
    inside_gives doc (inside_in w)
    (λ v e. inside_good (Asking doc) (out-Value w) v (layer_of (Asking doc) w good) e)

-- ---- the steps of a path

-- the value of the entry of an ask, from which its path begins
abbrev Begins : Doc → ℕ → Ask → Value → Type 0
Begins doc number a v = value_of_run (requested doc a (ask_place number)) ≡ Some v

-- the first steps of a path come to a value
abbrev Comes : Doc → ℕ → Value → List PathStep → Value → Type 0
Comes doc number start ys v =
    value_of_run (followed doc (ask_place number) 1 ys start) ≡ Some (value_there v)

-- what stands at a step
step_stands : (doc : Doc) (number : ℕ) (a : Ask) (start v w : Value) (ys xs : List PathStep)
    → ask_numbered doc number ≡ Some a → a.steps ≡ ys ++ xs → Begins doc number a start
    → Comes doc number start ys v → value_of_run (look (eval doc enough) enough v) ≡ Some w
    → stands_at doc (step_place number (suc (length ys))) ≡ deferred_to (out-Value w)
unfolding stands_at
step_stands doc number a start v w ys xs is parts begins came looked =
    let count : suc (length ys) - 1 ≡ length ys = omega arith in
    let front : take (suc (length ys) - 1) a.steps ≡ ys =
    ap (λ k. take k a.steps) count ∙ (ap (take (length ys)) parts ∙ take-append_seam ys xs) in
    let P : List PathStep → Type 0 = λ zs. value_of_run
    (and_then (requested doc a (ask_place number)) (followed doc (ask_place number) 1 zs))
    ≡ Some (value_there v) in
    let reached : value_of_run (reached_before doc number a (suc (length ys)))
    ≡ Some (value_there v) =
    subst P (sym front) (then_comes (requested doc a (ask_place number))
    (followed doc (ask_place number) 1 ys) start (value_there v) begins came) in
    let value : value_before doc number a (suc (length ys)) ≡ Some w =
    then_comes (reached_before doc number a (suc (length ys))) (content_there doc) (value_there v) w
    reached looked in
    ap (option_and_then (at_ask doc number (step.Step (suc (length ys)) ∷ []))) is
    ∙ ap (option_and_then (λ (v : Value). deferred_to (out-Value v))) value

goes_has : (doc : Doc) (next : Value → Run Reached) (r : Reached) → ReachedGood doc r
    → ((u : Value) → r ≡ value_there u → AllIn (Asking doc) u
    → Gives (Asking doc) (ReachedGood doc) (next u))
    → Gives (Asking doc) (ReachedGood doc) (goes_on next r)
goes_has doc next (value_there u) good h = h u refl good
goes_has doc next not_there good h = (tt, tt)

counted : (ys : List PathStep) (x : PathStep) (k : ℕ) → suc (length ys) ≡ k
    → suc (length (ys ++ x ∷ [])) ≡ suc k
counted ys x k count =
    let more : length (ys ++ x ∷ []) ≡ length ys + 1 = length-append ys (x ∷ []) in
    omega (arith, count, more)

path_has : (doc : Doc) → StagesFindNothing doc → CallsAreEdges doc → (number : ℕ) (a : Ask)
    → (start : Value) → ask_numbered doc number ≡ Some a → Begins doc number a start
    → (xs ys : List PathStep) (v : Value) (k : ℕ) → suc (length ys) ≡ k → a.steps ≡ ys ++ xs
    → Comes doc number start ys v → AllIn (Asking doc) v
    → Gives (Asking doc) (ReachedGood doc) (followed doc (ask_place number) k xs v)
path_has doc none ok number a start is begins [] ys v k count parts came good = (good, tt)
path_has doc none ok number a start is begins (x ∷ xs) ys v k count parts came good =
    then_gives_at (Asking doc) (AllIn (Asking doc)) (ReachedGood doc)
    (look (eval doc 128) 128 v) _
    (look_has doc (Stood doc) (IsPlaceOf doc) (placing doc none) 128 (eval doc 128)
    (all_stand doc none ok) 128 128 (omega arith) (omega arith) v good)
    (λ w looked gw. (let P : ℕ → Type 0 = λ k. stands_at doc (step_place number k)
    ≡ deferred_to (out-Value w) in
    let at = subst P count (step_stands doc number a start v w ys (x ∷ xs) is parts begins came
    looked) in
    then_gives_at (Asking doc) (ReachedGood doc) (ReachedGood doc)
    (stepped doc (step_place number k) x w) (goes_on (followed doc (ask_place number) (suc k) xs))
    (stepped_has doc none ok (step_place number k) x w gw at)
    (λ r moved gr. goes_has doc (followed doc (ask_place number) (suc k) xs) r gr
    (λ u same gu. path_has doc none ok number a start is begins xs (ys ++ x ∷ []) u (suc k)
    (counted ys x k count) (parts ∙ sym (append_assoc ys (x ∷ []) xs))
    (followed_more doc (ask_place number) ys 1 k x start v w u (omega (arith, count)) came looked
    (moved ∙ ap Some same)) gu))))

-- ---- the entry of an ask

first_has : {A : Type 0} (R : Allowed) (P : Value → Type 0) (f : A → Run Value) (xs : List A)
    → ((x : A) → Contains xs x → Gives R P (f x)) → Gives R P (first_run (map f xs))
first_has R P f [] h = tt
first_has R P f (x ∷ xs) h = h x (in_front x xs)

entry_stands : (doc : Doc) (number : ℕ) (a : Ask) (n : Node) (k : ℕ)
    → ask_numbered doc number ≡ Some a → entry_node doc a ≡ Some n
    → number_of (nodes doc) n ≡ Some k
    → stands_at doc (ask_place number)
    ≡ Some (record { mode = mode.Instance; inst = a.inst; slot = k })
unfolding stands_at
entry_stands doc number a n k is entry found =
    ap (option_and_then (at_ask doc number [])) is
    ∙ ap (option_map (λ (k : ℕ). record { mode = mode.Instance; inst = a.inst; slot = k }))
    (ap (option_and_then (number_of (nodes doc))) entry ∙ found)

requested_has : (doc : Doc) → StagesFindNothing doc → CallsAreEdges doc → (number : ℕ) (a : Ask)
    → ask_numbered doc number ≡ Some a
    → Gives (Asking doc) (AllIn (Asking doc)) (requested doc a (ask_place number))
requested_has doc none ok number a is =
    option_gives (Asking doc) (AllIn (Asking doc)) (entry_node doc a) _
    (λ n entry. (let e = asked_entry doc a n entry in
    first_has (Asking doc) (AllIn (Asking doc))
    (λ d. given_one doc (eval doc 128) a.inst n (ask_place number) (suc d.0) d.1)
    (enumerate_from 0 (deps doc n))
    (λ d c. gives_more (Asking doc) (Fits doc (IsPlaceOf doc) 128 a.inst n d.1)
    (AllIn (Asking doc))
    (given_one doc (eval doc 128) a.inst n (ask_place number) (suc d.0) d.1) (λ v fits. fits.0)
    (given_one_has doc (Stood doc) (IsPlaceOf doc) (placing doc none) 128 (eval doc 128)
    (all_stand doc none ok) 128 a.inst e.number n (ask_place number) (omega arith) e.is_node
    (node_shallow doc none n (in_got (nodes doc) e.number n e.is_node))
    (mode.Instance, tt, entry_stands doc number a n e.number is entry e.is_number) d.0 d.1 c))))

pub run_has : (doc : Doc) → StagesFindNothing doc → CallsAreEdges doc → (number : ℕ) (a : Ask)
    → ask_numbered doc number ≡ Some a
    → Gives (Asking doc) (ReachedGood doc) (run_of_ask doc number a)
unfolding run_of_ask
run_has doc none ok number a is =
    then_gives_at (Asking doc) (AllIn (Asking doc)) (ReachedGood doc)
    (requested doc a (ask_place number)) (followed doc (ask_place number) 1 a.steps)
    (requested_has doc none ok number a is)
    (λ v begins good. path_has doc none ok number a v is begins a.steps [] v 1 refl refl refl good)

-- ---- replies

abbrev is_value : Reply → Bool
is_value (reply.Value v) = true
is_value other = false

abbrev value_or : Value → Reply → Value
value_or other (reply.Value v) = v
value_or other r = other

reply_good : (doc : Doc) (x : Run Reached) (v : Value)
    → Gives (Asking doc) (ReachedGood doc) x → reply_of x ≡ Some (reply.Value v)
    → AllIn (Asking doc) v
reply_good doc None v g e = absurd g
reply_good doc (Some (Ok (value_there w), asked)) v g e =
    let P : Value → Type 0 = AllIn (Asking doc) in
    subst P (ap (value_or w) (same_Some (reply.Value w) (reply.Value v) e)) g.0
reply_good doc (Some (Ok not_there, asked)) v g e =
    absurd (false≢true (ap is_value (same_Some reply.Absent (reply.Value v) e)))
reply_good doc (Some (Err f, asked)) v g e =
    absurd (false≢true (ap is_value (same_Some (reply.Failed f) (reply.Value v) e)))

asked_good : (doc : Doc) (x : Run Reached) → Gives (Asking doc) (ReachedGood doc) x
    → Each (Asking doc).ask (runs.asks_of x)
asked_good doc None g = absurd g
asked_good doc (Some (Ok r, asked)) g = g.1
asked_good doc (Some (Err f, asked)) g = g

-- an ask with its number
asks_numbered : (doc : Doc) (number : ℕ) (a : Ask) → Contains (numbered_asks doc) (number, a)
    → ask_numbered doc number ≡ Some a
asks_numbered doc number a c =
    let p = out_map (λ (p : ℕ × Ask). (suc p.0, p.1)) (enumerate_from 0 (asks_of doc)) (number, a) c
    in
    let o = numbered_in 0 (asks_of doc) p.0.0 p.0.1 p.1 in
    let first : suc p.0.0 ≡ number = ap (λ (q : ℕ × Ask). q.0) p.2 in
    let second : p.0.1 ≡ a = ap (λ (q : ℕ × Ask). q.1) p.2 in
    let count : suc o.0 ≡ number = omega (arith, o.1, first) in
    ap (ask_numbered doc) (sym count) ∙ (o.2 ∙ ap Some second)

pub ask_stands : (doc : Doc) → StagesFindNothing doc → CallsAreEdges doc → (number : ℕ) (a : Ask)
    → Contains (numbered_asks doc) (number, a) → AskStands doc number a
unfolding answer_to
ask_stands doc none ok number a c =
    let has = run_has doc none ok number a (asks_numbered doc number a c) in
    record {
      given = λ v e. good_stands doc 128 v (reply_good doc (run_of_ask doc number a) v has e);
      asked = asked_stands doc 128 (runs.asks_of (run_of_ask doc number a))
          (asked_good doc (run_of_ask doc number a) has);
    }
