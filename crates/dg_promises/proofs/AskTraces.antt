-- The run of an ask is traced: its reply names what may be named, where all that it asks for may be
-- asked.
use Rattle.std.proofs.Common.{◌≡◌, ℕ, suc, Bool, true, false, cond, List, [], ◌∷◌, map, Contains, Option, Some, None, Ok, Err, refl, ap, subst}
use Rattle.std.specs.List.{enumerate_from, find}
use Rattle.std.proofs.lemmas.Bool.{false≢true}
use Rattle.std.proofs.lemmas.Option.{none-some, same_Some}
use Rattle.dg_types.specs.declared.key.MapKeyVal.{MapKeyVal}
use Rattle.dg_decl.specs.declared.document.Doc.{Doc}
use Rattle.dg_decl.specs.Graph.{Dependency, deps}
use Rattle.dg_decl.proofs.MemberLemmas.{in_front, out_option_map}
use Rattle.dg_decl.proofs.NodeWalks.{in_rest}
use Rattle.dg_slots.specs.declared.session.Ask.{Ask}
use Rattle.dg_slots.specs.declared.session.PathStep.{PathStep}
use Rattle.dg_slots.specs.declared.session.PathStep.TheVariants as path
use Rattle.dg_value.specs.declared.place.Place.{Place}
use Rattle.dg_value.specs.declared.place.PlaceRoot.TheVariants as root
use Rattle.dg_value.specs.declared.place.PlaceStep.TheVariants as step
use Rattle.dg_value.specs.declared.value.Kept.TheOpen.{Value-F}
use Rattle.dg_value.specs.declared.value.Reply.{Reply}
use Rattle.dg_value.specs.declared.value.Reply.TheVariants as reply
use Rattle.dg_value.specs.declared.value.Value.{Value, out-Value}
use Rattle.dg_value.specs.Places.{at_root, then_step}
use Rattle.dg_value.specs.Same.{Layer}
use Rattle.dg_eval.specs.Runs.{Run, asks_of, mistyped}
use Rattle.dg_eval.specs.Operations.{field_in, entry_of, inside_in}
use Rattle.dg_eval.specs.Meaning.{got_at, look, given_one, eval, enough}
use Rattle.dg_eval.specs.Asks.{Reached, value_there, not_there, present, entry_at, inside_reached, stepped, goes_on, followed, entry_node, first_run, requested, run_of_ask, reply_of, answer_to}
use Rattle.dg_eval.specs.Report.{value_of_run}
use Rattle.dg_eval.proofs.RunResults.{Allowed, Each}
use Rattle.dg_eval.proofs.ValueLemmas.{AllIn, InEntry, InLayer, layer_of}
use Rattle.dg_eval.proofs.BodyResults.{each_in, field_gives, inside_good}
use Rattle.dg_promises.proofs.TraceLemmas.{Traced, gives_traced, value_traced, then_traced, option_traced}
use Rattle.dg_promises.proofs.EvalTraces.{IsClosed, evaluation, got_traced, look_traced, given_one_traced}

-- what a path has come to
abbrev ReachedGood : Allowed → Reached → Type 0
ReachedGood R (value_there v) = AllIn R v
ReachedGood R not_there = Unit {0}

-- ---- one step

found_from : {A : Type 0} (b : Bool) (y : A) (ys : List A) (o : Option A) (x : A)
    → cond b (Some y) o ≡ Some x → (o ≡ Some x → Contains ys x) → Contains (y ∷ ys) x
found_from {A} true y ys o x e later =
    let P : A → Type 0 = λ z. Contains (y ∷ ys) z in subst P (same_Some y x e) (in_front y ys)
found_from false y ys o x e later = in_rest x y ys (later e)

found_in : {A : Type 0} (p : A → Bool) (xs : List A) (x : A) → find p xs ≡ Some x → Contains xs x
found_in p [] x e = absurd (none-some x e)
found_in p (y ∷ ys) x e = found_from (p y) y ys (find p ys) x e (found_in p ys x)

-- the value of an entry
entry_found : (R : Allowed) (k : MapKeyVal) (es : List (MapKeyVal × Value)) (v : Value)
    → Each (InEntry (AllIn R)) es → entry_of k es ≡ Some v → AllIn R v
entry_found R k es v every e =
    let o = out_option_map (λ (e : MapKeyVal × Value). e.1) _ v e in
    let c : Contains es o.0 = found_in _ es o.0 o.1 in
    let P : Value → Type 0 = AllIn R in
    subst P o.2 (each_in (InEntry (AllIn R)) es o.0 every c)

present_traced : (R : Allowed) (o : Option Value) → ((v : Value) → o ≡ Some v → AllIn R v)
    → Traced R (ReachedGood R) (present o)
present_traced R None h = λ every. tt
present_traced R (Some v) h = λ every. h v refl

entry_traced : (R : Allowed) (k : MapKeyVal) (l : Layer) → InLayer R l
    → Traced R (ReachedGood R) (entry_at k l)
entry_traced R k (Value-F.Map es) parts =
    present_traced R (entry_of k es) (λ v e. entry_found R k es v parts e)
entry_traced R k other parts = tt

inside_traced : (R : Allowed) (o : Option (Option Value))
    → ((v : Value) → o ≡ Some (Some v) → AllIn R v) → Traced R (ReachedGood R) (inside_reached o)
inside_traced R None h = tt
inside_traced R (Some o) h = present_traced R o (λ v e. h v (ap Some e))

stepped_traced : (doc : Doc) (R : Allowed) → IsClosed doc R → (q : Place) (x : PathStep)
    → (w : Value) → AllIn R w → Traced R (ReachedGood R) (stepped doc q x w)
stepped_traced doc R closed q (path.Field k) w good =
    then_traced R (AllIn R) (ReachedGood R) (field_in k w) _
    (gives_traced R (AllIn R) (field_in k w) (field_gives R k w good)) (λ u gu every. gu)
stepped_traced doc R closed q path.Get w good =
    then_traced R (AllIn R) (ReachedGood R) (got_at doc (eval doc enough) (out-Value w) q) _
    (got_traced doc R (eval doc enough) (evaluation doc R closed) (out-Value w) q)
    (λ u gu every. gu)
stepped_traced doc R closed q (path.At key) w good =
    entry_traced R key (out-Value w) (layer_of R w good)
stepped_traced doc R closed q path.Inside w good =
    inside_traced R (inside_in w)
    (λ v e. inside_good R (out-Value w) v (layer_of R w good) e)

-- ---- the steps of a path

goes_traced : (R : Allowed) (next : Value → Run Reached) (r : Reached) → ReachedGood R r
    → ((u : Value) → AllIn R u → Traced R (ReachedGood R) (next u))
    → Traced R (ReachedGood R) (goes_on next r)
goes_traced R next (value_there u) good h = h u good
goes_traced R next not_there good h = λ every. tt

followed_traced : (doc : Doc) (R : Allowed) → IsClosed doc R → (q : Place) (xs : List PathStep)
    → (k : ℕ) (v : Value) → AllIn R v → Traced R (ReachedGood R) (followed doc q k xs v)
followed_traced doc R closed q [] k v good = λ every. good
followed_traced doc R closed q (x ∷ xs) k v good =
    then_traced R (AllIn R) (ReachedGood R) (look (eval doc enough) enough v) _
    (look_traced doc R (eval doc enough) (evaluation doc R closed) enough v good)
    (λ w gw. then_traced R (ReachedGood R) (ReachedGood R)
    (stepped doc (then_step q (step.Step k)) x w) (goes_on (followed doc q (suc k) xs))
    (stepped_traced doc R closed (then_step q (step.Step k)) x w gw)
    (λ r gr. goes_traced R (followed doc q (suc k) xs) r gr
    (followed_traced doc R closed q xs (suc k))))

first_traced : {A : Type 0} (R : Allowed) (P : Value → Type 0) (f : A → Run Value) (xs : List A)
    → ((x : A) → Traced R P (f x)) → Traced R P (first_run (map f xs))
first_traced R P f [] h = tt
first_traced R P f (x ∷ xs) h = h x

requested_traced : (doc : Doc) (R : Allowed) → IsClosed doc R → (a : Ask) (q : Place)
    → Traced R (AllIn R) (requested doc a q)
requested_traced doc R closed a q =
    option_traced R (AllIn R) (entry_node doc a) _ mistyped
    (λ n e. first_traced R (AllIn R)
    (λ (d : ℕ × Dependency). given_one doc (eval doc enough) a.inst n q (suc d.0) d.1)
    (enumerate_from 0 (deps doc n))
    (λ d. given_one_traced doc R (eval doc enough) (evaluation doc R closed) a.inst n q (suc d.0)
    d.1)) tt

run_traced : (doc : Doc) (R : Allowed) → IsClosed doc R → (number : ℕ) (a : Ask)
    → Traced R (ReachedGood R) (run_of_ask doc number a)
unfolding run_of_ask
run_traced doc R closed number a =
    then_traced R (AllIn R) (ReachedGood R) (requested doc a (at_root (root.Ask number)))
    (followed doc (at_root (root.Ask number)) 1 a.steps)
    (requested_traced doc R closed a (at_root (root.Ask number)))
    (followed_traced doc R closed (at_root (root.Ask number)) a.steps 1)

-- ---- replies

abbrev is_value : Reply → Bool
is_value (reply.Value v) = true
is_value other = false

abbrev value_or : Value → Reply → Value
value_or other (reply.Value v) = v
value_or other r = other

-- what is so of a run that comes to a value is so of that
pub reply_value : (P : Reached → Type 0) (x : Run Reached) (v : Value)
    → ((r : Reached) → value_of_run x ≡ Some r → P r) → reply_of x ≡ Some (reply.Value v)
    → P (value_there v)
reply_value P None v g e = absurd (none-some (reply.Value v) e)
reply_value P (Some (Ok (value_there w), asked)) v g e =
    let Q : Value → Type 0 = λ u. P (value_there u) in
    subst Q (ap (value_or w) (same_Some (reply.Value w) (reply.Value v) e))
    (g (value_there w) refl)
reply_value P (Some (Ok not_there, asked)) v g e =
    absurd (false≢true (ap is_value (same_Some reply.Absent (reply.Value v) e)))
reply_value P (Some (Err f, asked)) v g e =
    absurd (false≢true (ap is_value (same_Some (reply.Failed f) (reply.Value v) e)))

-- what is so of all that the reply to an ask names
pub reply_named : (doc : Doc) (R : Allowed) → IsClosed doc R → (number : ℕ) (a : Ask) (v : Value)
    → Each R.ask (asks_of (run_of_ask doc number a))
    → answer_to doc number a ≡ Some (reply.Value v) → AllIn R v
unfolding answer_to
reply_named doc R closed number a v every e =
    reply_value (ReachedGood R) (run_of_ask doc number a) v
    (λ r is. value_traced R (ReachedGood R) (run_of_ask doc number a) r
    (run_traced doc R closed number a) every is) e
