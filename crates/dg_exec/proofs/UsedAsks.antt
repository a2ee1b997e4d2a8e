-- An ask, and the content of each cell and Lazy that may be asked for, ask only for cells that are
-- used.
use Rattle.std.proofs.Common.{◌≡◌, ℕ, suc, false, List, [], ◌∷◌, map, slice_get, Contains, Option, Some, None, Ok, Err, refl, ap, subst, arith}
use Rattle.std.specs.List.{enumerate_from}
use Rattle.dg_types.specs.declared.key.MapKeyVal.{MapKeyVal}
use Rattle.dg_decl.specs.declared.document.Doc.{Doc}
use Rattle.dg_decl.specs.declared.graph.Node.{Node}
use Rattle.dg_decl.specs.declared.graph.NodeKind.TheVariants as node
use Rattle.dg_decl.specs.Diagnostics.{IsAccepted}
use Rattle.dg_decl.specs.Components.{entries_of}
use Rattle.dg_decl.specs.Graph.{deps, node_of, nodes}
use Rattle.dg_decl.specs.Sizes.{is_producer}
use Rattle.dg_decl.proofs.MemberLemmas.{in_front, in_got, out_option_map, out_and_then}
use Rattle.dg_slots.specs.declared.session.Ask.{Ask}
use Rattle.dg_slots.specs.declared.session.PathStep.{PathStep}
use Rattle.dg_slots.specs.declared.session.PathStep.TheVariants as path
use Rattle.dg_slots.specs.Sessions.{asks_of}
use Rattle.dg_value.specs.declared.place.Place.{Place}
use Rattle.dg_value.specs.declared.place.PlaceRoot.TheVariants as root
use Rattle.dg_value.specs.declared.place.PlaceStep.TheVariants as step
use Rattle.dg_value.specs.declared.value.Kept.TheOpen.{Value-F}
use Rattle.dg_value.specs.declared.value.Value.{Value, out-Value}
use Rattle.dg_value.specs.Places.{at_root, then_step}
use Rattle.dg_value.specs.Same.{Layer}
use Rattle.dg_eval.specs.Runs as runs
use Rattle.dg_eval.specs.Runs.{Asked, cell, lazy, Run, mistyped}
use Rattle.dg_eval.specs.World.{class_of_inst}
use Rattle.dg_eval.specs.Operations.{field_in, entry_of, inside_in}
use Rattle.dg_eval.specs.Meaning.{content_of, lazy_content_of, got_at, look, given_one, eval}
use Rattle.dg_eval.specs.Asks.{Reached, value_there, not_there, present, entry_at, inside_reached, stepped, goes_on, followed, entry_node, first_run, requested, run_of_ask, asked_by}
use Rattle.dg_eval.proofs.RunResults.{Allowed, Each}
use Rattle.dg_eval.proofs.ValueLemmas.{AllIn, InEntry, InLayer, layer_of}
use Rattle.dg_eval.proofs.BodyResults.{each_in, field_gives, inside_good}
use Rattle.dg_eval.proofs.AcceptedDepth.{stages_of_accepted}
use Rattle.dg_eval.proofs.EntryNodes.{asked_entry}
use Rattle.dg_exec.proofs.UsedTypes.{found_in, plain_modes}
use Rattle.dg_exec.proofs.UsedRuns.{Keeps, given_keeps, more_keeps, then_keeps, option_keeps}
use Rattle.dg_exec.proofs.UsedSlots.{IsFree, CellUsed, AskFits, Fit, ask_leads}
use Rattle.dg_exec.proofs.UsedEval.{Kept, Below, lazy_keeps, look_keeps, got_keeps, FitsAs, given_one_keeps, plain_fits, numbered_dep}
use Rattle.dg_exec.proofs.UsedNodes.{eval_keeps}

pub asks_kept : {A : Type 0} (R : Allowed) (P : A → Type 0) (x : Run A) → Keeps R P x
    → Each R.ask (runs.asks_of x)
asks_kept R P None g = tt
asks_kept R P (Some (Ok a, asked)) g = g.1
asks_kept R P (Some (Err f, asked)) g = g

-- what may be evaluated at the whole depth
pub whole : (doc : Doc) → IsAccepted doc → Below doc (eval doc 128)
whole doc accepted = eval_keeps doc accepted 128 (omega arith)

content_kept : (doc : Doc) → IsAccepted doc → (i k : ℕ) → CellUsed doc i k
    → Kept doc (content_of doc i k)
unfolding content_of
content_kept doc accepted i k u = (whole doc accepted).contents i k u

lazy_kept : (doc : Doc) → IsAccepted doc → (i k : ℕ) (p : Place) → IsFree doc k
    → Kept doc (lazy_content_of doc i k p)
unfolding lazy_content_of
lazy_kept doc accepted i k p free =
    lazy_keeps doc accepted (eval doc 128) (whole doc accepted) i k p free

pub contents_ask : (doc : Doc) → IsAccepted doc → (x : Asked) → AskFits doc x
    → Each (AskFits doc) (asked_by doc x)
unfolding asked_by
contents_ask doc accepted (cell i k) u =
    asks_kept (Fit doc) (AllIn (Fit doc)) _ (content_kept doc accepted i k u)
contents_ask doc accepted (lazy i k p) free =
    asks_kept (Fit doc) (AllIn (Fit doc)) _ (lazy_kept doc accepted i k p free)

-- ---- the path of an ask

abbrev ReachedKept : Doc → Reached → Type 0
ReachedKept doc (value_there v) = AllIn (Fit doc) v
ReachedKept doc not_there = Unit {0}

abbrev PathKept : Doc → Run Reached → Type 0
PathKept doc r = Keeps (Fit doc) (ReachedKept doc) r

entry_found : (R : Allowed) (k : MapKeyVal) (es : List (MapKeyVal × Value)) (v : Value)
    → Each (InEntry (AllIn R)) es → entry_of k es ≡ Some v → AllIn R v
entry_found R k es v every e =
    let o = out_option_map (λ (e : MapKeyVal × Value). e.1) _ v e in
    let c : Contains es o.0 = found_in _ es o.0 o.1 in
    let P : Value → Type 0 = AllIn R in
    subst P o.2 (each_in (InEntry (AllIn R)) es o.0 every c)

present_keeps : (doc : Doc) (o : Option Value) → ((v : Value) → o ≡ Some v → AllIn (Fit doc) v)
    → PathKept doc (present o)
present_keeps doc None h = (tt, tt)
present_keeps doc (Some v) h = (h v refl, tt)

entry_keeps : (doc : Doc) (k : MapKeyVal) (l : Layer) → InLayer (Fit doc) l
    → PathKept doc (entry_at k l)
entry_keeps doc k (Value-F.Map es) parts =
    present_keeps doc (entry_of k es) (λ v e. entry_found (Fit doc) k es v parts e)
entry_keeps doc k other parts = tt

inside_keeps : (doc : Doc) (o : Option (Option Value))
    → ((v : Value) → o ≡ Some (Some v) → AllIn (Fit doc) v) → PathKept doc (inside_reached o)
inside_keeps doc None h = tt
inside_keeps doc (Some o) h = present_keeps doc o (λ v e. h v (ap Some e))

stepped_keeps : (doc : Doc) → IsAccepted doc → (q : Place) (x : PathStep) (w : Value)
    → AllIn (Fit doc) w → PathKept doc (stepped doc q x w)
stepped_keeps doc accepted q (path.Field k) w good =
    then_keeps (Fit doc) (AllIn (Fit doc)) (ReachedKept doc) (field_in k w) _
    (given_keeps (Fit doc) (AllIn (Fit doc)) (field_in k w) (field_gives (Fit doc) k w good))
    (λ u gu. (gu, tt))
stepped_keeps doc accepted q path.Get w good =
    then_keeps (Fit doc) (AllIn (Fit doc)) (ReachedKept doc)
    (got_at doc (eval doc 128) (out-Value w) q) _
    (got_keeps doc accepted (eval doc 128) (whole doc accepted) (out-Value w) q
    (layer_of (Fit doc) w good)) (λ u gu. (gu, tt))
stepped_keeps doc accepted q (path.At key) w good =
    entry_keeps doc key (out-Value w) (layer_of (Fit doc) w good)
stepped_keeps doc accepted q path.Inside w good =
    inside_keeps doc (inside_in w)
    (λ v e. inside_good (Fit doc) (out-Value w) v (layer_of (Fit doc) w good) e)

goes_keeps : (doc : Doc) (next : Value → Run Reached) (r : Reached) → ReachedKept doc r
    → ((u : Value) → AllIn (Fit doc) u → PathKept doc (next u)) → PathKept doc (goes_on next r)
goes_keeps doc next (value_there u) good h = h u good
goes_keeps doc next not_there good h = (tt, tt)

path_keeps : (doc : Doc) → IsAccepted doc → (q : Place) (k : ℕ) (xs : List PathStep) (v : Value)
    → AllIn (Fit doc) v → PathKept doc (followed doc q k xs v)
path_keeps doc accepted q k [] v good = (good, tt)
path_keeps doc accepted q k (x ∷ xs) v good =
    then_keeps (Fit doc) (AllIn (Fit doc)) (ReachedKept doc) (look (eval doc 128) 128 v) _
    (look_keeps doc (eval doc 128) (whole doc accepted) 128 v good)
    (λ w gw. then_keeps (Fit doc) (ReachedKept doc) (ReachedKept doc)
    (stepped doc (then_step q (step.Step k)) x w) (goes_on (followed doc q (suc k) xs))
    (stepped_keeps doc accepted (then_step q (step.Step k)) x w gw)
    (λ r gr. goes_keeps doc (followed doc q (suc k) xs) r gr
    (λ u gu. path_keeps doc accepted q (suc k) xs u gu)))

-- ---- the entry of an ask

first_keeps : {A : Type 0} (R : Allowed) (P : Value → Type 0) (f : A → Run Value) (xs : List A)
    → ((x : A) → Contains xs x → Keeps R P (f x)) → Keeps R P (first_run (map f xs))
first_keeps R P f [] h = tt
first_keeps R P f (x ∷ xs) h = h x (in_front x xs)

entry_plain : (doc : Doc) (a : Ask) (n : Node) → entry_node doc a ≡ Some n
    → is_producer doc n ≡ false
entry_plain doc a n e =
    let class = out_and_then _ (class_of_inst doc a.inst) n e in
    let entry = out_option_map (λ (k : ℕ). node_of class.0 (node.EntryOf k))
    (slice_get (entries_of doc class.0) a.entry) n class.2 in
    let P : Node → Type 0 = λ m. is_producer doc m ≡ false in
    subst P entry.2 refl

requested_keeps : (doc : Doc) → IsAccepted doc → (job : ℕ) (a : Ask) (q : Place)
    → slice_get (asks_of doc) job ≡ Some a → Kept doc (requested doc a q)
requested_keeps doc accepted job a q is =
    option_keeps (Fit doc) (AllIn (Fit doc)) (entry_node doc a) _ mistyped
    (λ n entry. (let e = asked_entry doc a n entry in
    let among : Contains (nodes doc) n = in_got (nodes doc) e.number n e.is_node in
    first_keeps (Fit doc) (AllIn (Fit doc))
    (λ d. given_one doc (eval doc 128) a.inst n q (suc d.0) d.1) (enumerate_from 0 (deps doc n))
    (λ d c. more_keeps (Fit doc) (FitsAs doc a.inst n d.1) (AllIn (Fit doc))
    (given_one doc (eval doc 128) a.inst n q (suc d.0) d.1)
    (λ v fits. plain_fits doc a.inst n d.1 v
    (plain_modes doc (stages_of_accepted doc accepted) n d.1 among (entry_plain doc a n entry)
    (numbered_dep (deps doc n) d.0 d.1 c)) fits)
    (given_one_keeps doc accepted (eval doc 128) (whole doc accepted) a.inst n q among
    (ask_leads doc job a n is entry) d.0 d.1 c)))) tt

pub ask_asks : (doc : Doc) → IsAccepted doc → (job number : ℕ) (a : Ask)
    → slice_get (asks_of doc) job ≡ Some a
    → Each (AskFits doc) (runs.asks_of (run_of_ask doc number a))
unfolding run_of_ask
ask_asks doc accepted job number a is =
    asks_kept (Fit doc) (ReachedKept doc) _
    (then_keeps (Fit doc) (AllIn (Fit doc)) (ReachedKept doc)
    (requested doc a (at_root (root.Ask number)))
    (followed doc (at_root (root.Ask number)) 1 a.steps)
    (requested_keeps doc accepted job a (at_root (root.Ask number)) is)
    (λ v good. path_keeps doc accepted (at_root (root.Ask number)) 1 a.steps v good))
