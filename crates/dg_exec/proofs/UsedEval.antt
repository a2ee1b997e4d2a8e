-- The evaluation of a slot that is used asks only for cells that are used, and names no others.
use Rattle.std.proofs.Common.{◌≡◌, ◌⊎◌, inl, inr, ℕ, zero, suc, ◌+◌, Bool, true, false, cond, List, [], ◌∷◌, slice_get, Contains, Option, Some, None, refl, sym, subst, ◌∙◌}
use Rattle.std.specs.List.{enumerate_from}
use Rattle.std.proofs.lemmas.Bool.{false≢true}
use Rattle.std.proofs.lemmas.Option.{none-some, same_Some}
use Rattle.dg_types.specs.declared.key.Mode.{Mode}
use Rattle.dg_types.specs.declared.key.Mode.TheVariants as mode
use Rattle.dg_decl.specs.declared.document.Doc.{Doc}
use Rattle.dg_decl.specs.declared.graph.Node.{Node}
use Rattle.dg_decl.specs.Diagnostics.{IsAccepted}
use Rattle.dg_decl.specs.Graph.{Dependency, deps, nodes}
use Rattle.dg_decl.specs.Sizes.{is_producer}
use Rattle.dg_decl.specs.Stages.Bindings.{is_provider_mode}
use Rattle.dg_decl.proofs.MemberLemmas.{in_front, in_got, out_and_then}
use Rattle.dg_decl.proofs.NodeWalks.{in_rest}
use Rattle.dg_value.specs.declared.place.Place.{Place}
use Rattle.dg_value.specs.declared.place.PlaceStep.TheVariants as step
use Rattle.dg_value.specs.declared.value.Value.{Value, out-Value}
use Rattle.dg_value.specs.declared.value.Value.TheVariants as value
use Rattle.dg_value.specs.declared.value.Kept.TheOpen.{Value-F}
use Rattle.dg_value.specs.Places.{then_step}
use Rattle.dg_value.specs.Same.{Layer}
use Rattle.dg_eval.specs.Named.{held_cell}
use Rattle.dg_eval.specs.Runs.{cell, lazy, Run, asking, all, mistyped}
use Rattle.dg_eval.specs.Meaning.{node_at, is_cell, Eval, content, held, instance, lazy_content, give, got_at, look_at, look, Target, target_of, step_to, given_one, given, first_target, is_instance, producer_from}
use Rattle.dg_eval.proofs.RunResults.{Allowed, Each, Along}
use Rattle.dg_eval.proofs.ValueLemmas.{AllIn, InLayer, layer_of, in_held, in_provider, in_provider_lazy, in_lazy, in_failed, in_good}
use Rattle.dg_eval.proofs.AcceptedDepth.{stages_of_accepted}
use Rattle.dg_exec.specs.Modes.{is_direct}
use Rattle.dg_exec.proofs.FitLemmas.{named, IsProducerCell, out_numbered}
use Rattle.dg_exec.proofs.FitWalks.{IsSlotIn, leads_to_slot, slot_producer}
use Rattle.dg_exec.proofs.UsedTypes.{is_producer_mode, plain_modes}
use Rattle.dg_exec.proofs.UsedRuns.{Keeps, more_keeps, then_keeps, asking_keeps, outcome_keeps, test_keeps, option_keeps, all_keep, LooksKeep}
use Rattle.dg_exec.proofs.UsedSlots.{LeadsToUsed, IsFree, CellUsed, SlotUsed, Fit, producer_at, producer_of, no_cell_no_producer, free_slot, step_slot, way_slot}

abbrev pub Kept : Doc → Run Value → Type 0
Kept doc r = Keeps (Fit doc) (AllIn (Fit doc)) r

-- what evaluates at the depth below keeps to cells that are used
pub record Below (doc : Doc) (f : Eval) : Type 0 where
  pub evals : (i k : ℕ) (q : Place) (n : Node) → node_at doc k ≡ Some n
      → is_producer doc n ≡ false → LeadsToUsed doc i n → Kept doc (f i k q)
  pub contents : (i k : ℕ) → CellUsed doc i k → Kept doc (content f i k)

-- ---- cells, Lazies and looks

pub instance_keeps : (doc : Doc) (f : Eval) → Below doc f → (i k : ℕ) (q : Place)
    → SlotUsed doc i k → Kept doc (instance doc f i k q)
instance_keeps doc f below i k q s =
    test_keeps (Fit doc) (AllIn (Fit doc)) (is_cell doc k) (held f i k) (f i k q)
    (λ kept. (let u : CellUsed doc i k = record {
      kept = kept;
      used = λ p. s.used (producer_of doc k s.node true s.is_node p);
    } in
    asking_keeps (Fit doc) (AllIn (Fit doc)) (cell i k) _ u
    (then_keeps (Fit doc) (AllIn (Fit doc)) (AllIn (Fit doc)) (content f i k) _
    (below.contents i k u) (λ v good. (in_held (Fit doc) i k u, tt)))))
    (λ plain. (let no_one = no_cell_no_producer doc k s.node s.is_node plain in
    below.evals i k q s.node s.is_node no_one (s.leads no_one)))

pub lazy_keeps : (doc : Doc) → IsAccepted doc → (f : Eval) → Below doc f → (i k : ℕ) (p : Place)
    → IsFree doc k → Kept doc (lazy_content doc f i k p)
lazy_keeps doc accepted f below i k p free =
    instance_keeps doc f below i k (then_step p step.Inside) (free_slot doc accepted i k free)

look_at_keeps : (R : Allowed) (behind : ℕ → ℕ → Run Value) (v : Value) (l : Layer)
    → InLayer R l → AllIn R v
    → ((i k : ℕ) → R.name (held_cell i k) → Keeps R (AllIn R) (behind i k))
    → Keeps R (AllIn R) (look_at behind v l)
look_at_keeps R behind v (Value-F.Held i k) parts good h = h i k parts
look_at_keeps R behind v other parts good h = (good, tt)

pub look_keeps : (doc : Doc) (f : Eval) → Below doc f → (times : ℕ)
    → LooksKeep (Fit doc) (look f times)
look_keeps doc f below zero v good =
    look_at_keeps (Fit doc) _ v (out-Value v) (layer_of (Fit doc) v good) good (λ i k u. tt)
look_keeps doc f below (suc times) v good =
    look_at_keeps (Fit doc) _ v (out-Value v) (layer_of (Fit doc) v good) good
    (λ i k u. then_keeps (Fit doc) (AllIn (Fit doc)) (AllIn (Fit doc))
    (asking (cell i k) (content f i k)) (look f times)
    (asking_keeps (Fit doc) (AllIn (Fit doc)) (cell i k) (content f i k) u (below.contents i k u))
    (λ w gw. look_keeps doc f below times w gw))

pub got_keeps : (doc : Doc) → IsAccepted doc → (f : Eval) → Below doc f → (l : Layer) (q : Place)
    → InLayer (Fit doc) l → Kept doc (got_at doc f l q)
got_keeps doc accepted f below (Value-F.Provider i k) q parts =
    instance_keeps doc f below i k q (free_slot doc accepted i k parts)
got_keeps doc accepted f below (Value-F.ProviderLazy i k) q parts =
    (in_lazy (Fit doc) i k q parts, tt)
got_keeps doc accepted f below (Value-F.Lazy i k p) q parts =
    asking_keeps (Fit doc) (AllIn (Fit doc)) (lazy i k p) (lazy_content doc f i k p) parts
    (lazy_keeps doc accepted f below i k p parts)
got_keeps doc accepted f below other q parts = tt

-- ---- what dependencies are given

-- a value of a dependency is allowed, or it is a way that a `Producer` asks for
abbrev pub FitsAs : Doc → ℕ → Node → Dependency → Value → Type 0
FitsAs doc i n d v =
    AllIn (Fit doc) v ⊎ ((is_producer_mode d.mode ≡ true)
    × ((t : Target) × (target_of doc i n d ≡ Some t) × (v ≡ value.Provider t.inst t.slot)))

abbrev GivenAs : Doc → Mode → Target → Value → Type 0
GivenAs doc m t v =
    AllIn (Fit doc) v
    ⊎ ((is_producer_mode m ≡ true) × (v ≡ value.Provider t.inst t.slot))

give_keeps : (doc : Doc) (f : Eval) → Below doc f → (m : Mode) (t : Target) (q : Place)
    → (is_direct m ≡ true → SlotUsed doc t.inst t.slot)
    → (is_provider_mode m ≡ true → IsFree doc t.slot)
    → Keeps (Fit doc) (GivenAs doc m t) (give doc f m t.inst t.slot q)
give_keeps doc f below mode.Instance t q direct way =
    more_keeps (Fit doc) (AllIn (Fit doc)) (GivenAs doc mode.Instance t)
    (instance doc f t.inst t.slot q) (λ v good. inl good)
    (instance_keeps doc f below t.inst t.slot q (direct refl))
give_keeps doc f below mode.Produced t q direct way =
    outcome_keeps (Fit doc) (AllIn (Fit doc)) (GivenAs doc mode.Produced t)
    (instance doc f t.inst t.slot q)
    (instance_keeps doc f below t.inst t.slot q (direct refl))
    (λ v good. inl (in_good (Fit doc) v good)) (λ e. inl (in_failed (Fit doc) e))
give_keeps doc f below mode.Provider t q direct way =
    (inl (in_provider (Fit doc) t.inst t.slot (way refl)), tt)
give_keeps doc f below mode.Producer t q direct way = (inr (refl, refl), tt)
give_keeps doc f below mode.ProviderLazy t q direct way =
    (inl (in_provider_lazy (Fit doc) t.inst t.slot (way refl)), tt)
give_keeps doc f below mode.Lazy t q direct way =
    (inl (in_lazy (Fit doc) t.inst t.slot q (way refl)), tt)

given_as : (doc : Doc) (i : ℕ) (n : Node) (d : Dependency) (t : Target) (v : Value)
    → target_of doc i n d ≡ Some t → GivenAs doc d.mode t v → FitsAs doc i n d v
given_as doc i n d t v found (inl good) = inl good
given_as doc i n d t v found (inr way) = inr (way.0, (t, found, way.1))

pub numbered_dep : (ds : List Dependency) (m : ℕ) (d : Dependency)
    → Contains (enumerate_from 0 ds) (m, d) → Contains ds d
numbered_dep ds m d c = in_got ds m d (out_numbered ds m d c)

pub given_one_keeps : (doc : Doc) → IsAccepted doc → (f : Eval) → Below doc f → (i : ℕ) (n : Node)
    → (q : Place) → Contains (nodes doc) n → LeadsToUsed doc i n → (m : ℕ) (d : Dependency)
    → Contains (enumerate_from 0 (deps doc n)) (m, d)
    → Keeps (Fit doc) (FitsAs doc i n d) (given_one doc f i n q (suc m) d)
given_one_keeps doc accepted f below i n q among leads m d c =
    let here : Contains (deps doc n) d = numbered_dep (deps doc n) m d c in
    option_keeps (Fit doc) (FitsAs doc i n d) (target_of doc i n d) _ mistyped
    (λ t found. more_keeps (Fit doc) (GivenAs doc d.mode t) (FitsAs doc i n d)
    (give doc f d.mode t.inst t.slot (then_step q (step_to n.kind (suc m))))
    (λ v as_given. given_as doc i n d t v found as_given)
    (give_keeps doc f below d.mode t (then_step q (step_to n.kind (suc m)))
    (λ direct. step_slot doc accepted i n t among leads (record {
      dependency = d;
      among = here;
      direct = direct;
      found = found;
    }))
    (λ way. way_slot doc accepted i n d t among here found way))) tt

abbrev Given : Doc → ℕ → Node → ℕ × Dependency → Value → Type 0
Given doc i n a v = FitsAs doc i n a.1 v

abbrev pub Params : Doc → ℕ → Node → List Value → Type 0
Params doc i n vs = Along (Given doc i n) (enumerate_from 0 (deps doc n)) vs

pub given_keep : (doc : Doc) → IsAccepted doc → (f : Eval) → Below doc f → (i : ℕ) (n : Node)
    → (q : Place) → Contains (nodes doc) n → LeadsToUsed doc i n
    → Keeps (Fit doc) (Params doc i n) (all (given doc f i n q))
given_keep doc accepted f below i n q among leads =
    all_keep (Fit doc) (Given doc i n) (λ a. given_one doc f i n q (suc a.0) a.1)
    (enumerate_from 0 (deps doc n))
    (λ a c. given_one_keeps doc accepted f below i n q among leads a.0 a.1 c)

-- ---- parameters

pub plain_fits : (doc : Doc) (i : ℕ) (n : Node) (d : Dependency) (v : Value)
    → is_producer_mode d.mode ≡ false → FitsAs doc i n d v → AllIn (Fit doc) v
plain_fits doc i n d v no_one (inl good) = good
plain_fits doc i n d v no_one (inr way) = absurd (false≢true (sym no_one ∙ way.0))

plain_along : (doc : Doc) (i : ℕ) (n : Node) (j : ℕ) (ds : List Dependency) (vs : List Value)
    → Each (λ d. is_producer_mode d.mode ≡ false) ds
    → Along (Given doc i n) (enumerate_from j ds) vs → Each (AllIn (Fit doc)) vs
plain_along doc i n j [] [] plain every = tt
plain_along doc i n j [] (v ∷ vs) plain every = absurd every
plain_along doc i n j (d ∷ ds) [] plain every = tt
plain_along doc i n j (d ∷ ds) (v ∷ vs) plain every = (
  plain_fits doc i n d v plain.0 every.0,
  plain_along doc i n (j + 1) ds vs plain.1 every.1,
)

each_by : {A : Type 0} (P : A → Type 0) (xs : List A) → ((x : A) → Contains xs x → P x)
    → Each P xs
each_by P [] h = tt
each_by P (x ∷ xs) h = (h x (in_front x xs), each_by P xs (λ y c. h y (in_rest y x xs c)))

-- of a node that is no `produces` line
pub plain_params : (doc : Doc) → IsAccepted doc → (i : ℕ) (n : Node) (vs : List Value)
    → Contains (nodes doc) n → is_producer doc n ≡ false → Params doc i n vs
    → Each (AllIn (Fit doc)) vs
plain_params doc accepted i n vs among plain every =
    plain_along doc i n 0 (deps doc n) vs
    (each_by (λ d. is_producer_mode d.mode ≡ false) (deps doc n)
    (λ d c. plain_modes doc (stages_of_accepted doc accepted) n d among plain c)) every

pub along_got : (doc : Doc) (i : ℕ) (n : Node) (j : ℕ) (ds : List Dependency) (vs : List Value)
    → (p : ℕ) (v : Value) → Along (Given doc i n) (enumerate_from j ds) vs
    → slice_get vs p ≡ Some v
    → (d : Dependency) × (slice_get ds p ≡ Some d) × FitsAs doc i n d v
along_got doc i n j ds [] p v every e = absurd (none-some v e)
along_got doc i n j [] (w ∷ vs) p v every e = absurd every
along_got doc i n j (d ∷ ds) (w ∷ vs) zero v every e =
    (d, refl, subst (FitsAs doc i n d) (same_Some w v e) every.0)
along_got doc i n j (d ∷ ds) (w ∷ vs) (suc p) v every e =
    along_got doc i n (j + 1) ds vs p v every.1 e

-- ---- ends

if_some : {A : Type 0} (b : Bool) (o : Option A) (x : A) → cond b o None ≡ Some x → o ≡ Some x
if_some true o x e = e
if_some false o x e = absurd (none-some x e)

first_slot : (doc : Doc) (i : ℕ) (n : Node) (t : Target) → first_target doc i n ≡ Some t
    → IsSlotIn doc t
first_slot doc i n t e =
    let d = out_and_then (λ (d : Dependency). cond (is_instance d.mode) (target_of doc i n d) None)
    (slice_get (deps doc n) 0) t e in
    leads_to_slot doc i n d.0 t (if_some (is_instance d.0.mode) (target_of doc i n d.0) t d.2)

-- the producer at the end of a chain
pub producer_keeps : (doc : Doc) (times : ℕ) (t : Target) → IsSlotIn doc t
    → Keeps (Fit doc) (λ u. IsProducerCell doc (named u.inst u.slot))
    (producer_from doc times t.inst t.slot)
producer_keeps doc zero t s = tt
producer_keeps doc (suc times) t s =
    option_keeps (Fit doc) (λ u. IsProducerCell doc (named u.inst u.slot)) (node_at doc t.slot) _
    mistyped
    (λ n is. test_keeps (Fit doc) (λ u. IsProducerCell doc (named u.inst u.slot))
    (is_producer doc n) _ _
    (λ yes. (slot_producer doc t s (producer_at doc t.slot n true is yes), tt))
    (λ other. option_keeps (Fit doc) (λ u. IsProducerCell doc (named u.inst u.slot))
    (first_target doc t.inst n) _ mistyped
    (λ u found. producer_keeps doc times u (first_slot doc t.inst n u found)) tt)) tt
