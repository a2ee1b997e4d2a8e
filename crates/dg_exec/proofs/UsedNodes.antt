-- The content of a cell that is used, and the evaluation of a slot from which direct edges come to
-- such cells, ask only for cells that are used.
use Rattle.std.proofs.Common.{◌≡◌, inl, inr, ℕ, zero, suc, ◌≤◌, Bool, true, false, List, slice_get, Contains, Option, Some, None, option_and_then, Ok, Err, refl, sym, ap, subst, ◌∙◌, arith}
use Rattle.std.specs.Option.{option_map_or}
use Rattle.std.proofs.lemmas.Bool.{false≢true}
use Rattle.std.proofs.lemmas.Option.{none-some, same_Some}
use Rattle.dg_decl.specs.declared.document.Doc.{Doc}
use Rattle.dg_decl.specs.declared.binding.BindRef.{BindRef}
use Rattle.dg_decl.specs.declared.binding.BindRef.TheVariants as binding
use Rattle.dg_decl.specs.declared.graph.Node.{Node}
use Rattle.dg_decl.specs.declared.graph.NodeKind.{NodeKind}
use Rattle.dg_decl.specs.declared.graph.NodeKind.TheVariants as node
use Rattle.dg_decl.specs.declared.item.Item.{Item}
use Rattle.dg_decl.specs.declared.item.Item.TheVariants as item
use Rattle.dg_decl.specs.Diagnostics.{IsAccepted}
use Rattle.dg_decl.specs.Names.{item_at}
use Rattle.dg_decl.specs.Graph.{Dependency, deps, node_of, nodes}
use Rattle.dg_decl.specs.Sizes.{is_producer, is_production, is_produces_item}
use Rattle.dg_decl.proofs.MemberLemmas.{in_got}
use Rattle.dg_slots.specs.Numbered.{numbered_expr, numbered_tree}
use Rattle.dg_slots.specs.declared.body.NTree.TheVariants as ntree
use Rattle.dg_value.specs.declared.place.Place.{Place}
use Rattle.dg_value.specs.declared.value.Value.{Value, out-Value}
use Rattle.dg_value.specs.declared.value.Kept.TheOpen.{Value-F}
use Rattle.dg_value.specs.Same.{Layer}
use Rattle.dg_eval.specs.Runs.{Asked, cell, Run, gives, and_then, all, mistyped}
use Rattle.dg_eval.specs.World.{bound_value}
use Rattle.dg_eval.specs.Operations.{or_mistyped, only_of}
use Rattle.dg_eval.specs.Bodies.{End, value_end, producer_end}
use Rattle.dg_eval.specs.Meaning.{node_at, node_in, cell_place, Eval, content, instance, Target, target_of, given, producer_from, awaited_slot, awaited_at, param_in, around, end_with, object_of, of_end, member_end, binding_at, eval_node, eval}
use Rattle.dg_eval.specs.Report.{value_of_run}
use Rattle.dg_eval.proofs.RunGrowth.{Grows}
use Rattle.dg_eval.proofs.RunResults.{Each}
use Rattle.dg_eval.proofs.ValueLemmas.{AllIn, InLayer, layer_of, out_provider}
use Rattle.dg_eval.proofs.ConstantLemmas.{bound_gives}
use Rattle.dg_eval.proofs.BodyResults.{AtEnd, only_gives}
use Rattle.dg_eval.proofs.AcceptedDepth.{stages_of_accepted, found_no_entry}
use Rattle.dg_eval.proofs.CallLemmas.{ItemFits, item_fits}
use Rattle.dg_eval.proofs.NodeLemmas.{node_in_class}
use Rattle.dg_eval.proofs.TargetLemmas.{target_is}
use Rattle.dg_requests.proofs.NodeKinds.{KindFits, node_fits}
use Rattle.dg_exec.specs.Jobs.{job_of_cell}
use Rattle.dg_exec.specs.Meanings.{cell_job, cell_at_end, end_of_cell}
use Rattle.dg_exec.proofs.FitLemmas.{named, IsProducerCell, job_place, job_is_cell, producer_job}
use Rattle.dg_exec.proofs.FitNeeds.{uses_end}
use Rattle.dg_exec.proofs.FitWalks.{leads_to_slot}
use Rattle.dg_exec.proofs.UsedGrowth.{member_grows_to}
use Rattle.dg_exec.proofs.UsedTyping.{leaf_runs_same, tree_runs_same}
use Rattle.dg_exec.proofs.UsedTypes.{is_producer_mode, plain_modes, hides, member_node, fields_fit, shows_plain, provides_ask, item_result, injected_no}
use Rattle.dg_exec.proofs.UsedRuns.{Keeps, given_keeps, more_keeps, then_keeps, then_keeps_at, asking_keeps, test_keeps, option_keeps, or_keeps, SeesKept, body_keeps, multi_keeps, optional_keeps, object_keeps}
use Rattle.dg_exec.proofs.UsedSlots.{Used, LeadsToUsed, IsFree, CellUsed, Fit, producer_at, producer_is_cell, free_slot, cell_is_used, cell_leads, used_leads}
use Rattle.dg_exec.proofs.UsedEval.{Kept, Below, instance_keeps, look_keeps, got_keeps, FitsAs, Params, given_keep, plain_fits, plain_params, along_got, producer_keeps}

-- ---- what a body awaits

abbrev EndKept : Doc → (ℕ → ℕ → Type 0) → Run End → Type 0
EndKept doc C r = Keeps (Fit doc) (AtEnd (Fit doc) C) r

instance_ends : (doc : Doc) → IsAccepted doc → (C : ℕ → ℕ → Type 0) (f : Eval) → Below doc f
    → (i k : ℕ) (q : Place) → IsFree doc k
    → EndKept doc C (and_then (instance doc f i k q) (λ v. gives (value_end v)))
instance_ends doc accepted C f below i k q free =
    then_keeps (Fit doc) (AllIn (Fit doc)) (AtEnd (Fit doc) C) (instance doc f i k q) _
    (instance_keeps doc f below i k q (free_slot doc accepted i k free)) (λ v good. (good, tt))

awaited_good : (doc : Doc) → IsAccepted doc → (C : ℕ → ℕ → Type 0) (f : Eval) → Below doc f
    → (depth : ℕ) (l : Layer) (q : Place) → InLayer (Fit doc) l
    → EndKept doc C (awaited_at doc f depth l q)
awaited_good doc accepted C f below depth (Value-F.Provider i k) q parts =
    test_keeps (Fit doc) (AtEnd (Fit doc) C)
    (option_map_or (is_production doc) (node_at doc k) false) _ _
    (λ holds. absurd (false≢true (sym parts.free
    ∙ (sym (ap (λ (o : Option Node). option_map_or (is_production doc) o false) parts.is_node)
    ∙ holds))))
    (λ other. instance_ends doc accepted C f below i k q parts)
awaited_good doc accepted C f below depth other q parts = tt

-- what awaiting the parameters of a node that ask for a `Producer` leads to
abbrev Ways : Doc → (ℕ → ℕ → Type 0) → Eval → ℕ → ℕ → Node → Type 0
Ways doc C f depth i n =
    (d : Dependency) (t : Target) (q : Place) → Contains (deps doc n) d
    → is_producer_mode d.mode ≡ true → target_of doc i n d ≡ Some t
    → EndKept doc C (awaited_slot doc f depth t.inst t.slot q)

awaited_as : (doc : Doc) → IsAccepted doc → (C : ℕ → ℕ → Type 0) (f : Eval) → Below doc f
    → (depth i : ℕ) (n : Node) (d : Dependency) (v : Value) (q : Place)
    → Ways doc C f depth i n → Contains (deps doc n) d → FitsAs doc i n d v
    → EndKept doc C (awaited_at doc f depth (out-Value v) q)
awaited_as doc accepted C f below depth i n d v q ways c (inl good) =
    awaited_good doc accepted C f below depth (out-Value v) q (layer_of (Fit doc) v good)
awaited_as doc accepted C f below depth i n d v q ways c (inr way) =
    let P : Layer → Type 0 = λ l. EndKept doc C (awaited_at doc f depth l q) in
    subst P (sym (ap out-Value way.1.2 ∙ out_provider way.1.0.inst way.1.0.slot))
    (ways d way.1.0 q c way.0 way.1.1)

-- ---- bodies

shown_mode : (doc : Doc) (n : Node) (p : ℕ) (d : Dependency) → slice_get (deps doc n) p ≡ Some d
    → hides doc n p ≡ false → is_producer_mode d.mode ≡ false
shown_mode doc n p d got shown =
    sym (ap (λ (o : Option Dependency). option_map_or (λ d. is_producer_mode d.mode) o false) got)
    ∙ shown

good_param : (doc : Doc) (i : ℕ) (n : Node) (vs : List Value) (p : ℕ) (v : Value)
    → Params doc i n vs → hides doc n p ≡ false → slice_get vs p ≡ Some v → AllIn (Fit doc) v
good_param doc i n vs p v every shown e =
    let g = along_got doc i n 0 (deps doc n) vs p v every e in
    plain_fits doc i n g.0 v (shown_mode doc n p g.0 g.1 shown) g.2

param_keeps : (doc : Doc) (i : ℕ) (n : Node) (vs : List Value) (p : ℕ) → Params doc i n vs
    → hides doc n p ≡ false → Kept doc (param_in vs p)
param_keeps doc i n vs p every shown =
    or_keeps (Fit doc) (AllIn (Fit doc)) (slice_get vs p)
    (λ v e. good_param doc i n vs p v every shown e)

abbrev FitsSome : Doc → ℕ → Node → Value → Type 0
FitsSome doc i n v = (d : Dependency) × Contains (deps doc n) d × FitsAs doc i n d v

sees_kept : (doc : Doc) → IsAccepted doc → (C : ℕ → ℕ → Type 0) (f : Eval) → Below doc f
    → (depth i k : ℕ) (n : Node) (q : Place) (vs : List Value) → Ways doc C f depth i n
    → Params doc i n vs
    → SeesKept (Fit doc) C (hides doc n) (around doc f depth k q vs)
sees_kept doc accepted C f below depth i k n q vs ways every = record {
  param = λ p shown. param_keeps doc i n vs p every shown;
  got = λ p at shown. then_keeps (Fit doc) (AllIn (Fit doc)) (AllIn (Fit doc)) (param_in vs p) _
      (param_keeps doc i n vs p every shown)
      (λ v good. got_keeps doc accepted f below (out-Value v) at (layer_of (Fit doc) v good));
  awaited = λ p at. then_keeps (Fit doc) (FitsSome doc i n) (AtEnd (Fit doc) C) (param_in vs p) _
      (or_keeps (Fit doc) (FitsSome doc i n) (slice_get vs p)
      (λ v e. (let g = along_got doc i n 0 (deps doc n) vs p v every e in
      (g.0, in_got (deps doc n) p g.0 g.1, g.2))))
      (λ v g. awaited_as doc accepted C f below depth i n g.0 v at ways g.1 g.2);
  look = look_keeps doc f below depth;
}

end_keeps : (doc : Doc) → IsAccepted doc → (C : ℕ → ℕ → Type 0) (f : Eval) → Below doc f
    → (depth i k class m : ℕ) (q : Place) (vs : List Value)
    → Contains (nodes doc) (member_node class m) → Ways doc C f depth i (member_node class m)
    → Params doc i (member_node class m) vs → (x : Item) → item_at doc m ≡ Some x
    → ItemFits doc x → EndKept doc C (end_with doc f depth k q x vs)
end_keeps doc accepted C f below depth i k class m q vs among ways every (item.Binds mark scope n param result) at fits =
    then_keeps (Fit doc) (AllIn (Fit doc)) (AtEnd (Fit doc) C) (or_mistyped (only_of vs)) _
    (given_keeps (Fit doc) (AllIn (Fit doc)) (or_mistyped (only_of vs)) (only_gives (Fit doc) vs
    (plain_params doc accepted i (member_node class m) vs among
    (ap (λ (o : Option Item). option_map_or is_produces_item o false) at) every)))
    (λ v good. (good, tt))
end_keeps doc accepted C f below depth i k class m q vs among ways every (item.Class inject scope n params interfaces) at fits = tt
end_keeps doc accepted C f below depth i k class m q vs among ways every (item.Provides mark scope n params result body) at fits =
    let none = stages_of_accepted doc accepted in
    body_keeps (Fit doc) C (hides doc (member_node class m))
    (ntree.Leaf (numbered_expr doc params body)) (around doc f depth k q vs)
    (leaf_runs_same doc params (hides doc (member_node class m)) (fields_fit doc none)
    (shows_plain doc class m (item.Provides mark scope n params result body) at
    (provides_ask doc (item.Provides mark scope n params result body) fits refl)) body result.shape
    (item_result doc (item.Provides mark scope n params result body) fits result refl) fits.typed)
    (sees_kept doc accepted C f below depth i k (member_node class m) q vs ways every)
end_keeps doc accepted C f below depth i k class m q vs among ways every (item.Produces mark n params result body) at fits =
    let none = stages_of_accepted doc accepted in
    body_keeps (Fit doc) C (hides doc (member_node class m)) (numbered_tree doc params body)
    (around doc f depth k q vs)
    (tree_runs_same doc params (hides doc (member_node class m)) (fields_fit doc none)
    (shows_plain doc class m (item.Produces mark n params result body) at
    (provides_ask doc (item.Produces mark n params result body) fits refl)) body result.shape
    (item_result doc (item.Produces mark n params result body) fits result refl) fits.typed)
    (sees_kept doc accepted C f below depth i k (member_node class m) q vs ways every)
end_keeps doc accepted C f below depth i k class m q vs among ways every other at fits = tt

member_keeps : (doc : Doc) → IsAccepted doc → (C : ℕ → ℕ → Type 0) (f : Eval) → Below doc f
    → (depth i k class m : ℕ) (q : Place) → Contains (nodes doc) (member_node class m)
    → LeadsToUsed doc i (member_node class m) → Ways doc C f depth i (member_node class m)
    → EndKept doc C (member_end doc f depth i k (member_node class m) q m)
member_keeps doc accepted C f below depth i k class m q among leads ways =
    then_keeps (Fit doc) (Params doc i (member_node class m)) (AtEnd (Fit doc) C)
    (all (given doc f i (member_node class m) q)) _
    (given_keep doc accepted f below i (member_node class m) q among leads)
    (λ vs every. option_keeps (Fit doc) (AtEnd (Fit doc) C) (item_at doc m) _ mistyped
    (λ x at. end_keeps doc accepted C f below depth i k class m q vs among ways every x at
    (item_fits doc (stages_of_accepted doc accepted) m x at)) tt)

-- ---- nodes that are no `produces` lines

abbrev NoEnd : ℕ → ℕ → Type 0
NoEnd i k = ⊥

no_ways : (doc : Doc) → IsAccepted doc → (f : Eval) (depth i : ℕ) (n : Node)
    → Contains (nodes doc) n → is_producer doc n ≡ false → Ways doc NoEnd f depth i n
no_ways doc accepted f depth i n among plain d t q c way found =
    absurd (false≢true (sym (plain_modes doc (stages_of_accepted doc accepted) n d among plain c)
    ∙ way))

value_kept : (doc : Doc) (f : Eval) (e : End) → AtEnd (Fit doc) NoEnd e → Kept doc (of_end f e)
value_kept doc f (value_end v) good = (good, tt)
value_kept doc f (producer_end i k) never = absurd never

given_plain : (doc : Doc) → IsAccepted doc → (f : Eval) → Below doc f → (i : ℕ) (n : Node)
    → (q : Place) → Contains (nodes doc) n → LeadsToUsed doc i n → is_producer doc n ≡ false
    → Keeps (Fit doc) (Each (AllIn (Fit doc))) (all (given doc f i n q))
given_plain doc accepted f below i n q among leads plain =
    more_keeps (Fit doc) (Params doc i n) (Each (AllIn (Fit doc))) (all (given doc f i n q))
    (λ vs every. plain_params doc accepted i n vs among plain every)
    (given_keep doc accepted f below i n q among leads)

only_keeps : (doc : Doc) (vs : List Value) → Each (AllIn (Fit doc)) vs
    → Kept doc (or_mistyped (only_of vs))
only_keeps doc vs good =
    given_keeps (Fit doc) (AllIn (Fit doc)) (or_mistyped (only_of vs))
    (only_gives (Fit doc) vs good)

binding_keeps : (doc : Doc) → IsAccepted doc → (f : Eval) → Below doc f → (depth i k class : ℕ)
    → (q : Place) (b : BindRef) → Contains (nodes doc) (node_of class (node.Bound b))
    → is_producer doc (node_of class (node.Bound b)) ≡ false
    → LeadsToUsed doc i (node_of class (node.Bound b))
    → Kept doc (binding_at doc f depth i k (node_of class (node.Bound b)) q b)
binding_keeps doc accepted f below depth i k class q (binding.Member m) among plain leads =
    then_keeps (Fit doc) (AtEnd (Fit doc) NoEnd) (AllIn (Fit doc))
    (member_end doc f depth i k (member_node class m) q m) (of_end f)
    (member_keeps doc accepted NoEnd f below depth i k class m q among leads
    (no_ways doc accepted f depth i (member_node class m) among plain)) (value_kept doc f)
binding_keeps doc accepted f below depth i k class q (binding.ClassItem c) among plain leads =
    then_keeps (Fit doc) (Each (AllIn (Fit doc))) (AllIn (Fit doc))
    (all (given doc f i (node_of class (node.Bound (binding.ClassItem c))) q)) (object_of doc c q)
    (given_plain doc accepted f below i (node_of class (node.Bound (binding.ClassItem c))) q among
    leads plain) (λ vs good. object_keeps (Fit doc) doc c q vs good)
binding_keeps doc accepted f below depth i k class q (binding.Arg a) among plain leads =
    given_keeps (Fit doc) (AllIn (Fit doc)) (or_mistyped (bound_value doc i a))
    (bound_gives (Fit doc) doc i a)
binding_keeps doc accepted f below depth i k class q binding.Default among plain leads =
    given_keeps (Fit doc) (AllIn (Fit doc)) (or_mistyped (bound_value doc i 0))
    (bound_gives (Fit doc) doc i 0)
binding_keeps doc accepted f below depth i k class q (binding.Exposed dep e) among plain leads =
    then_keeps (Fit doc) (Each (AllIn (Fit doc))) (AllIn (Fit doc))
    (all (given doc f i (node_of class (node.Bound (binding.Exposed dep e))) q)) _
    (given_plain doc accepted f below i (node_of class (node.Bound (binding.Exposed dep e))) q among
    leads plain) (only_keeps doc)

node_keeps : (doc : Doc) → IsAccepted doc → (f : Eval) → Below doc f → (depth i k class : ℕ)
    → (q : Place) (kind : NodeKind) → Contains (nodes doc) (node_of class kind)
    → is_producer doc (node_of class kind) ≡ false → LeadsToUsed doc i (node_of class kind)
    → Kept doc (eval_node doc f depth i k (node_of class kind) q)
node_keeps doc accepted f below depth i k class q (node.Bound b) among plain leads =
    binding_keeps doc accepted f below depth i k class q b among plain leads
node_keeps doc accepted f below depth i k class q (node.Multi key) among plain leads =
    then_keeps (Fit doc) (Each (AllIn (Fit doc))) (AllIn (Fit doc))
    (all (given doc f i (node_of class (node.Multi key)) q)) _
    (given_plain doc accepted f below i (node_of class (node.Multi key)) q among leads plain)
    (λ vs good. multi_keeps (Fit doc) doc f depth (look_keeps doc f below depth) class key key.core
    vs good)
node_keeps doc accepted f below depth i k class q (node.Opt key) among plain leads =
    then_keeps (Fit doc) (Each (AllIn (Fit doc))) (AllIn (Fit doc))
    (all (given doc f i (node_of class (node.Opt key)) q)) _
    (given_plain doc accepted f below i (node_of class (node.Opt key)) q among leads plain)
    (λ vs good. optional_keeps (Fit doc) vs good)
node_keeps doc accepted f below depth i k class q (node.EntryOf e) among plain leads =
    then_keeps (Fit doc) (Each (AllIn (Fit doc))) (AllIn (Fit doc))
    (all (given doc f i (node_of class (node.EntryOf e)) q)) _
    (given_plain doc accepted f below i (node_of class (node.EntryOf e)) q among leads plain)
    (only_keeps doc)

-- ---- `produces` lines

abbrev ProducerEnd : Doc → ℕ → ℕ → Type 0
ProducerEnd doc i k = IsProducerCell doc (named i k)

all_ways : (doc : Doc) → IsAccepted doc → (f : Eval) → Below doc f → (depth i : ℕ) (n : Node)
    → Ways doc (ProducerEnd doc) f depth i n
all_ways doc accepted f below depth i n d t q c way found =
    let x = target_is doc i n d t found in
    test_keeps (Fit doc) (AtEnd (Fit doc) (ProducerEnd doc))
    (option_map_or (is_production doc) (node_at doc t.slot) false) _ _
    (λ holds. then_keeps (Fit doc) (λ u. IsProducerCell doc (named u.inst u.slot))
    (AtEnd (Fit doc) (ProducerEnd doc)) (producer_from doc depth t.inst t.slot) _
    (producer_keeps doc depth t (leads_to_slot doc i n d t found)) (λ u h. (h, tt)))
    (λ other. instance_ends doc accepted (ProducerEnd doc) f below t.inst t.slot q (record {
      node = x.0;
      is_node = x.2;
      free = sym (ap (λ (o : Option Node). option_map_or (is_production doc) o false) x.2)
          ∙ other;
      no_entry = found_no_entry d.class d.key d.found x.0 x.1;
    }))

run_is : {A : Type 0} (x : Run A) (a : A) → value_of_run x ≡ Some a
    → (asked : List Asked) × (x ≡ Some (Ok a, asked))
run_is None a e = absurd (none-some a e)
run_is {A} (Some (Ok b, asked)) a e =
    (asked, ap (λ (b : A). Some (Ok b, asked)) (same_Some b a e))
run_is (Some (Err f, asked)) a e = absurd (none-some a e)

end_at : (doc : Doc) (i k class m : ℕ) → node_at doc k ≡ Some (member_node class m)
    → end_of_cell doc (named i k)
    ≡ cell_at_end (member_end doc (eval doc 127) 127 i k (member_node class m) (cell_place i k) m)
end_at doc i k class m is = rw is refl

-- the cell in whose content the tree of a used producer ends is used
end_is_used : (doc : Doc) (d i k class m j l : ℕ) → d ≤ 127
    → node_at doc k ≡ Some (member_node class m) → Used doc (named i k)
    → value_of_run (member_end doc (eval doc d) d i k (member_node class m) (cell_place i k) m)
    ≡ Some (producer_end j l)
    → IsProducerCell doc (named j l) → Used doc (named j l)
end_is_used doc d i k class m j l le is used came p =
    let r = run_is (member_end doc (eval doc d) d i k (member_node class m) (cell_place i k) m)
    (producer_end j l) came in
    let other = producer_job doc (named j l) p in
    let P : Run End → Type 0 = λ x. Grows x (member_end doc (eval doc 127) 127 i k
    (member_node class m) (cell_place i k) m) in
    let there : member_end doc (eval doc 127) 127 i k (member_node class m) (cell_place i k) m
    ≡ Some (Ok (producer_end j l), r.0) =
    subst P r.1 (member_grows_to doc d 127 i k (member_node class m) (cell_place i k) m le) in
    let ends : end_of_cell doc (named i k) ≡ Some (named j l) =
    end_at doc i k class m is ∙ ap cell_at_end there in
    let job = used.1 in (
      cell_is_used doc (named i k) job.0 used.0 job.1 (named j l)
          (uses_end doc job.0 other.0 (cell_job (named i k)) (named j l)
          (job_is_cell doc (named i k) job.0 (job_place doc (named i k) job.0 job.1))
          (ap (option_and_then (job_of_cell doc)) ends ∙ other.1) other.1),
      other,
    )

end_kept : (doc : Doc) (d i k class m : ℕ) → d ≤ 127 → Below doc (eval doc d)
    → node_at doc k ≡ Some (member_node class m) → Used doc (named i k) → (e : End)
    → value_of_run (member_end doc (eval doc d) d i k (member_node class m) (cell_place i k) m)
    ≡ Some e
    → AtEnd (Fit doc) (ProducerEnd doc) e → Kept doc (of_end (eval doc d) e)
end_kept doc d i k class m le below is used (value_end v) came good = (good, tt)
end_kept doc d i k class m le below is used (producer_end j l) came p =
    let u : CellUsed doc j l = record {
      kept = producer_is_cell doc l p.node p.is_node p.produces;
      used = λ h. end_is_used doc d i k class m j l le is used came p;
    } in
    asking_keeps (Fit doc) (AllIn (Fit doc)) (cell j l) (content (eval doc d) j l) u
    (below.contents j l u)

produces_keeps : (doc : Doc) → IsAccepted doc → (d i k class : ℕ) (kind : NodeKind) → d ≤ 127
    → Below doc (eval doc d) → node_at doc k ≡ Some (node_of class kind)
    → KindFits doc class kind → is_producer doc (node_of class kind) ≡ true
    → Used doc (named i k)
    → Kept doc (eval_node doc (eval doc d) d i k (node_of class kind) (cell_place i k))
produces_keeps doc accepted d i k class (node.Bound (binding.Member m)) le below is fits holds used =
    then_keeps_at (Fit doc) (AtEnd (Fit doc) (ProducerEnd doc)) (AllIn (Fit doc))
    (member_end doc (eval doc d) d i k (member_node class m) (cell_place i k) m)
    (of_end (eval doc d))
    (member_keeps doc accepted (ProducerEnd doc) (eval doc d) below d i k class m (cell_place i k)
    (in_got (nodes doc) k (member_node class m) is)
    (used_leads doc i k (member_node class m) is used)
    (all_ways doc accepted (eval doc d) below d i (member_node class m)))
    (λ e came ends. end_kept doc d i k class m le below is used e came ends)
produces_keeps doc accepted d i k class (node.Bound (binding.ClassItem c)) le below is fits holds used =
    absurd (false≢true (sym (injected_no fits.0 fits.2)
    ∙ (sym (ap (λ (o : Option Item). option_map_or is_produces_item o false) fits.1) ∙ holds)))
produces_keeps doc accepted d i k class (node.Bound (binding.Arg a)) le below is fits holds used =
    absurd (false≢true holds)
produces_keeps doc accepted d i k class (node.Bound binding.Default) le below is fits holds used =
    absurd (false≢true holds)
produces_keeps doc accepted d i k class (node.Bound (binding.Exposed dep e)) le below is fits holds used =
    absurd (false≢true holds)
produces_keeps doc accepted d i k class (node.Multi key) le below is fits holds used =
    absurd (false≢true holds)
produces_keeps doc accepted d i k class (node.Opt key) le below is fits holds used =
    absurd (false≢true holds)
produces_keeps doc accepted d i k class (node.EntryOf e) le below is fits holds used =
    absurd (false≢true holds)

-- ---- by induction on the depth

cell_keeps : (doc : Doc) → IsAccepted doc → (d i k : ℕ) (n : Node) → d ≤ 127
    → Below doc (eval doc d) → node_at doc k ≡ Some n → CellUsed doc i k
    → Kept doc (eval_node doc (eval doc d) d i k n (cell_place i k))
cell_keeps doc accepted d i k n le below is u = by_test (is_producer doc n) refl
  where
    by_test : (b : Bool) → is_producer doc n ≡ b
        → Kept doc (eval_node doc (eval doc d) d i k n (cell_place i k))
    by_test true e =
        produces_keeps doc accepted d i k n.class n.kind le below is
        (node_fits doc n (in_got (nodes doc) k n is)) e (u.used (producer_at doc k n true is e))
    by_test false e =
        node_keeps doc accepted (eval doc d) below d i k n.class (cell_place i k) n.kind
        (in_got (nodes doc) k n is) e (cell_leads doc accepted i k n is u)

none_below : (doc : Doc) → Below doc (eval doc 0)
unfolding eval
none_below doc = record { evals = λ i k q n is plain leads. tt; contents = λ i k u. tt }

more_below : (doc : Doc) → IsAccepted doc → (d : ℕ) → d ≤ 127 → Below doc (eval doc d)
    → Below doc (eval doc (suc d))
unfolding eval
more_below doc accepted d le below = record {
  evals = λ i k q n is plain leads. option_keeps (Fit doc) (AllIn (Fit doc)) (node_in doc i k) _
      mistyped
      (λ x found. (let there : node_at doc k ≡ Some x = node_in_class doc i k x found in
      let same : n ≡ x = same_Some n x (sym is ∙ there) in
      let P : Node → Type 0 = λ y. is_producer doc y ≡ false in
      node_keeps doc accepted (eval doc d) below d i k x.class q x.kind
      (in_got (nodes doc) k x there) (subst P same plain) (subst (LeadsToUsed doc i) same leads)))
      tt;
  contents = λ i k u. option_keeps (Fit doc) (AllIn (Fit doc)) (node_in doc i k) _ mistyped
      (λ x found. cell_keeps doc accepted d i k x le below (node_in_class doc i k x found) u) tt;
}

pub eval_keeps : (doc : Doc) → IsAccepted doc → (d : ℕ) → d ≤ 128 → Below doc (eval doc d)
eval_keeps doc accepted zero le = none_below doc
eval_keeps doc accepted (suc d) le =
    more_below doc accepted d (omega (arith, le)) (eval_keeps doc accepted d (omega (arith, le)))
