-- What a body calls fits an `await`: it is a way to a slot that is no entry and, where that is a
-- production, to what a binding gives.
use Rattle.std.proofs.Common.{◌≡◌, ℕ, zero, suc, Bool, true, false, ◌||◌, List, [], ◌∷◌, filter_map, slice_get, Contains, Option, Some, None, option_map, Ok, Err, refl, sym, ap, subst, ◌∙◌}
use Rattle.std.specs.Option.{option_map_or}
use Rattle.std.proofs.lemmas.Bool.{false≢true}
use Rattle.std.proofs.lemmas.Option.{none-some, same_Some}
use Rattle.dg_types.specs.declared.key.Base.{Base}
use Rattle.dg_types.specs.declared.key.Core.{Core}
use Rattle.dg_types.specs.declared.key.Core.TheVariants as core
use Rattle.dg_types.specs.declared.key.Mode.{Mode}
use Rattle.dg_types.specs.declared.key.Mode.TheVariants as mode
use Rattle.dg_types.specs.declared.key.Request.{Request}
use Rattle.dg_types.specs.declared.shape.Shape.{out-Shape}
use Rattle.dg_types.specs.declared.shape.Shape.TheOpen.{Shape-F}
use Rattle.dg_types.specs.declared.shape.TypeUse.{TypeUse}
use Rattle.dg_types.specs.Requests.{Layer as TypeLayer, base_of, one_of, core_at, core_of, Asked as Form, asked_as, deferred_at, plain_at, plain_of, producing_at, producing_of, first_of_two, asked_of, request_of}
use Rattle.dg_types.specs.Texts.{key_text}
use Rattle.dg_decl.specs.declared.document.Doc.{Doc}
use Rattle.dg_decl.specs.declared.binding.BindRef.{BindRef}
use Rattle.dg_decl.specs.declared.binding.BindRef.TheVariants as binding
use Rattle.dg_decl.specs.declared.graph.Node.{Node}
use Rattle.dg_decl.specs.declared.graph.NodeKind.{NodeKind}
use Rattle.dg_decl.specs.declared.graph.NodeKind.TheVariants as node
use Rattle.dg_decl.specs.declared.violation.Rule.TheVariants as rule
use Rattle.dg_decl.specs.Diagnostics.{IsAccepted}
use Rattle.dg_decl.specs.Names.{item_at, params_of}
use Rattle.dg_decl.specs.Graph.{Dependency, asked, of_param, of_params, deps, target, node_of, nodes}
use Rattle.dg_decl.specs.Sizes.{is_production}
use Rattle.dg_decl.specs.Stages.Bindings.{at_request, is_provision, is_provider_mode, is_production_found, depends_on_production}
use Rattle.dg_decl.proofs.MemberLemmas.{none_in, in_got, in_filter_map, out_filter_map, out_list_of, out_option_map}
use Rattle.dg_value.specs.declared.place.Place.{Place}
use Rattle.dg_value.specs.declared.value.Kept.TheOpen.{Value-F}
use Rattle.dg_value.specs.declared.value.Value.{Value, out-Value}
use Rattle.dg_value.specs.declared.value.Value.TheVariants as value
use Rattle.dg_value.specs.Places.{then_step}
use Rattle.dg_value.specs.Same.{Layer}
use Rattle.dg_eval.specs.At.{calls_of}
use Rattle.dg_eval.specs.Runs.{Run, both, all, mistyped}
use Rattle.dg_eval.specs.Meaning.{node_in, Eval, Target as Look, give, step_to, target_of, given_one, given}
use Rattle.dg_eval.proofs.AcceptedDepth.{stages_of_accepted, found_no_entry}
use Rattle.dg_eval.proofs.CallLemmas.{calls_are_edges}
use Rattle.dg_eval.proofs.InputLemmas.{inputs_are_look_ups}
use Rattle.dg_eval.proofs.InstanceLemmas.{none_there}
use Rattle.dg_eval.proofs.TargetLemmas.{target_is}
use Rattle.dg_eval.proofs.TotalLemmas.{Spot, IsDeferred, FitsMode}
use Rattle.dg_eval.proofs.ValueLemmas.{out_provider, out_provider_lazy, out_lazy}
use Rattle.dg_requests.specs.Contexts.{IsBound, LeadsOn, AwaitFits}
use Rattle.dg_requests.proofs.ContextLemmas.{in_class_is, in_its_class}
use Rattle.dg_requests.proofs.GivingLemmas.{runs_at}
use Rattle.dg_requests.proofs.LookUps.{needs_lead}
use Rattle.dg_requests.proofs.Passing.{is_never, bound_only, rule_holds}

-- ---- what is asked for as a Producer is of a base type

is_producer_mode : Mode → Bool
is_producer_mode mode.Producer = true
is_producer_mode other = false

abbrev AsksForOne : Form → Type 0
AsksForOne a = a.0 ≡ mode.Producer → (b : Base) × (a.1 ≡ core.One b)

other_mode : (how : Mode) (c : Option Core) (a : Form) → asked_as how c ≡ Some a
    → is_producer_mode how ≡ false → AsksForOne a
unfolding is_producer_mode
other_mode how c a e differs is =
    let o = out_option_map (λ (x : Core). (how, x)) c a e in
    let same : how ≡ mode.Producer = ap (λ (b : Form). b.0) o.2 ∙ is in
    absurd (false≢true (sym differs ∙ ap is_producer_mode same))

one_mode : (o : Option Base) (a : Form) → asked_as mode.Producer (one_of o) ≡ Some a
    → AsksForOne a
one_mode o a e is =
    let x = out_option_map (λ (x : Core). (mode.Producer, x)) (one_of o) a e in
    let b = out_option_map core.One o x.0 x.1 in
    (b.0, sym (ap (λ (b : Form). b.1) x.2) ∙ sym b.2)

deferred_one : (l : TypeLayer) (a : Form) → deferred_at l ≡ Some a → AsksForOne a
unfolding is_producer_mode
deferred_one (Shape-F.Lazy t) a e = other_mode mode.ProviderLazy (core_of t) a e refl
deferred_one l a e = other_mode mode.Provider (core_at l) a e refl

plain_one : (l : TypeLayer) (a : Form) → plain_at l ≡ Some a → AsksForOne a
unfolding is_producer_mode
plain_one (Shape-F.Provider t) a e = deferred_one (out-Shape t) a e
plain_one (Shape-F.Lazy t) a e = other_mode mode.Lazy (core_of t) a e refl
plain_one l a e = other_mode mode.Instance (core_at l) a e refl

producing_one : (l : TypeLayer) (a : Form) → producing_at l ≡ Some a → AsksForOne a
unfolding is_producer_mode
producing_one (Shape-F.Set t) a e = other_mode mode.Instance _ a e refl
producing_one (Shape-F.Map k t) a e = other_mode mode.Instance _ a e refl
producing_one (Shape-F.Produced t) a e = other_mode mode.Produced (one_of (base_of t)) a e refl
producing_one (Shape-F.Producer t) a e = one_mode (base_of t) a e
producing_one l a e = absurd (none-some a e)

first_one : (x y : Option Form) (a : Form) → first_of_two x y ≡ Some a
    → (x ≡ Some a → AsksForOne a) → (y ≡ Some a → AsksForOne a) → AsksForOne a
first_one (Some b) y a e f g = f e
first_one None y a e f g = g e

request_one : (u : TypeUse) (r : Request) → request_of u ≡ Some r → r.mode ≡ mode.Producer
    → (b : Base) × (r.key.core ≡ core.One b)
unfolding request_of asked_of plain_of producing_of
request_one u r e is =
    let l = out-Shape u.shape in
    let o = out_option_map _ (first_of_two (plain_at l) (producing_at l)) r e in
    let b = first_one (plain_at l) (producing_at l) o.0 o.1 (plain_one l o.0) (producing_one l o.0)
    (ap (λ (r : Request). r.mode) o.2 ∙ is) in
    (b.0, sym (ap (λ (r : Request). r.key.core) o.2) ∙ b.1)

param_one : (doc : Doc) (c m : ℕ) (d : Dependency) → Contains (of_params doc c m) d
    → d.mode ≡ mode.Producer → (b : Base) × (d.key.core ≡ core.One b)
param_one doc c m d h is =
    let x = out_list_of (λ x. filter_map (of_param doc c) (params_of x)) (item_at doc m) d h in
    let p = out_filter_map (of_param doc c) (params_of x.0) d x.2 in
    let r = out_option_map (asked doc c (Some p.0.name)) (request_of p.0.shape) d p.2 in
    let P : Dependency → Type 0 =
    λ d. d.mode ≡ mode.Producer → (b : Base) × (d.key.core ≡ core.One b) in
    subst P r.2 (request_one p.0.shape r.0 r.1) is

-- ---- the rule on productions

or_right : (a b : Bool) → b ≡ true → (a || b) ≡ true
or_right true b e = refl
or_right false b e = e

rule_is : (doc : Doc) (class : ℕ) (b : BindRef) (d : Dependency)
    → Contains (deps doc (node_of class (node.Bound b))) d → is_provider_mode d.mode ≡ true
    → is_production_found doc d ≡ true
    → Contains (depends_on_production doc (node_of class (node.Bound b)))
    (at_request rule.DependsOnProduction (key_text d.key) doc (node_of class (node.Bound b)) d)
unfolding depends_on_production
rule_is doc class b d c h f =
    let e : (is_provision doc (node_of class (node.Bound b)) || is_provider_mode d.mode) ≡ true =
    or_right (is_provision doc (node_of class (node.Bound b))) (is_provider_mode d.mode) h in
    in_filter_map _ (deps doc (node_of class (node.Bound b))) d _ c (rw (e, f) refl)

-- a request for a Provider finds no production
provider_no : (doc : Doc) → IsAccepted doc → (class : ℕ) (b : BindRef) (d : Dependency) (t : Node)
    → Contains (nodes doc) (node_of class (node.Bound b))
    → Contains (deps doc (node_of class (node.Bound b))) d → target d ≡ Some t
    → is_provider_mode d.mode ≡ true → is_production doc t ≡ false
provider_no doc accepted class b d t among c is h =
    is_never (is_production doc t) (λ production.
    none_there _ _ (rule_holds doc accepted (node_of class (node.Bound b)) among)
    (rule_is doc class b d c h
    (ap (λ (o : Option Node). option_map_or (is_production doc) o false) is ∙ production)))

-- ---- where a called parameter leads

by_provider : (doc : Doc) → IsAccepted doc → (class : ℕ) (kind : NodeKind) (p : ℕ) (d : Dependency)
    → (t : Node) → Contains (nodes doc) (node_of class kind)
    → Contains (calls_of doc (node_of class kind)) p → Contains (deps doc (node_of class kind)) d
    → target d ≡ Some t → d.mode ≡ mode.Provider → is_production doc t ≡ true → IsBound t.kind
by_provider doc accepted class (node.Bound b) p d t among called c is how production =
    absurd (false≢true (sym (provider_no doc accepted class b d t among c is
    (ap is_provider_mode how)) ∙ production))
by_provider doc accepted class other p d t among called c is how production =
    absurd (none_in p called)

by_producer : (doc : Doc) (class : ℕ) (kind : NodeKind) (p : ℕ) (d : Dependency) (t : Node)
    → Contains (calls_of doc (node_of class kind)) p → Contains (deps doc (node_of class kind)) d
    → target d ≡ Some t → d.mode ≡ mode.Producer → IsBound t.kind
unfolding deps
by_producer doc class (node.Bound (binding.Member m)) p d t called c is how =
    let b = param_one doc class m d c how in
    bound_only d.key.core t.kind b.0 b.1
    (needs_lead doc class (node.Bound (binding.Member m)) d c t is)
by_producer doc class other p d t called c is how = absurd (none_in p called)

-- the node to which a dependency leads
record FoundThere (doc : Doc) (d : Dependency) (t : Look) : Type 0 where
  found : Node
  is_found : node_in doc t.inst t.slot ≡ Some found
  is_target : target d ≡ Some found

found_there : (doc : Doc) → IsAccepted doc → (i k p : ℕ) (n : Node) (d : Dependency) (t : Look)
    → node_in doc i k ≡ Some n → slice_get (deps doc n) p ≡ Some d → target_of doc i n d ≡ Some t
    → FoundThere doc d t
found_there doc accepted i k p n d t is got to =
    let here = in_class_is doc i k n is in
    let w = inputs_are_look_ups doc accepted i k p n d
    (record { is_node = here.0; class = here.1; is_dependency = got }) in
    let same : record { inst = w.inst; slot = w.input.slot } ≡ t =
    same_Some (record { inst = w.inst; slot = w.input.slot }) t (sym w.same ∙ to) in
    let there : node_in doc t.inst t.slot ≡ Some w.found =
    sym (ap (λ (l : Look). node_in doc l.inst l.slot) same)
    ∙ in_its_class doc w.inst w.input.slot w.found w.class w.is_slot in
    let x = target_is doc i n d t to in
    let one : x.0 ≡ w.found =
    same_Some x.0 w.found (sym x.2 ∙ (in_class_is doc t.inst t.slot w.found there).0) in
    record { found = w.found; is_found = there; is_target = x.1 ∙ ap Some one }

leads_on : (doc : Doc) → IsAccepted doc → (i k p : ℕ) (n : Node) (d : Dependency) (t : Look)
    → node_in doc i k ≡ Some n → slice_get (deps doc n) p ≡ Some d → target_of doc i n d ≡ Some t
    → ((x : Node) → target d ≡ Some x → is_production doc x ≡ true → IsBound x.kind)
    → LeadsOn doc t.inst t.slot
leads_on doc accepted i k p n d t is got to bound =
    let x = found_there doc accepted i k p n d t is got to in (
      x.found,
      x.is_found,
      found_no_entry d.class d.key d.found x.found x.is_target,
      bound x.found x.is_target,
    )

-- ---- values

way_is : (i k j l : ℕ) → ◌≡◌ {A = Layer} (Value-F.Provider i k) (Value-F.Provider j l)
    → (i ≡ j) × (k ≡ l)
way_is i k j l e = (cc, cc)

provider_fits : (doc : Doc) (t : Look) (v : Value) → v ≡ value.Provider t.inst t.slot
    → LeadsOn doc t.inst t.slot → AwaitFits doc v
provider_fits doc t v e h = record {
  way = λ i k is.
      let same = way_is t.inst t.slot i k (sym (ap out-Value e ∙ out_provider t.inst t.slot) ∙ is)
      in
      subst (λ (k : ℕ). LeadsOn doc i k) same.1
      (subst (λ (i : ℕ). LeadsOn doc i t.slot) same.0 h);
}

no_way : (doc : Doc) (v : Value) (l : Layer) → out-Value v ≡ l
    → ((i k : ℕ) → l ≡ Value-F.Provider i k → ⊥) → AwaitFits doc v
no_way doc v l e differs =
    record { way = λ i k is. absurd (differs i k (sym e ∙ is)) }

lazy_differs : (i k : ℕ) (p : Place) (j l : ℕ)
    → ◌≡◌ {A = Layer} (Value-F.Lazy i k p) (Value-F.Provider j l) → ⊥
lazy_differs i k p j l e = cc

provider_lazy_differs : (i k j l : ℕ)
    → ◌≡◌ {A = Layer} (Value-F.ProviderLazy i k) (Value-F.Provider j l) → ⊥
provider_lazy_differs i k j l e = cc

fits_by_mode : (doc : Doc) (L : Spot) (m : Mode) (t : Look) (v : Value) → IsDeferred m
    → FitsMode L m t v → (m ≡ mode.Provider → LeadsOn doc t.inst t.slot)
    → (m ≡ mode.Producer → LeadsOn doc t.inst t.slot) → AwaitFits doc v
fits_by_mode doc L mode.Provider t v way fits a b = provider_fits doc t v fits (a refl)
fits_by_mode doc L mode.Producer t v way fits a b = provider_fits doc t v fits (b refl)
fits_by_mode doc L mode.ProviderLazy t v way fits a b =
    no_way doc v (Value-F.ProviderLazy t.inst t.slot)
    (ap out-Value fits ∙ out_provider_lazy t.inst t.slot) (provider_lazy_differs t.inst t.slot)
fits_by_mode doc L mode.Lazy t v way fits a b =
    no_way doc v (Value-F.Lazy t.inst t.slot fits.0)
    (ap out-Value fits.1 ∙ out_lazy t.inst t.slot fits.0) (lazy_differs t.inst t.slot fits.0)
fits_by_mode doc L mode.Instance t v way fits a b = absurd way
fits_by_mode doc L mode.Produced t v way fits a b = absurd way

-- what is given for a parameter that the body of a node calls may be awaited
pub called_fits : (doc : Doc) → IsAccepted doc → (L : Spot) (i k p : ℕ) (n : Node)
    → (d : Dependency) (t : Look) (v : Value) → node_in doc i k ≡ Some n
    → Contains (calls_of doc n) p → slice_get (deps doc n) p ≡ Some d
    → target_of doc i n d ≡ Some t → FitsMode L d.mode t v → AwaitFits doc v
called_fits doc accepted L i k p n d t v is called got to fits =
    let among = in_got (nodes doc) k n (in_class_is doc i k n is).0 in
    let c = in_got (deps doc n) p d got in
    let edges = calls_are_edges doc (stages_of_accepted doc accepted) in
    fits_by_mode doc L d.mode t v (edges.deferred n p d among called got) fits
    (λ how. leads_on doc accepted i k p n d t is got to (λ x found production.
    by_provider doc accepted n.class n.kind p d x among called c found how production))
    (λ how. leads_on doc accepted i k p n d t is got to (λ x found production.
    by_producer doc n.class n.kind p d x called c found how))

-- ---- what all inputs are given

-- any place
abbrev Anywhere : Spot
Anywhere i s q = Unit {0}

-- a run gave this
abbrev Gives : {A : Type 0} → Run A → A → Type 0
Gives r a = option_map (λ p. p.0) r ≡ Some (Ok a)

give_fits : (doc : Doc) (f : Eval) (m : Mode) (t : Look) (q : Place) (v : Value)
    → Gives (give doc f m t.inst t.slot q) v → FitsMode Anywhere m t v
give_fits doc f mode.Provider t q v g = cc
give_fits doc f mode.Producer t q v g = cc
give_fits doc f mode.ProviderLazy t q v g = cc
give_fits doc f mode.Lazy t q v g = (q, cc, tt)
give_fits doc f mode.Instance t q v g = tt
give_fits doc f mode.Produced t q v g = tt

-- the first of some runs, and those behind it
record Front {A : Type 0} (r : Run A) (o : Run (List A)) (vs : List A) : Type 0 where
  first : A
  more : List A
  are : vs ≡ first ∷ more
  of_first : Gives r first
  of_more : Gives o more

front_of : {A : Type 0} (r : Run A) (o : Run (List A)) (vs : List A) → Gives (both r o) vs
    → Front r o vs
front_of None o vs g = cc
front_of (Some r) None vs g = cc
front_of (Some (Ok a, xs)) (Some (Ok more, ys)) vs g =
    record { first = a; more = more; are = cc; of_first = refl; of_more = refl }
front_of (Some (Ok a, xs)) (Some (Err f, ys)) vs g = cc
front_of (Some (Err f, xs)) (Some (b, ys)) vs g = cc

-- each value is that of the run of its index
value_at : {A : Type 0} (rs : List (Run A)) (vs : List A) (m : ℕ) (v : A) → Gives (all rs) vs
    → slice_get vs m ≡ Some v → (r : Run A) × (slice_get rs m ≡ Some r) × Gives r v
value_at [] [] m v g e = absurd (none-some v e)
value_at [] (w ∷ ws) m v g e = cc
value_at (r ∷ rs) vs zero v g e =
    let w = front_of r (all rs) vs g in
    let same : w.first ≡ v = same_Some w.first v (sym (ap (λ l. slice_get l 0) w.are) ∙ e) in
    (r, refl, w.of_first ∙ ap (λ u. Some (Ok u)) same)
value_at (r ∷ rs) vs (suc m) v g e =
    let w = front_of r (all rs) vs g in
    value_at rs w.more m v w.of_more (sym (ap (λ l. slice_get l (suc m)) w.are) ∙ e)

-- the value that is given for a dependency
record GivenFor (doc : Doc) (i m : ℕ) (n : Node) (v : Value) : Type 0 where
  dependency : Dependency
  is_dependency : slice_get (deps doc n) m ≡ Some dependency
  to : Look
  is_target : target_of doc i n dependency ≡ Some to
  fits : FitsMode Anywhere dependency.mode to v

given_for : (doc : Doc) (f : Eval) (i m : ℕ) (n : Node) (q : Place) (vs : List Value) (v : Value)
    → Gives (all (given doc f i n q)) vs → slice_get vs m ≡ Some v → GivenFor doc i m n v
given_for doc f i m n q vs v g e =
    let r = value_at (given doc f i n q) vs m v g e in
    let d = out_option_map (λ (d : Dependency). given_one doc f i n q (suc m) d)
    (slice_get (deps doc n) m) r.0 (sym (runs_at doc f i m n q) ∙ r.1) in
    by_target d.0 d.1 (ap (λ (r : Run Value). option_map (λ p. p.0) r) d.2 ∙ r.2)
    (target_of doc i n d.0) refl
  where
    by_target : (d : Dependency) → slice_get (deps doc n) m ≡ Some d
        → Gives (given_one doc f i n q (suc m) d) v → (o : Option Look) → target_of doc i n d ≡ o
        → GivenFor doc i m n v
    by_target d is g None to =
        let none = ap (λ (o : Option Look). option_map_or (λ (t : Look). give doc f d.mode t.inst
        t.slot (then_step q (step_to n.kind (suc m)))) o mistyped) to in
        let h = sym (ap (λ (r : Run Value). option_map (λ p. p.0) r) none) ∙ g in cc
    by_target d is g (Some t) to =
        let some = ap (λ (o : Option Look). option_map_or (λ (t : Look). give doc f d.mode t.inst
        t.slot (then_step q (step_to n.kind (suc m)))) o mistyped) to in
        record {
          dependency = d;
          is_dependency = is;
          to = t;
          is_target = to;
          fits = give_fits doc f d.mode t (then_step q (step_to n.kind (suc m))) v
              (sym (ap (λ (r : Run Value). option_map (λ p. p.0) r) some) ∙ g);
        }

-- where all inputs were given something, what a called parameter was given may be awaited
pub given_fits : (doc : Doc) → IsAccepted doc → (f : Eval) (i k p : ℕ) (n : Node) (q : Place)
    → (vs : List Value) (v : Value) → node_in doc i k ≡ Some n → Contains (calls_of doc n) p
    → option_map (λ p. p.0) (all (given doc f i n q)) ≡ Some (Ok vs) → slice_get vs p ≡ Some v
    → AwaitFits doc v
given_fits doc accepted f i k p n q vs v is called g e =
    let w = given_for doc f i p n q vs v g e in
    called_fits doc accepted Anywhere i k p n w.dependency w.to v is called w.is_dependency
    w.is_target w.fits
