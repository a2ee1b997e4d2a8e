-- What the plan and the world of a document have by number is what the definitions look up.
use Rattle.std.proofs.Common.{◌≡◌, ℕ, zero, suc, ◌+◌, ◌-◌, ◌<◌, ◌≤◌, ◌==◌, Bool, true, false, cond, ◌||◌, is_some, List, [], ◌∷◌, length, map, slice_get, Option, Some, None, option_map, option_and_then, refl, sym, ap, ◌∙◌, arith}
use Rattle.std.specs.List.{enumerate_from}
use Rattle.std.specs.Option.{option_map_or}
use Rattle.std.proofs.lemmas.Bool.{eq-eqb, eqb-true}
use Rattle.std.proofs.lemmas.Option.{none-some, same_Some, slice_get-map}
use Rattle.dg_lex.specs.Bytes.{Bytes}
use Rattle.dg_decl.specs.declared.document.Doc.{Doc}
use Rattle.dg_decl.specs.declared.graph.Node.{Node}
use Rattle.dg_decl.specs.Components.{is_number, walk}
use Rattle.dg_decl.specs.Graph.{Dependency, nodes}
use Rattle.dg_decl.specs.Sizes.{scope_of, is_producer}
use Rattle.dg_slots.specs.declared.body.NExpr.{NExpr}
use Rattle.dg_slots.specs.declared.plan.CellKind.TheVariants as cell
use Rattle.dg_decl.proofs.MemberLemmas.{out_and_then}
use Rattle.dg_slots.specs.declared.plan.Input.{Input}
use Rattle.dg_slots.specs.declared.plan.Plan.{Plan}
use Rattle.dg_slots.specs.declared.plan.Slot.{Slot}
use Rattle.dg_slots.specs.declared.session.Inst.{Inst}
use Rattle.dg_slots.specs.Plans.{cell_of, slot_of, slots_of, plan_of}
use Rattle.dg_slots.specs.Links.{links_of}
use Rattle.dg_slots.specs.Sessions.{insts_of}
use Rattle.dg_value.specs.declared.place.PlaceRoot.TheVariants as root
use Rattle.dg_value.specs.declared.value.Value.{Value}
use Rattle.dg_value.specs.Places.{at_root}
use Rattle.dg_eval.specs.declared.world.World.{World}
use Rattle.dg_eval.specs.World.{constant, inst_at, class_of_inst, parent_of_inst, chain_of_inst, link, bound_value, bound_values, world_of}
use Rattle.dg_eval.specs.Meaning.{node_at, node_in, is_cell_node, is_cell, target_of}
use Rattle.dg_eval.specs.Inputs.{counted_from, inst_led}
use Rattle.dg_eval.proofs.InputLemmas.{inputs_are_look_ups}
use Rattle.dg_requests.specs.Contexts.{IsContextOf, IsInputFor, slot_there, is_kept, is_kept_at, value_at, parent_at, counted_at}

-- ---- slots

pub slots_are : (doc : Doc) (plan : Plan) (world : World) → IsContextOf doc plan world → (k : ℕ)
    → slice_get plan.slots k ≡ option_map (slot_of doc) (node_at doc k)
unfolding plan_of slots_of
slots_are doc plan world c k =
    ap (λ (p : Plan). slice_get p.slots k) c.of_plan ∙ slice_get-map (slot_of doc) (nodes doc) k

pub classes_are : (doc : Doc) (plan : Plan) (world : World) → IsContextOf doc plan world → (i : ℕ)
    → slice_get world.class i ≡ class_of_inst doc i
unfolding world_of
classes_are doc plan world c i =
    ap (λ (w : World). slice_get w.class i) c.of_world
    ∙ slice_get-map (λ (x : Inst). x.class) (insts_of doc) i

slot_by : (doc : Doc) (class : Option ℕ) (o : Option Node)
    → option_and_then (λ (s : Slot). cond (is_number s.class class) (Some s) None)
    (option_map (slot_of doc) o)
    ≡ option_map (slot_of doc)
    (option_and_then (λ (n : Node). cond (is_number n.class class) (Some n) None) o)
slot_by doc class None = refl
slot_by doc class (Some n) = by_test (is_number n.class class)
  where
    by_test : (b : Bool) → cond b (Some (slot_of doc n)) None
        ≡ option_map (slot_of doc) (cond b (Some n) None)
    by_test true = refl
    by_test false = refl

pub slot_there_is : (doc : Doc) (plan : Plan) (world : World) → IsContextOf doc plan world
    → (i k : ℕ)
    → slot_there plan.slots world.class i k ≡ option_map (slot_of doc) (node_in doc i k)
slot_there_is doc plan world c i k =
    (λ j. option_and_then (λ (s : Slot). cond (is_number s.class (classes_are doc plan world c i j))
    (Some s) None) (slots_are doc plan world c k j))
    ∙ slot_by doc (class_of_inst doc i) (node_at doc k)

-- ---- cells

kept_by : (doc : Doc) (n : Node) → is_kept (cell_of doc n) ≡ is_cell_node doc n
kept_by doc n = by_parts (scope_of doc n) (is_producer doc n)
  where
    by_parts : (o : Option Bytes) (b : Bool) → is_kept (option_map_or (λ scope. cell.Scoped) o
        (elim b [ true ↦ cell.Producing | false ↦ cell.Plain ])) ≡ (is_some o || b)
    by_parts None true = refl
    by_parts None false = refl
    by_parts (Some s) b = refl

pub is_cell_there : (doc : Doc) (plan : Plan) (world : World) → IsContextOf doc plan world
    → (k : ℕ)
    → is_kept_at plan.slots k ≡ is_cell doc k
unfolding is_cell
is_cell_there doc plan world c k =
    ap (λ (o : Option Slot). option_map_or (λ s. is_kept s.cell) o false)
    (slots_are doc plan world c k) ∙ by_node (node_at doc k)
  where
    by_node : (o : Option Node) → option_map_or (λ (s : Slot). is_kept s.cell)
        (option_map (slot_of doc) o) false ≡ option_map_or (is_cell_node doc) o false
    by_node None = refl
    by_node (Some n) = kept_by doc n

-- ---- bound arguments

enumerated_at : {A B : Type 0} (f : (ℕ × A) → B) (m : ℕ) (xs : List A) (i : ℕ)
    → slice_get (map f (enumerate_from m xs)) i ≡ option_map (λ x. f (m + i, x)) (slice_get xs i)
enumerated_at f m [] i = refl
enumerated_at f m (x ∷ xs) zero =
    let e : m ≡ m + 0 = omega arith in ap (λ (k : ℕ). Some (f (k, x))) e
enumerated_at f m (x ∷ xs) (suc i) =
    let e : m + 1 + i ≡ m + suc i = omega arith in
    enumerated_at f (m + 1) xs i
    ∙ ap (λ (k : ℕ). option_map (λ x. f (k, x)) (slice_get xs i)) e

pub first_enumerated : {A B : Type 0} (f : (ℕ × A) → B) (xs : List A) (i : ℕ)
    → slice_get (map f (enumerate_from 0 xs)) i ≡ option_map (λ x. f (i, x)) (slice_get xs i)
first_enumerated f xs i =
    let e : 0 + i ≡ i = omega arith in
    enumerated_at f 0 xs i ∙ ap (λ (k : ℕ). option_map (λ x. f (k, x)) (slice_get xs i)) e

bound_by : (i a : ℕ) (o : Option Inst)
    → option_and_then (λ (vs : List Value). slice_get vs a) (option_map (bound_values i) o)
    ≡ option_map (λ (e : NExpr). (constant e).value (at_root (root.Arg i a)) 0)
    (option_and_then (λ (x : Inst). slice_get x.bound a) o)
bound_by i a None = refl
bound_by i a (Some x) =
    first_enumerated (λ (p : ℕ × NExpr). (constant p.1).value (at_root (root.Arg i p.0)) 0) x.bound a

pub bound_there : (doc : Doc) (plan : Plan) (world : World) → IsContextOf doc plan world
    → (i a : ℕ)
    → value_at world.bound i a ≡ bound_value doc i a
unfolding world_of bound_value
bound_there doc plan world c i a =
    ap (λ (w : World). value_at w.bound i a) c.of_world
    ∙ ap (option_and_then (λ (vs : List Value). slice_get vs a))
    (first_enumerated (λ (p : ℕ × Inst). bound_values p.0 p.1) (insts_of doc) i)
    ∙ bound_by i a (inst_at doc i)

-- ---- parents

pub no_walk : (next : ℕ → Option ℕ) (steps : ℕ) → walk next steps None ≡ []
no_walk next zero = refl
no_walk next (suc steps) = refl

-- a walk of so many steps has at most as many members
pub within_walk : (next : ℕ → Option ℕ) (steps : ℕ) (o : Option ℕ) (m x : ℕ)
    → slice_get (walk next steps o) m ≡ Some x → m < steps
within_walk next zero o m x e = absurd (none-some x e)
within_walk next (suc steps) None m x e = absurd (none-some x e)
within_walk next (suc steps) (Some i) zero x e = omega arith
within_walk next (suc steps) (Some i) (suc m) x e =
    let lt : m < steps = within_walk next steps (next i) m x e in omega arith

-- a walk that goes on from its member of this number
abbrev pub GoesOn : (ℕ → Option ℕ) → ℕ → ℕ → Option ℕ → Type 0
GoesOn next inst k o =
    (steps m : ℕ) → slice_get (walk next (k + steps) (Some inst)) (k + m)
    ≡ slice_get (walk next steps o) m

pub goes_first : (next : ℕ → Option ℕ) (inst : ℕ) → GoesOn next inst 0 (Some inst)
goes_first next inst steps m =
    let a : 0 + steps ≡ steps = omega arith in
    let b : 0 + m ≡ m = omega arith in
    λ i. slice_get (walk next (a i) (Some inst)) (b i)

pub goes_on : (next : ℕ → Option ℕ) (inst k at : ℕ) (o : Option ℕ) → GoesOn next inst k (Some at)
    → o ≡ next at → GoesOn next inst (k + 1) o
goes_on next inst k at o e is steps m =
    let a : k + 1 + steps ≡ k + suc steps = omega arith in
    let b : k + 1 + m ≡ k + suc m = omega arith in
    (λ i. slice_get (walk next (a i) (Some inst)) (b i)) ∙ e (suc steps) (suc m)
    ∙ sym (ap (λ o. slice_get (walk next steps o) m) is)

-- the member at which it goes on
pub goes_to : (next : ℕ → Option ℕ) (inst k at : ℕ) → GoesOn next inst k (Some at) → (steps : ℕ)
    → k < steps → Some at ≡ slice_get (walk next steps (Some inst)) k
goes_to next inst k at e steps lt =
    let a : k + suc (steps - suc k) ≡ steps = omega arith in
    let b : k + 0 ≡ k = omega arith in
    sym (e (suc (steps - suc k)) 0) ∙ (λ i. slice_get (walk next (a i) (Some inst)) (b i))

-- a walk that has ended has no later member
pub goes_nowhere : (next : ℕ → Option ℕ) (inst k level : ℕ) → GoesOn next inst k None
    → k ≤ level → (steps : ℕ) → level < steps
    → None ≡ slice_get (walk next steps (Some inst)) level
goes_nowhere next inst k level e le steps lt =
    let a : k + (steps - k) ≡ steps = omega arith in
    let b : k + (level - k) ≡ level = omega arith in
    sym (ap (λ (xs : List ℕ). slice_get xs (level - k)) (no_walk next (steps - k)))
    ∙ sym (e (steps - k) (level - k)) ∙ (λ i. slice_get (walk next (a i) (Some inst)) (b i))

parent_by : (o : Option Inst)
    → option_and_then (λ (p : Option ℕ). p) (option_map (λ (x : Inst). x.parent) o)
    ≡ option_and_then (λ (x : Inst). x.parent) o
parent_by None = refl
parent_by (Some x) = refl

parents_are : (doc : Doc) (plan : Plan) (world : World) → IsContextOf doc plan world → (i : ℕ)
    → parent_at world.parent i ≡ parent_of_inst doc i
unfolding world_of
parents_are doc plan world c i =
    ap (λ (w : World). parent_at w.parent i) c.of_world
    ∙ ap (option_and_then (λ (p : Option ℕ). p))
    (slice_get-map (λ (x : Inst). x.parent) (insts_of doc) i)
    ∙ parent_by (inst_at doc i)

links_are : (doc : Doc) (plan : Plan) (world : World) → IsContextOf doc plan world
    → world.deps ≡ links_of doc
unfolding world_of
links_are doc plan world c = ap (λ (w : World). w.deps) c.of_world

counted_is : (doc : Doc) (plan : Plan) (world : World) → IsContextOf doc plan world → (i : ℕ)
    → (x : Input) → counted_at world.deps i x.dep ≡ counted_from doc i x
unfolding link
counted_is doc plan world c i x =
    ap (λ (l : List (List ℕ)). counted_at l i x.dep) (links_are doc plan world c)

-- from where an input's levels are counted, and how many parents up it leads
pub record Leads (world : World) (i : ℕ) (x : Input) (o : ℕ) : Type 0 where
  pub from : ℕ
  pub is_from : counted_at world.deps i x.dep ≡ Some from
  pub steps : ℕ
  pub within : x.level < steps
  pub is_there : slice_get (walk (parent_at world.parent) steps (Some from)) x.level ≡ Some o

pub leads_there : (doc : Doc) (plan : Plan) (world : World) → IsContextOf doc plan world
    → (i : ℕ) (x : Input) (o : ℕ) → inst_led doc i x ≡ Some o → Leads world i x o
unfolding chain_of_inst
leads_there doc plan world c i x o e =
    let f = out_and_then (λ (j : ℕ). slice_get (chain_of_inst doc j) x.level)
    (counted_from doc i x) o e in
    record {
      from = f.0;
      is_from = counted_is doc plan world c i x ∙ f.1;
      steps = length (insts_of doc);
      within = within_walk (parent_of_inst doc) (length (insts_of doc)) (Some f.0) x.level o f.2;
      is_there = (λ j. slice_get (walk (λ (y : ℕ). parents_are doc plan world c y j)
          (length (insts_of doc)) (Some f.0)) x.level) ∙ f.2;
    }

-- where the input of a dependency leads
pub record FindsTarget (doc : Doc) (world : World) (i : ℕ) (n : Node) (d : Dependency) (x : Input)
    : Type 0 where
  pub inst : ℕ
  pub leads : Leads world i x inst
  pub is_target : target_of doc i n d ≡ Some (record { inst = inst; slot = x.slot })
  pub found : Node
  pub is_found : node_in doc inst x.slot ≡ Some found

pub in_its_class : (doc : Doc) (i k : ℕ) (n : Node) → class_of_inst doc i ≡ Some n.class
    → node_at doc k ≡ Some n → node_in doc i k ≡ Some n
in_its_class doc i k n class is =
    (λ j. option_and_then (λ (m : Node). cond (is_number m.class (class j)) (Some m) None) (is j))
    ∙ ap (λ (b : Bool). cond b (Some n) None) (eq-eqb n.class n.class refl)

in_class : (o : Option ℕ) (x : Option Node) (n : Node)
    → option_and_then (λ (m : Node). cond (is_number m.class o) (Some m) None) x ≡ Some n
    → (x ≡ Some n) × (o ≡ Some n.class)
in_class o None n e = absurd (none-some n e)
in_class None (Some m) n e = absurd (none-some n e)
in_class (Some c) (Some m) n e = by_test (c == m.class) refl e
  where
    by_test : (b : Bool) → (c == m.class) ≡ b → cond b (Some m) None ≡ Some n
        → (Some m ≡ Some n) × (Some c ≡ Some n.class)
    by_test true same e =
        (e, ap Some (eqb-true c m.class same ∙ ap (λ (x : Node). x.class) (same_Some m n e)))
    by_test false same e = absurd (none-some n e)

-- a node that is evaluated in an instance is the node of its number, and of the instance's class
pub in_class_is : (doc : Doc) (i k : ℕ) (n : Node) → node_in doc i k ≡ Some n
    → (node_at doc k ≡ Some n) × (class_of_inst doc i ≡ Some n.class)
in_class_is doc i k n e = in_class (class_of_inst doc i) (node_at doc k) n e

pub finds_target : (doc : Doc) (plan : Plan) (world : World) → IsContextOf doc plan world
    → (i k m : ℕ) (n : Node) (d : Dependency) (x : Input) → IsInputFor doc i k m n d x
    → FindsTarget doc world i n d x
finds_target doc plan world c i k m n d x asks =
    let is = in_class_is doc i k n asks.is_node in
    let w = inputs_are_look_ups doc c.accepted i k m n d (record {
      is_node = is.0;
      class = is.1;
      is_dependency = asks.is_dependency;
    }) in
    let same : w.input ≡ x = same_Some w.input x (sym w.is_input ∙ asks.is_input) in
    record {
      inst = w.inst;
      leads = leads_there doc plan world c i x w.inst
          (sym (ap (inst_led doc i) same) ∙ w.is_inst);
      is_target = w.same
          ∙ ap (λ (y : Input). Some (record { inst = w.inst; slot = y.slot })) same;
      found = w.found;
      is_found = in_its_class doc w.inst x.slot w.found w.class
          (sym (ap (λ (y : Input). node_at doc y.slot) same) ∙ w.is_slot);
    }

-- what is found there is where the dependency leads
pub target_there : (doc : Doc) (world : World) (i : ℕ) (n : Node) (d : Dependency) (x : Input)
    → FindsTarget doc world i n d x → (from : ℕ) (o : Option ℕ)
    → counted_at world.deps i x.dep ≡ Some from
    → ((steps : ℕ) → x.level < steps
    → o ≡ slice_get (walk (parent_at world.parent) steps (Some from)) x.level)
    → (inst : ℕ) × (o ≡ Some inst)
    × (target_of doc i n d ≡ Some (record { inst = inst; slot = x.slot }))
target_there doc world i n d x f from o is up =
    let same : from ≡ f.leads.from = same_Some from f.leads.from (sym is ∙ f.leads.is_from) in (
      f.inst,
      up f.leads.steps f.leads.within
          ∙ ap (λ (j : ℕ). slice_get (walk (parent_at world.parent) f.leads.steps (Some j))
          x.level) same ∙ f.leads.is_there,
      f.is_target,
    )

-- an input has an instance from which its levels are counted
pub target_from : (doc : Doc) (world : World) (i : ℕ) (n : Node) (d : Dependency) (x : Input)
    → FindsTarget doc world i n d x → counted_at world.deps i x.dep ≡ None → ⊥
target_from doc world i n d x f is = none-some f.leads.from (sym is ∙ f.leads.is_from)

-- and there is the instance so many parents up
pub target_up : (doc : Doc) (world : World) (i : ℕ) (n : Node) (d : Dependency) (x : Input)
    → FindsTarget doc world i n d x → (from : ℕ) (o : Option ℕ)
    → counted_at world.deps i x.dep ≡ Some from
    → ((steps : ℕ) → x.level < steps
    → o ≡ slice_get (walk (parent_at world.parent) steps (Some from)) x.level) → o ≡ None → ⊥
target_up doc world i n d x f from o is up e =
    let t = target_there doc world i n d x f from o is up in none-some t.0 (sym e ∙ t.1)

-- and that is where the dependency leads
pub target_is_there : (doc : Doc) (world : World) (i : ℕ) (n : Node) (d : Dependency) (x : Input)
    → FindsTarget doc world i n d x → (from inst : ℕ) (o : Option ℕ)
    → counted_at world.deps i x.dep ≡ Some from
    → ((steps : ℕ) → x.level < steps
    → o ≡ slice_get (walk (parent_at world.parent) steps (Some from)) x.level) → o ≡ Some inst
    → Some (record { inst = inst; slot = x.slot }) ≡ target_of doc i n d
target_is_there doc world i n d x f from inst o is up e =
    let t = target_there doc world i n d x f from o is up in
    ap (λ (j : ℕ). Some (record { inst = j; slot = x.slot })) (same_Some inst t.0 (sym e ∙ t.1))
    ∙ sym t.2
