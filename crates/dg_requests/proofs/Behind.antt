-- The producer behind a slot, one step after another.
use Rattle.std.proofs.Common.{◌≡◌, ◌≢◌, ◌<◌, ℕ, zero, suc, ◌-◌, Bool, true, false, cond, not, ◌||◌, List, [], slice_get, Contains, Option, Some, None, option_map, option_and_then, refl, sym, ap, subst, ◌∙◌, arith}
use Rattle.std.specs.Option.{option_map_or}
use Rattle.std.proofs.lemmas.Bool.{false≢true}
use Rattle.std.proofs.lemmas.Option.{none-some, same_Some}
use Rattle.dg_types.specs.declared.key.Mode.{Mode}
use Rattle.dg_decl.specs.declared.document.Doc.{Doc}
use Rattle.dg_decl.specs.declared.graph.Node.{Node}
use Rattle.dg_decl.specs.declared.graph.NodeKind.{NodeKind}
use Rattle.dg_decl.specs.declared.graph.NodeKind.TheVariants as node
use Rattle.dg_decl.specs.Diagnostics.{IsAccepted}
use Rattle.dg_decl.specs.Graph.{Dependency, deps, target, node_of, nodes, number_of}
use Rattle.dg_decl.specs.Sizes.{is_entry, is_producer, is_production}
use Rattle.dg_decl.proofs.MemberLemmas.{in_front, in_got, out_option_map, out_and_then}
use Rattle.dg_slots.specs.declared.plan.Input.{Input}
use Rattle.dg_slots.specs.declared.plan.Plan.{Plan}
use Rattle.dg_slots.specs.declared.plan.Slot.{Slot}
use Rattle.dg_slots.specs.Plans.{body_of_node, cell_of, input_of, inputs_of, slot_of}
use Rattle.dg_eval.specs.declared.world.World.{World}
use Rattle.dg_eval.specs.Runs.{gives, mistyped}
use Rattle.dg_eval.specs.Meaning.{node_at, node_in, Target as Look, target_of, is_instance, first_target, producer_from}
use Rattle.dg_eval.proofs.AcceptedDepth.{stages_of_accepted, accepted_shallow}
use Rattle.dg_eval.proofs.InputLemmas.{each_given}
use Rattle.dg_eval.proofs.InputLists.{given_at}
use Rattle.dg_eval.proofs.TargetLemmas.{target_is, first_shallow}
use Rattle.dg_requests.specs.declared.context.Target.{Target}
use Rattle.dg_requests.specs.Contexts.{IsContextOf, IsInputFor, as_look, is_kept, is_producing, gives_first_param, as_instance, passed_by, IsBound, WalksAreShort, IsProducerOf, IsBehind}
use Rattle.dg_requests.proofs.ContextLemmas.{finds_target, in_class_is}
use Rattle.dg_requests.proofs.NodeKinds.{node_fits}
use Rattle.dg_requests.proofs.Productions.{producer_is}
use Rattle.dg_requests.proofs.Passing.{is_never, producing_cell, no_producer, takes_none, TakesOne, takes_one}

-- ---- the input that a slot passes on

if_some : {A : Type 0} (b : Bool) (x y : A) → cond b (Some x) None ≡ Some y → (b ≡ true) × (x ≡ y)
if_some true x y e = (refl, same_Some x y e)
if_some false x y e = absurd (none-some y e)

passed_parts : (k g : Bool) (o : Option Input) (x : Input)
    → cond (k || not g) None (option_and_then as_instance o) ≡ Some x
    → (k ≡ false) × (g ≡ true) × (o ≡ Some x) × (is_instance x.mode ≡ true)
passed_parts true g o x e = absurd (none-some x e)
passed_parts false false o x e = absurd (none-some x e)
passed_parts false true o x e =
    let w = out_and_then as_instance o x e in
    let two = if_some (is_instance w.0.mode) w.0 x w.2 in
    (refl, refl, w.1 ∙ ap Some two.1, ap (λ (x : Input). is_instance x.mode) (sym two.1) ∙ two.0)

pub input_mode : (doc : Doc) (n : Node) (d : Dependency) (x : Input) → input_of doc n d ≡ Some x
    → x.mode ≡ d.mode
input_mode doc n d x e =
    let t = out_and_then _ (target d) x e in
    let k = out_option_map _ (number_of (nodes doc) t.0) x t.2 in
    sym (ap (λ (x : Input). x.mode) k.2)

-- a slot passes an input on, which is that of its node's first dependency
record PassesOn (doc : Doc) (n : Node) (x : Input) : Type 0 where
  plain : is_kept (cell_of doc n) ≡ false
  body : gives_first_param (body_of_node doc n) ≡ true
  first : slice_get (inputs_of doc n) 0 ≡ Some x
  only : Dependency
  is_first : slice_get (deps doc n) 0 ≡ Some only
  mode : is_instance only.mode ≡ true

passes_on : (doc : Doc) → IsAccepted doc → (n : Node) → Contains (nodes doc) n → (x : Input)
    → passed_by (slot_of doc n) ≡ Some x → PassesOn doc n x
passes_on doc accepted n among x e =
    let w = passed_parts (is_kept (cell_of doc n)) (gives_first_param (body_of_node doc n))
    (slice_get (inputs_of doc n) 0) x e in
    let at : option_and_then (input_of doc n) (slice_get (deps doc n) 0) ≡ Some x =
    sym (given_at (input_of doc n) (deps doc n) 0
    (each_given doc (stages_of_accepted doc accepted).bindings n among)) ∙ w.2 in
    let d = out_and_then (input_of doc n) (slice_get (deps doc n) 0) x at in
    record {
      plain = w.0;
      body = w.1;
      first = w.2;
      only = d.0;
      is_first = d.1;
      mode = ap is_instance (sym (input_mode doc n d.0 x d.2)) ∙ w.3;
    }

-- what takes from one production passes its input on
passes_some : (doc : Doc) → IsAccepted doc → (n : Node) → Contains (nodes doc) n → TakesOne doc n
    → (x : Input) × (passed_by (slot_of doc n) ≡ Some x)
passes_some doc accepted n among t =
    let each = each_given doc (stages_of_accepted doc accepted).bindings n among in
    let P : List Dependency → Type 0 = λ ds. Contains ds t.one.only in
    let x = each t.one.only (subst P (sym t.one.are) (in_front t.one.only [])) in
    let first : slice_get (inputs_of doc n) 0 ≡ Some x.0 =
    given_at (input_of doc n) (deps doc n) 0 each
    ∙ ap (λ (ds : List Dependency). option_and_then (input_of doc n) (slice_get ds 0)) t.one.are
    ∙ x.1 in
    let given : as_instance x.0 ≡ Some x.0 =
    ap (λ (m : Mode). cond (is_instance m) (Some x.0) None)
    (input_mode doc n t.one.only x.0 x.1 ∙ t.one.mode) in (
      x.0,
      ap (λ (k : Bool). cond (k || not (gives_first_param (body_of_node doc n))) None
          (option_and_then as_instance (slice_get (inputs_of doc n) 0))) t.plain
          ∙ ap (λ (g : Bool). cond (not g) None
          (option_and_then as_instance (slice_get (inputs_of doc n) 0))) t.body
          ∙ ap (option_and_then as_instance) first ∙ given,
    )

-- ---- whether there is a production

one_of_kind : (doc : Doc) → IsAccepted doc → (class : ℕ) (kind : NodeKind) → IsBound kind
    → Contains (nodes doc) (node_of class kind) → is_producer doc (node_of class kind) ≡ false
    → is_production doc (node_of class kind) ≡ true → TakesOne doc (node_of class kind)
one_of_kind doc accepted class (node.Bound b) bound among not_one is =
    takes_one doc accepted class b among not_one is
one_of_kind doc accepted class other bound among not_one is = absurd bound

-- the next node is a production where this one is, and then it is bound
record NextIs (doc : Doc) (n next : Node) : Type 0 where
  same : is_production doc n ≡ is_production doc next
  bound : is_production doc next ≡ true → IsBound next.kind

next_is : (doc : Doc) → IsAccepted doc → (n next : Node) (x : Input) → Contains (nodes doc) n
    → (p : PassesOn doc n x) → target p.only ≡ Some next → is_producer doc n ≡ false
    → (is_production doc n ≡ true → IsBound n.kind) → NextIs doc n next
next_is doc accepted n next x among p to not_one may = by_test (is_production doc n) refl
  where
    by_test : (b : Bool) → is_production doc n ≡ b → NextIs doc n next
    by_test true is =
        let t = one_of_kind doc accepted n.class n.kind (may is) among not_one is in
        let same : p.only ≡ t.one.only = same_Some p.only t.one.only
        (sym p.is_first ∙ ap (λ (ds : List Dependency). slice_get ds 0) t.one.are) in
        let found : t.to ≡ next = same_Some t.to next (sym t.is_target ∙ sym (ap target same) ∙ to)
        in
        record {
          same = is ∙ sym (sym (ap (is_production doc) found) ∙ t.production);
          bound = λ h. subst (λ (m : Node). IsBound m.kind) found t.bound;
        }
    by_test false is =
        let none : is_production doc next ≡ false =
        takes_none doc accepted n.class n.kind p.only next (node_fits doc n among) among
        (in_got (deps doc n) 0 p.only p.is_first) to is p.plain p.body in
        record {
          same = is ∙ sym none;
          bound = λ h. absurd (false≢true (sym none ∙ h));
        }

-- ---- where there is no step

pub behind_here : (doc : Doc) (n : Node) (t : Target) → Contains (nodes doc) n
    → node_at doc t.slot ≡ Some n → is_producing (cell_of doc n) ≡ true
    → IsBehind doc t.inst t.slot n (Some t)
behind_here doc n t among is producing =
    let producer = producing_cell doc n producing in
    record {
      none = λ h. absurd (false≢true (sym h ∙ producer_is doc n among producer));
      some = λ h. (t, refl, λ times there. at_times times there);
    }
  where
    at_times : (times : ℕ) → producer_from doc times t.inst t.slot ≢ None
        → producer_from doc times t.inst t.slot ≡ gives (as_look t)
    at_times zero there = absurd (there refl)
    at_times (suc times) there =
        ap (λ (o : Option Node). option_map_or (λ (n : Node). cond (is_producer doc n)
        (gives (as_look t)) (option_map_or (λ (l : Look). producer_from doc times l.inst l.slot)
        (first_target doc t.inst n) mistyped)) o mistyped) is
        ∙ ap (λ (b : Bool). cond b (gives (as_look t))
        (option_map_or (λ (l : Look). producer_from doc times l.inst l.slot)
        (first_target doc t.inst n) mistyped)) (producing_cell doc n producing)

pub behind_none : (doc : Doc) → IsAccepted doc → (i k : ℕ) (n : Node) → Contains (nodes doc) n
    → is_producing (cell_of doc n) ≡ false → passed_by (slot_of doc n) ≡ None
    → (is_production doc n ≡ true → IsBound n.kind) → IsBehind doc i k n None
behind_none doc accepted i k n among not_one none may =
    let never : is_production doc n ≡ false =
    is_never (is_production doc n) (λ is. (let x = passes_some doc accepted n among
    (one_of_kind doc accepted n.class n.kind (may is) among (no_producer doc n not_one) is) in
    none-some x.0 (sym none ∙ x.1))) in
    record {
      none = λ h. refl;
      some = λ h. absurd (false≢true (sym never ∙ h));
    }

-- ---- one step

-- the next slot, and what it has to do with this one
pub record Step (doc : Doc) (i k steps : ℕ) (n : Node) (t : Target) : Type 0 where
  pub next : Node
  pub is_next : node_in doc t.inst t.slot ≡ Some next
  pub short : WalksAreShort doc (steps - 1) next
  pub may : is_production doc next ≡ true → IsBound next.kind
  pub behind : (o : Option Target) → IsBehind doc t.inst t.slot next o → IsBehind doc i k n o

step_from : (doc : Doc) (i k : ℕ) (n : Node) (t : Target) → node_at doc k ≡ Some n
    → is_producer doc n ≡ false → first_target doc i n ≡ Some (as_look t) → (times : ℕ)
    → producer_from doc (suc times) i k ≡ producer_from doc times t.inst t.slot
step_from doc i k n t is not_one first times =
    ap (λ (o : Option Node). option_map_or (λ (n : Node). cond (is_producer doc n)
    (gives (record { inst = i; slot = k }))
    (option_map_or (λ (l : Look). producer_from doc times l.inst l.slot)
    (first_target doc i n) mistyped)) o mistyped) is
    ∙ ap (λ (b : Bool). cond b (gives (record { inst = i; slot = k }))
    (option_map_or (λ (l : Look). producer_from doc times l.inst l.slot)
    (first_target doc i n) mistyped)) not_one
    ∙ ap (λ (o : Option Look). option_map_or (λ (l : Look). producer_from doc times l.inst l.slot) o
    mistyped) first

step_behind : (doc : Doc) (i k : ℕ) (n next : Node) (t : Target) → node_at doc k ≡ Some n
    → is_producer doc n ≡ false → first_target doc i n ≡ Some (as_look t)
    → is_production doc n ≡ is_production doc next → (o : Option Target)
    → IsBehind doc t.inst t.slot next o → IsBehind doc i k n o
step_behind doc i k n next t is not_one first same o b = record {
  none = λ h. b.none (sym same ∙ h);
  some = λ h. (let w = b.some (sym same ∙ h) in (
    w.0,
    w.1,
    λ times there. at_times w.0 w.2 times
        there,
  ));
}
  where
    at_times : (u : Target) → IsProducerOf doc t.inst t.slot u → (times : ℕ)
        → producer_from doc times i k ≢ None → producer_from doc times i k ≡ gives (as_look u)
    at_times u is_of zero there = absurd (there refl)
    at_times u is_of (suc times) there =
        let e = step_from doc i k n t is not_one first times in
        e ∙ is_of times (λ none. there (e ∙ none))

first_is : (doc : Doc) (i : ℕ) (n : Node) (d : Dependency) (l : Look)
    → slice_get (deps doc n) 0 ≡ Some d → is_instance d.mode ≡ true → target_of doc i n d ≡ Some l
    → first_target doc i n ≡ Some l
first_is doc i n d l is instance to =
    ap (option_and_then (λ (d : Dependency). cond (is_instance d.mode) (target_of doc i n d) None))
    is ∙ ap (λ (b : Bool). cond b (target_of doc i n d) None) instance ∙ to

-- a slot that passes an input on has a first dependency, to which the input belongs
pub input_for : (doc : Doc) → IsAccepted doc → (i k : ℕ) (n : Node) (x : Input)
    → node_in doc i k ≡ Some n → passed_by (slot_of doc n) ≡ Some x
    → (d : Dependency) × IsInputFor doc i k 0 n d x
input_for doc accepted i k n x is e =
    let p = passes_on doc accepted n (in_got (nodes doc) k n (in_class_is doc i k n is).0) x e in
    (p.only, record { is_node = is; is_dependency = p.is_first; is_input = p.first })

pub step_is : (doc : Doc) (plan : Plan) (world : World) → IsContextOf doc plan world
    → (i k steps : ℕ) (n : Node) (x : Input) (t : Target) → node_in doc i k ≡ Some n
    → is_producing (cell_of doc n) ≡ false → 0 < steps → WalksAreShort doc steps n
    → (is_production doc n ≡ true → IsBound n.kind) → passed_by (slot_of doc n) ≡ Some x
    → ((m : ℕ) (d : Dependency) → IsInputFor doc i k m n d x
    → Some (as_look t) ≡ target_of doc i n d) → Step doc i k steps n t
step_is doc plan world of i k steps n x t is not_one some short may e leads =
    let at = (in_class_is doc i k n is).0 in
    let among = in_got (nodes doc) k n at in
    let p = passes_on doc of.accepted n among x e in
    let asks : IsInputFor doc i k 0 n p.only x =
    record { is_node = is; is_dependency = p.is_first; is_input = p.first } in
    let to : target_of doc i n p.only ≡ Some (as_look t) = sym (leads 0 p.only asks) in
    let f = finds_target doc plan world of i k 0 n p.only x asks in
    let here : as_look t ≡ record { inst = f.inst; slot = x.slot } =
    same_Some (as_look t) (record { inst = f.inst; slot = x.slot }) (sym to ∙ f.is_target) in
    let there : node_in doc t.inst t.slot ≡ Some f.found =
    ap (λ (l : Look). node_in doc l.inst l.slot) here ∙ f.is_found in
    let number = (in_class_is doc t.inst t.slot f.found there).0 in
    let first = first_is doc i n p.only (as_look t) p.is_first p.mode to in
    let found = target_is doc i n p.only (as_look t) to in
    let same : found.0 ≡ f.found = same_Some found.0 f.found (sym found.2 ∙ number) in
    let not_producer = no_producer doc n not_one in
    let next = next_is doc of.accepted n f.found x among p (found.1 ∙ ap Some same) not_producer may
    in
    let count : steps ≡ suc (steps - 1) = omega arith in
    let less = first_shallow doc (steps - 1) i n (as_look t)
    (subst (λ (s : ℕ). WalksAreShort doc s n) count short) first in
    let one : less.0 ≡ f.found = same_Some less.0 f.found (sym less.1 ∙ number) in
    record {
      next = f.found;
      is_next = there;
      short = subst (λ (m : Node). WalksAreShort doc (steps - 1) m) one less.2;
      may = next.bound;
      behind = step_behind doc i k n f.found t at not_producer first next.same;
    }

-- no walk from a slot that is no entry has more than 128 nodes
pub no_entry_short : (doc : Doc) → IsAccepted doc → (i k : ℕ) (n : Node) → node_in doc i k ≡ Some n
    → is_entry n ≡ false → WalksAreShort doc 128 n
no_entry_short doc accepted i k n is no_entry =
    accepted_shallow doc (stages_of_accepted doc accepted) n
    (in_got (nodes doc) k n (in_class_is doc i k n is).0) no_entry

-- ---- what the code sees

pub positive : (n : ℕ) → n ≢ 0 → 0 < n
positive zero h = absurd (h refl)
positive (suc n) h = omega arith

-- the slot of a node
pub slot_is : (doc : Doc) (n : Node) (s : Slot) (o : Option Node)
    → Some s ≡ option_map (slot_of doc) o → o ≡ Some n → s ≡ slot_of doc n
slot_is doc n s o e is = same_Some s (slot_of doc n) (e ∙ ap (option_map (slot_of doc)) is)

pub cell_is : (doc : Doc) (n : Node) (s : Slot) (b : Bool) → s ≡ slot_of doc n
    → b ≡ is_producing s.cell → is_producing (cell_of doc n) ≡ b
cell_is doc n s b same e = sym (ap (λ (s : Slot). is_producing s.cell) same) ∙ sym e

pub passed_is : (doc : Doc) (n : Node) (s : Slot) (o : Option Input) → s ≡ slot_of doc n
    → o ≡ passed_by s → passed_by (slot_of doc n) ≡ o
passed_is doc n s o same e = sym (ap passed_by same) ∙ sym e

pub no_steps : {A : Type 0} (doc : Doc) (n : Node) (steps : ℕ) → WalksAreShort doc steps n
    → steps ≡ 0 → A
no_steps doc n steps short e = (let lt : 0 < steps = short 0 n refl in absurd (omega (arith, lt, e)))
