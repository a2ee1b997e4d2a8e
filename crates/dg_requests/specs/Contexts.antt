-- What the plan and the world of a document are, and what is looked up in them.
use Rattle.std.specs.Prelude.{◌≡◌, ◌≢◌, ◌<◌, ℕ, ◌==◌, Bool, true, false, not, ◌||◌, if◌then◌else◌, List, Option, Some, None, option_and_then, slice_get}
use Rattle.std.specs.Option.{option_map_or}
use Rattle.dg_decl.specs.declared.document.Doc.{Doc}
use Rattle.dg_num.specs.Walks.{Walk}
use Rattle.dg_decl.specs.declared.graph.Node.{Node}
use Rattle.dg_decl.specs.declared.graph.NodeKind.{NodeKind}
use Rattle.dg_decl.specs.declared.graph.NodeKind.TheVariants as node
use Rattle.dg_decl.specs.Diagnostics.{IsAccepted}
use Rattle.dg_decl.specs.Graph.{Dependency, deps, needed_targets}
use Rattle.dg_decl.specs.Sizes.{is_entry, is_production}
use Rattle.dg_decl.specs.Components.{is_number}
use Rattle.dg_slots.specs.declared.body.NExpr.{NExpr, out-NExpr}
use Rattle.dg_slots.specs.declared.body.NCond.{NCond}
use Rattle.dg_slots.specs.declared.body.NCond.TheOpen.{NExpr-F}
use Rattle.dg_slots.specs.declared.body.NTree.{NTree, out-NTree}
use Rattle.dg_slots.specs.declared.body.NTree.TheOpen.{NTree-F}
use Rattle.dg_slots.specs.declared.plan.Body.{Body}
use Rattle.dg_slots.specs.declared.plan.Body.TheVariants as body
use Rattle.dg_slots.specs.declared.plan.CellKind.{CellKind}
use Rattle.dg_slots.specs.declared.plan.CellKind.TheVariants as cell
use Rattle.dg_slots.specs.declared.plan.Input.{Input}
use Rattle.dg_slots.specs.declared.plan.Plan.{Plan}
use Rattle.dg_slots.specs.declared.plan.Slot.{Slot}
use Rattle.dg_slots.specs.Plans.{inputs_of, plan_of}
use Rattle.dg_value.specs.declared.place.PlaceStep.{PlaceStep}
use Rattle.dg_value.specs.declared.place.PlaceStep.TheVariants as step
use Rattle.dg_value.specs.declared.value.Kept.TheOpen.{Value-F}
use Rattle.dg_value.specs.declared.value.Value.{Value, out-Value}
use Rattle.dg_eval.specs.declared.world.World.{World}
use Rattle.dg_eval.specs.Runs.{gives}
use Rattle.dg_eval.specs.World.{world_of}
use Rattle.dg_eval.specs.Meaning.{Target as Look, node_in, is_instance, producer_from}
use Rattle.dg_requests.specs.declared.context.Target.{Target}

-- a plan and a world are those of an accepted document
pub record IsContextOf (doc : Doc) (plan : Plan) (world : World) : Type 0 where
  pub accepted : IsAccepted doc
  pub of_plan : plan ≡ plan_of doc
  pub of_world : world ≡ world_of doc

-- an input is that of a dependency of a node, in an instance of the node's class
pub record IsInputFor (doc : Doc) (i k m : ℕ) (n : Node) (d : Dependency) (x : Input)
    : Type 0 where
  pub is_node : node_in doc i k ≡ Some n
  pub is_dependency : slice_get (deps doc n) m ≡ Some d
  pub is_input : slice_get (inputs_of doc n) m ≡ Some x

-- where a look-up leads, as the definitions have it
abbrev pub as_look : Target → Look
as_look t = record { inst = t.inst; slot = t.slot }

-- ---- by lists

-- a slot, where it is one of this class
abbrev pub of_class : Option ℕ → Slot → Option Slot
of_class class s = if is_number s.class class then Some s else None

-- the slot of a number, where the instance of a number is one of its class
abbrev pub slot_there : List Slot → List ℕ → ℕ → ℕ → Option Slot
slot_there slots classes i k = option_and_then (of_class (slice_get classes i)) (slice_get slots k)

abbrev pub is_kept : CellKind → Bool
is_kept cell.Plain = false
is_kept other = true

-- the slot of a number keeps its value
abbrev pub is_kept_at : List Slot → ℕ → Bool
is_kept_at slots k = option_map_or (λ s. is_kept s.cell) (slice_get slots k) false

-- the value of this index, of the list of this number
abbrev pub value_at : List (List Value) → ℕ → ℕ → Option Value
value_at lists i a = option_and_then (λ vs. slice_get vs a) (slice_get lists i)

-- the parent of an instance
abbrev pub parent_at : List (Option ℕ) → ℕ → Option ℕ
parent_at parents i = option_and_then (λ p. p) (slice_get parents i)

-- the instance from which the levels of an input are counted
abbrev pub counted_at : List (List ℕ) → ℕ → Option ℕ → Option ℕ
counted_at tied i dep =
    option_map_or (λ m. option_and_then (λ insts. slice_get insts m) (slice_get tied i)) dep
    (Some i)

-- ---- what slots pass on

abbrev pub is_producing : CellKind → Bool
is_producing cell.Producing = true
is_producing other = false

abbrev pub is_first_param_at : NExpr-F NCond NExpr → Bool
is_first_param_at (NExpr-F.Param p) = p == 0
is_first_param_at other = false

abbrev pub gives_first_param_at : NTree-F NTree → Bool
gives_first_param_at (NTree-F.Leaf e) = is_first_param_at (out-NExpr e)
gives_first_param_at other = false

-- the step from the place of a slot to that of its input of this number, counted from 1
abbrev pub step_of : Body → ℕ → PlaceStep
step_of (body.Set flags) m = step.Elem m
step_of (body.Map keys) m = step.Elem m
step_of (body.Opt present) m = step.Inside
step_of other m = step.Arg m

-- a body gives its first parameter
abbrev pub gives_first_param : Body → Bool
gives_first_param (body.Run t) = gives_first_param_at (out-NTree t)
gives_first_param other = false

abbrev pub as_instance : Input → Option Input
as_instance x = if is_instance x.mode then Some x else None

-- the input that a slot passes on: its first, where the slot isn't kept and gives that alone, as an
-- instance
abbrev pub passed_by : Slot → Option Input
passed_by s =
    if is_kept s.cell || not (gives_first_param s.body) then None
    else option_and_then as_instance (slice_get s.inputs 0)

abbrev pub IsBound : NodeKind → Type 0
IsBound (node.Bound b) = Unit {0}
IsBound other = ⊥

-- no walk from a node has more than so many nodes
abbrev pub WalksAreShort : Doc → ℕ → Node → Type 0
WalksAreShort doc most n =
    (edges : ℕ) (last : Node) → Walk (needed_targets doc) edges n last → edges < most

-- the producer to which the chain of a slot leads
abbrev pub IsProducerOf : Doc → ℕ → ℕ → Target → Type 0
IsProducerOf doc i k t =
    (times : ℕ) → producer_from doc times i k ≢ None
    → producer_from doc times i k ≡ gives (as_look t)

-- the producer behind a node, where it is a production, and else none
pub record IsBehind (doc : Doc) (i k : ℕ) (n : Node) (o : Option Target) : Type 0 where
  pub none : is_production doc n ≡ false → o ≡ None
  pub some : is_production doc n ≡ true → (t : Target) × (o ≡ Some t) × IsProducerOf doc i k t

-- an `await` may lead to a slot: it is no entry, and what a binding gives where it is a production
abbrev pub LeadsOn : Doc → ℕ → ℕ → Type 0
LeadsOn doc i k =
    (n : Node) × (node_in doc i k ≡ Some n) × (is_entry n ≡ false)
    × (is_production doc n ≡ true → IsBound n.kind)

-- a value that is awaited is a way to a slot that is no entry, and, where it is a production, to
-- what a binding gives
pub record AwaitFits (doc : Doc) (v : Value) : Type 0 where
  pub way : (i k : ℕ) → out-Value v ≡ Value-F.Provider i k → LeadsOn doc i k
