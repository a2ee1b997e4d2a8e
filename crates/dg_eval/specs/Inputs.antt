-- The law of inputs: in an accepted document no look-up is left for the run. The numbers of an
-- input lead to a slot and, in each instance of the class that asks, to an instance.
use Rattle.std.specs.Prelude.{◌≡◌, ℕ, length, Option, Some, option_and_then, slice_get, Contains}
use Rattle.std.specs.Option.{option_map_or}
use Rattle.dg_decl.specs.declared.document.Doc.{Doc}
use Rattle.dg_decl.specs.declared.graph.Node.{Node}
use Rattle.dg_decl.specs.Diagnostics.{IsAccepted}
use Rattle.dg_decl.specs.Graph.{Dependency, deps}
use Rattle.dg_slots.specs.declared.plan.Input.{Input}
use Rattle.dg_slots.specs.declared.plan.Slot.{Slot}
use Rattle.dg_slots.specs.Plans.{inputs_of, plan_of}
use Rattle.dg_eval.specs.World.{class_of_inst, chain_of_inst, link}
use Rattle.dg_eval.specs.Meaning.{node_at, target_of}

-- ---- where the numbers of an input lead

-- the slot of this number in the plan
abbrev pub slot_at : Doc → ℕ → Option Slot
slot_at doc k = slice_get (plan_of doc).slots k

-- the instance from which levels are counted: the one that asks, or that to which it is tied for
-- the dependency of the input
abbrev pub counted_from : Doc → ℕ → Input → Option ℕ
counted_from doc i x = option_map_or (link doc i) x.dep (Some i)

-- the instance to which an input leads: as many parents up as its level says
abbrev pub inst_led : Doc → ℕ → Input → Option ℕ
inst_led doc i x =
    option_and_then (λ j. slice_get (chain_of_inst doc j) x.level) (counted_from doc i x)

-- ---- inputs lead to slots

-- an input of an instance leads to a slot of the plan, in an instance of its class
pub record LeadsToSlot (doc : Doc) (i : ℕ) (x : Input) : Type 0 where
  pub slot : Slot
  -- the slot is there
  pub is_slot : slot_at doc x.slot ≡ Some slot
  pub inst : ℕ
  -- the link and the level are there
  pub is_inst : inst_led doc i x ≡ Some inst
  -- the slot has its value in that instance
  pub class : class_of_inst doc inst ≡ Some slot.class

-- in an accepted document each input of each slot leads to a slot, in each instance of its class
abbrev pub InputsLeadToSlots : Type 0
InputsLeadToSlots =
    (doc : Doc) → IsAccepted doc → (i k : ℕ) (s : Slot) (x : Input) → slot_at doc k ≡ Some s
    → class_of_inst doc i ≡ Some s.class → Contains s.inputs x → LeadsToSlot doc i x

-- ---- what is counted is what is looked up

-- a dependency of a node, by its index, in an instance of the node's class
pub record IsAsked (doc : Doc) (i k m : ℕ) (n : Node) (d : Dependency) : Type 0 where
  pub is_node : node_at doc k ≡ Some n
  pub class : class_of_inst doc i ≡ Some n.class
  pub is_dependency : slice_get (deps doc n) m ≡ Some d

-- the input for a dependency leads where the dependency is looked up
pub record InputLeads (doc : Doc) (i m : ℕ) (n : Node) (d : Dependency) : Type 0 where
  pub input : Input
  -- input and dependency have one index
  pub is_input : slice_get (inputs_of doc n) m ≡ Some input
  -- and one mode
  pub mode : input.mode ≡ d.mode
  pub found : Node
  -- the slot is there
  pub is_slot : node_at doc input.slot ≡ Some found
  pub inst : ℕ
  -- the link and the level are there
  pub is_inst : inst_led doc i input ≡ Some inst
  -- the slot has its value in that instance
  pub class : class_of_inst doc inst ≡ Some found.class
  -- the look-up by classes finds the same instance and slot
  pub same : target_of doc i n d ≡ Some (record { inst = inst; slot = input.slot })

-- in an accepted document the input of each dependency leads where evaluation looks the dependency
-- up
abbrev pub InputsAreLookUps : Type 0
InputsAreLookUps =
    (doc : Doc) → IsAccepted doc → (i k m : ℕ) (n : Node) (d : Dependency) → IsAsked doc i k m n d
    → InputLeads doc i m n d

-- in an accepted document no dependency of a node is left out of its inputs
abbrev pub NoInputIsLeftOut : Type 0
NoInputIsLeftOut =
    (doc : Doc) → IsAccepted doc → (k : ℕ) (n : Node) → node_at doc k ≡ Some n
    → length (inputs_of doc n) ≡ length (deps doc n)
