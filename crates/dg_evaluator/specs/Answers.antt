-- What calls answer, of what runs give.
use Rattle.std.specs.Prelude.{◌≡◌, ℕ, Bool, List, Option, Some, Result, Ok, Err, option_and_then, slice_get}
use Rattle.dg_types.specs.declared.memory.NoMemory.{NoMemory}
use Rattle.dg_decl.specs.declared.document.Doc.{Doc}
use Rattle.dg_decl.specs.declared.graph.Node.{Node}
use Rattle.dg_slots.specs.declared.plan.Body.{Body}
use Rattle.dg_slots.specs.declared.plan.Body.TheVariants as body
use Rattle.dg_slots.specs.declared.plan.Plan.{Plan}
use Rattle.dg_slots.specs.declared.session.Ask.{Ask}
use Rattle.dg_slots.specs.declared.session.PathStep.{PathStep}
use Rattle.dg_value.specs.declared.place.Place.{Place}
use Rattle.dg_value.specs.declared.place.PlaceStep.TheVariants as step
use Rattle.dg_value.specs.Places.{then_step}
use Rattle.dg_slots.specs.declared.plan.Slot.{Slot}
use Rattle.dg_slots.specs.Plans.{body_of_node, inputs_of, slot_of}
use Rattle.dg_value.specs.declared.value.Kept.TheVariants as kept
use Rattle.dg_value.specs.declared.value.Reply.{Reply}
use Rattle.dg_value.specs.declared.value.Reply.TheVariants as reply
use Rattle.dg_value.specs.declared.value.Value.{Value}
use Rattle.dg_eval.specs.declared.world.World.{World}
use Rattle.dg_eval.specs.Asks as asks
use Rattle.dg_eval.specs.Asks.{value_there, not_there}
use Rattle.dg_eval.specs.Bodies.{End, value_end, producer_end}
use Rattle.dg_eval.specs.Runs.{Run, and_then}
use Rattle.dg_eval.specs.Meaning.{node_in, look, eval, enough}
use Rattle.dg_requests.specs.declared.stop.Stop.{Stop}
use Rattle.dg_requests.specs.declared.stop.Stop.TheVariants as stop
use Rattle.dg_evaluator.specs.declared.asks.Reached.{Reached}
use Rattle.dg_evaluator.specs.declared.asks.Reached.TheVariants as reached
use Rattle.dg_evaluator.specs.Sets.{takes_outcomes}
use Rattle.dg_evaluator.specs.declared.outcome.Outcome.{Outcome}
use Rattle.dg_evaluator.specs.declared.outcome.Outcome.TheVariants as outcome

-- ---- slots

-- this is a slot, which is evaluated in an instance
pub record IsSlotIn (doc : Doc) (i k : ℕ) (s : Slot) : Type 0 where
  pub node : Node
  pub is_node : node_in doc i k ≡ Some node
  pub is_slot : s ≡ slot_of doc node

-- a slot has this body, and is evaluated in an instance
pub record HasBody (doc : Doc) (i k : ℕ) (b : Body) : Type 0 where
  pub node : Node
  pub is_node : node_in doc i k ≡ Some node
  pub is_body : body_of_node doc node ≡ b

-- a slot is a set, of outcomes or of values, and is evaluated in an instance
pub record HasSet (doc : Doc) (i k : ℕ) (of_outcomes : Bool) (flags : List Bool) : Type 0 where
  pub node : Node
  pub is_node : node_in doc i k ≡ Some node
  pub is_body : body_of_node doc node ≡ body.Set flags
  pub is_form : of_outcomes ≡ takes_outcomes (inputs_of doc node)

-- a value is where it ends
abbrev pub ends_in : Result Value Stop → Result End Stop
ends_in (Ok v) = Ok (value_end v)
ends_in (Err s) = Err s

-- an end, a failure or want of memory, as the answer to what a slot comes to
abbrev pub outcome_in : Result End Stop → Result Outcome NoMemory
outcome_in (Ok (value_end v)) = Ok (outcome.Kept (kept.Value v))
outcome_in (Ok (producer_end i k)) = Ok (outcome.Forward i k)
outcome_in (Err (stop.Failed f)) = Ok (outcome.Kept (kept.Failed f))
outcome_in (Err stop.NoMemory) = Err (record {})

-- ---- asks

-- what a path has come to, by the definitions
abbrev pub as_reached : Reached → asks.Reached
as_reached (reached.Value v) = value_there v
as_reached reached.Absent = not_there

abbrev pub reaches : Result Reached Stop → Result asks.Reached Stop
reaches (Ok r) = Ok (as_reached r)
reaches (Err s) = Err s

-- a step of a path from a value, which has this number
abbrev pub step_run : Doc → Place → ℕ → PathStep → Value → Run asks.Reached
step_run doc q k x v =
    and_then (look (eval doc enough) enough v) (asks.stepped doc (then_step q (step.Step k)) x)

-- a value is what a path has come to
abbrev pub is_there : Result Value Stop → Result asks.Reached Stop
is_there (Ok v) = Ok (value_there v)
is_there (Err s) = Err s

-- what a path has come to, a failure or want of memory, as the answer to an ask
abbrev pub reply_in : Result asks.Reached Stop → Result Reply NoMemory
reply_in (Ok (value_there v)) = Ok (reply.Value v)
reply_in (Ok not_there) = Ok reply.Absent
reply_in (Err (stop.Failed f)) = Ok (reply.Failed f)
reply_in (Err stop.NoMemory) = Err (record {})

-- the slot of the entry that an ask asks for, by the lists of a plan and a world
abbrev pub entry_there : Plan → World → Ask → Option ℕ
entry_there plan world a =
    option_and_then (λ class. option_and_then (λ slots. slice_get slots a.entry)
    (slice_get plan.entries class)) (slice_get world.class a.inst)
