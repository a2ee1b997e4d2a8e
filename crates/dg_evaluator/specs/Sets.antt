-- Sets, by what the plan tells of them.
use Rattle.std.specs.Prelude.{Bool, true, false, List, map, slice_get}
use Rattle.std.specs.Option.{option_map_or}
use Rattle.dg_types.specs.declared.key.Inner.{Inner}
use Rattle.dg_types.specs.declared.key.Inner.TheVariants as inner
use Rattle.dg_types.specs.declared.key.Mode.{Mode}
use Rattle.dg_types.specs.declared.key.Mode.TheVariants as mode
use Rattle.dg_slots.specs.declared.plan.Input.{Input}
use Rattle.dg_value.specs.declared.value.Kept.TheVariants as kept
use Rattle.dg_value.specs.declared.value.Value.{Value}
use Rattle.dg_value.specs.declared.value.Value.TheVariants as value
use Rattle.dg_eval.specs.Runs.{Run, gives, and_then}
use Rattle.dg_eval.specs.Operations.{elements_in}
use Rattle.dg_eval.specs.Meaning.{added_by_all, set_of_added}

-- a set holds outcomes, or it holds values
abbrev pub form_of : Bool → Inner
form_of true = inner.Produced
form_of false = inner.Plain

abbrev pub is_outcome : Mode → Bool
is_outcome mode.Produced = true
is_outcome other = false

-- the first of these inputs asks for an outcome
abbrev pub takes_outcomes : List Input → Bool
takes_outcomes inputs = option_map_or (λ x. is_outcome x.mode) (slice_get inputs 0) false

-- an outcome of each element of the set behind a value
abbrev pub outcomes_behind : (Value → Run Value) → Value → Run (List Value)
outcomes_behind look set =
    and_then (look set) (λ w. and_then (elements_in w)
    (λ vs. gives (map (λ x. value.Outcome (kept.Value x)) vs)))

-- a set of what contributions add that are given these values
abbrev pub set_made : Bool → (Value → Run Value) → List Bool → List Value → Run Value
set_made of_outcomes look flags vs =
    and_then (added_by_all (form_of of_outcomes) look flags vs)
    (set_of_added (form_of of_outcomes) look)
