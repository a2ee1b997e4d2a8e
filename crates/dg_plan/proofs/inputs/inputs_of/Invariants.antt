use Rattle.std.proofs.Common.{◌≡◌, take, filter_map}
use Rattle.dg_slots.specs.Plans.{input_of}
use Rattle.dg_plan.proofs.inputs.inputs_of.Given as goal

abbrev pub invariant-loop-d : goal.invariant-loop-d
invariant-loop-d l =
    l.inputs.items ≡ filter_map (input_of l.dependencies l.node) (take l.d-index l.needed)
