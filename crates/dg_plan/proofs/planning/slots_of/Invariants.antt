use Rattle.std.proofs.Common.{◌≡◌, map, take}
use Rattle.dg_slots.specs.Plans.{slot_of}
use Rattle.dg_plan.proofs.planning.slots_of.Given as goal

abbrev pub invariant-loop-node : goal.invariant-loop-node
invariant-loop-node l = l.slots ≡ map (slot_of l.dependencies) (take l.node-index l.nodes)
