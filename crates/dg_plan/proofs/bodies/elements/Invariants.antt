use Rattle.std.proofs.Common.{◌≡◌, take, map}
use Rattle.dg_slots.specs.Plans.{gives_elements}
use Rattle.dg_plan.proofs.bodies.elements.Given as goal

abbrev pub invariant-loop-o : goal.invariant-loop-o
invariant-loop-o l = l.flags.items ≡ map (gives_elements l.doc) (take l.o-index l.owned)
