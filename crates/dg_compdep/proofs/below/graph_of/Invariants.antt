use Rattle.std.proofs.Common.{◌≡◌, map, take}
use Rattle.dg_compdep.specs.Below.{stood_on}
use Rattle.dg_compdep.proofs.below.graph_of.Given as goal

abbrev pub invariant-loop-class : goal.invariant-loop-class
invariant-loop-class l =
    map (λ row. row.items) l.next.items ≡ map stood_on (take l.class-index l.classes)
