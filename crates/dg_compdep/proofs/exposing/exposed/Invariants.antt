use Rattle.std.proofs.Common.{◌≡◌, map, take}
use Rattle.dg_decl.specs.declared.component.Class.{Class}
use Rattle.dg_compdep.specs.Exposing.{exposed_from}
use Rattle.dg_compdep.proofs.exposing.exposed.Given as goal

abbrev pub invariant-loop-class : goal.invariant-loop-class
invariant-loop-class l =
    l.lists.items ≡ map (λ (c : Class). exposed_from l.d 0 c.deps) (take l.class-index l.classes)
