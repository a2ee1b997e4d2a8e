use Rattle.std.proofs.Common.{◌≡◌, take}
use Rattle.std.specs.List.{filter_map}
use Rattle.dg_slots.specs.Links.{linked}
use Rattle.dg_compdep.proofs.linking.linked_to.Given as goal

abbrev pub invariant-loop-class : goal.invariant-loop-class
invariant-loop-class l =
    l.list ≡ filter_map (linked l.tied l.from) (take l.class-index l.deps)
