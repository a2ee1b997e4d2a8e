use Rattle.std.proofs.Common.{◌≡◌, map}
use Rattle.std.specs.List.{range_with_len}
use Rattle.dg_decl.specs.Components.{class_of_number}
use Rattle.dg_comps.proofs.classes.component_classes.Given as goal

abbrev pub invariant-loop-class : goal.invariant-loop-class
invariant-loop-class l = l.classes ≡ map (class_of_number l.names) (range_with_len 0 l.class)
