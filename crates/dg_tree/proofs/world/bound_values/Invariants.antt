use Rattle.std.proofs.Common.{◌≡◌, ◌++◌, map, drop}
use Rattle.std.specs.List.{enumerate_from}
use Rattle.dg_value.specs.declared.place.PlaceRoot.TheVariants as root
use Rattle.dg_value.specs.Places.{at_root}
use Rattle.dg_eval.specs.World.{constant}
use Rattle.dg_tree.proofs.world.bound_values.Given as goal

abbrev pub invariant-loop-e : goal.invariant-loop-e
invariant-loop-e l =
    l.values
    ++ map (λ a. (constant a.1).value (at_root (root.Arg l.number a.0)) 0)
    (enumerate_from l.arg (drop l.e-index l.e-items))
    ≡ map (λ a. (constant a.1).value (at_root (root.Arg l.number a.0)) 0)
    (enumerate_from 0 l.inst.bound)
