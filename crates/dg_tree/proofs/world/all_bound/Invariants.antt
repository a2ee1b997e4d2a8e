use Rattle.std.proofs.Common.{◌≡◌, ◌++◌, map, drop}
use Rattle.std.specs.List.{enumerate_from}
use Rattle.dg_eval.specs.World.{bound_values}
use Rattle.dg_tree.proofs.world.all_bound.Given as goal

abbrev pub invariant-loop-inst : goal.invariant-loop-inst
invariant-loop-inst l =
    l.lists ++ map (λ p. bound_values p.0 p.1) (enumerate_from l.number (drop l.inst-index l.insts))
    ≡ map (λ p. bound_values p.0 p.1) (enumerate_from 0 l.insts)
