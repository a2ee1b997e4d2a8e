use Rattle.std.proofs.Common.{◌≡◌, ◌++◌, map, drop}
use Rattle.dg_tree.proofs.world.parents.Given as goal

abbrev pub invariant-loop-inst : goal.invariant-loop-inst
invariant-loop-inst l =
    l.list ++ map (λ x. x.parent) (drop l.inst-index l.insts) ≡ map (λ x. x.parent) l.insts
