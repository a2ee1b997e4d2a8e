use Rattle.std.proofs.Common.{◌≡◌, take, min, sum_by}
use Rattle.dg_decl.specs.Bodies as bodies
use Rattle.dg_walks.proofs.bodies.+bodies.Given as goal

-- the sizes of those so far
abbrev pub invariant-size_of_all-loop-e : goal.invariant-size_of_all-loop-e
invariant-size_of_all-loop-e l =
    l.all ≡ min (sum_by bodies.size_of_expr (take l.e-index l.es)) l.most
