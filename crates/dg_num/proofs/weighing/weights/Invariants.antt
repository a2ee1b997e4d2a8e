use Rattle.std.proofs.Common.{◌+◌, false, get_or}
use Rattle.dg_num.proofs.Weighings.{Weighed}
use Rattle.dg_num.proofs.weighing.weights.Given as goal

abbrev pub invariant-loop-node : goal.invariant-loop-node
invariant-loop-node l = Weighed l.graph (λ x. get_or l.own x 0) (λ x. get_or l.flat x false)
    (l.limit + 1) l.node-items l.weights.items l.node-index
