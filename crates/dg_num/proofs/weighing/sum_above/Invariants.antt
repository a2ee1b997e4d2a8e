use Rattle.std.proofs.Common.{◌≡◌, ◌+◌, false, get_or, min, sum_by, take}
use Rattle.dg_num.specs.Weights.{added}
use Rattle.dg_num.proofs.weighing.sum_above.Given as goal

abbrev pub invariant-loop-node : goal.invariant-loop-node
invariant-loop-node l = l.sum ≡ min (l.own + sum_by
    (added (λ node. get_or l.flat node false) (λ node. get_or l.weights node 0))
    (take l.node-index l.row)) l.most
