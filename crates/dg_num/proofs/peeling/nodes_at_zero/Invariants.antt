use Rattle.dg_num.proofs.Peels.{Listed}
use Rattle.dg_num.proofs.peeling.nodes_at_zero.Given as goal

abbrev pub invariant-loop-node : goal.invariant-loop-node
invariant-loop-node l = Listed l.counts l.nodes.items l.node
