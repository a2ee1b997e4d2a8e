use Rattle.std.proofs.Common.{ap, ◌∙◌, arith}
use Rattle.dg_num.proofs.Peels.{Listed-push, Listed-skip}
use Rattle.dg_num.proofs.peeling.nodes_at_zero.Goals as goal
use Rattle.dg_num.proofs.peeling.nodes_at_zero.Goals.{then-counts-node-eq0+in_ok-push}
use Rattle.dg_num.proofs.peeling.nodes_at_zero.Goals.{else-counts-node-eq0}

pub loop-node-preserved : goal.loop-node-preserved
loop-node-preserved c =
    elim c.if-counts-node-eq0.branch [
      | then-counts-node-eq0+in_ok-push w ↦ Listed-push c.args.counts.now c.loop-node.nodes.items _
          c.loop-node.node c.loop-node.invariant w.if-counts-node-eq0.true
          (ap (λ v. v.items) w.nodes-is ∙ w.in_ok-push.ensures.items)
      | else-counts-node-eq0 w ↦ Listed-skip c.args.counts.now c.loop-node.nodes.items _
          c.loop-node.node c.loop-node.invariant (omega (arith, w.if-counts-node-eq0.false))
          (ap (λ v. v.items) w.nodes-is)
    ]
