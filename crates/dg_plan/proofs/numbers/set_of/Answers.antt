use Rattle.dg_edges.proofs.NumberLemmas.{one_more}
use Rattle.dg_plan.proofs.numbers.set_of.Goals as goal

pub loop-node-preserved : goal.loop-node-preserved
loop-node-preserved c =
    one_more c.args.nodes.now c.loop-node.node-index c.node-item.result c.loop-node.set.keys
    c.add_copy.new.nodes.keys c.requires.once c.loop-node-test.true c.node-item.is
    c.loop-node.invariant c.in_ok-add_copy.ensures.exact
