use Rattle.dg_edges.proofs.EdgeLemmas.{lists_more, lists_end, node_small, all_differ}
use Rattle.dg_edges.proofs.lists.edge_lists.Goals as goal

pub of-requires-clause-once : goal.of-requires-clause-once
of-requires-clause-once c = all_differ c.args.dependencies.now c.args.nodes.now c.requires.nodes

pub edges_of-requires-clause-class : goal.edges_of-requires-clause-class
edges_of-requires-clause-class c =
    node_small c.args.dependencies.now c.args.nodes.now c.loop-node.node-index c.node-item.result
    c.requires.nodes c.loop-node-test.true c.node-item.is

pub loop-node-preserved : goal.loop-node-preserved
loop-node-preserved c =
    lists_more c.args.dependencies.now c.args.nodes.now c.loop-node.node-index c.node-item.result
    c.loop-node.lists c.push.new.self c.in_ok-edges_of.field-0 c.loop-node-test.true
    c.node-item.is c.loop-node.invariant c.in_ok-edges_of.ensures.exact c.in_ok-push.ensures.ok

pub returns : goal.returns
returns c = record {
  exact = lists_end c.args.dependencies.now c.args.nodes.now c.loop-node.node-index
      c.loop-node.lists c.requires.nodes c.loop-node-test.false c.loop-node.invariant;
}
