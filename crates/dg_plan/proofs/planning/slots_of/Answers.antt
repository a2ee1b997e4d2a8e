use Rattle.dg_decl.specs.Graph.{nodes}
use Rattle.dg_slots.specs.Plans.{slot_of, slots_of}
use Rattle.dg_edges.proofs.EdgeLemmas.{node_small}
use Rattle.dg_plan.proofs.ListLemmas.{map_more, map_end}
use Rattle.dg_plan.proofs.planning.slots_of.Goals as goal

pub slot_of-requires-clause-class : goal.slot_of-requires-clause-class
slot_of-requires-clause-class c =
    node_small c.args.dependencies.now c.args.nodes.now c.loop-node.node-index c.node-item.result
    c.requires.nodes c.loop-node-test.true c.node-item.is

pub loop-node-preserved : goal.loop-node-preserved
loop-node-preserved c =
    map_more (slot_of c.args.dependencies.now) c.args.nodes.now c.loop-node.node-index
    c.node-item.result c.loop-node.slots c.push.new.self c.in_ok-slot_of.field-0
    c.loop-node-test.true c.node-item.is c.loop-node.invariant c.in_ok-slot_of.ensures.exact
    c.in_ok-push.ensures.ok

pub returns : goal.returns
unfolding slots_of
returns c = record {
  exact = map_end (slot_of c.args.dependencies.now) c.args.nodes.now
      (nodes c.args.dependencies.now) c.loop-node.node-index c.loop-node.slots c.requires.nodes
      c.loop-node-test.false c.loop-node.invariant;
}
