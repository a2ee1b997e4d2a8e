use Rattle.dg_edges.proofs.EdgeLemmas.{node_small}
use Rattle.dg_plan.specs.PlanLines.{plan_line}
use Rattle.dg_plan.proofs.ListLemmas.{texts_none, texts_more}
use Rattle.dg_plan.proofs.text.push_lines.Goals as goal

pub loop-index-init : goal.loop-index-init
loop-index-init c = texts_none (plan_line c.args.dependencies.now) c.args.text.now.items

pub push_line-requires-clause-class : goal.push_line-requires-clause-class
push_line-requires-clause-class c =
    node_small c.args.dependencies.now c.args.nodes.now c.loop-index.index
    c.index-nodes-index.result c.requires.nodes c.loop-index-test.true c.index-nodes-index.is

pub loop-index-preserved : goal.loop-index-preserved
loop-index-preserved c =
    texts_more (plan_line c.args.dependencies.now) c.args.nodes.now c.loop-index.index
    c.index-nodes-index.result c.args.text.now.items c.loop-index.text.items
    c.push_line.new.text.items c.loop-index-test.true c.index-nodes-index.is
    c.loop-index.invariant c.in_ok-push_line.ensures.exact
