use Rattle.dg_plan.specs.Counted.{text_of_need}
use Rattle.dg_plan.proofs.ListLemmas.{texts_none, texts_more}
use Rattle.dg_plan.proofs.text.push_needs.Goals as goal

pub loop-index-init : goal.loop-index-init
loop-index-init c =
    texts_none (text_of_need c.args.dependencies.now c.args.node.now) c.args.text.now.items

pub loop-index-preserved : goal.loop-index-preserved
loop-index-preserved c =
    texts_more (text_of_need c.args.dependencies.now c.args.node.now) c.args.needed.now
    c.loop-index.index c.index-needed-index.result c.args.text.now.items c.loop-index.text.items
    c.push_need.new.text.items c.loop-index-test.true c.index-needed-index.is
    c.loop-index.invariant c.in_ok-push_need.ensures.exact
