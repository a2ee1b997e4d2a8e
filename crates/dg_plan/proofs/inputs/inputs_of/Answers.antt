use Rattle.dg_slots.specs.Plans.{input_of}
use Rattle.dg_plan.proofs.ListLemmas.{filter_more}
use Rattle.dg_plan.proofs.inputs.inputs_of.Goals as goal

pub loop-d-preserved : goal.loop-d-preserved
loop-d-preserved c =
    filter_more (input_of c.args.dependencies.now c.args.node.now) c.args.needed.now
    c.loop-d.d-index c.d-item.result c.loop-d.inputs.items c.add.new.inputs.items
    c.in_ok-input_of.field-0 c.loop-d-test.true c.d-item.is c.loop-d.invariant
    c.in_ok-input_of.ensures.exact c.in_ok-add.ensures.exact
