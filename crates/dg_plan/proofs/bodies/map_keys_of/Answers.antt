use Rattle.dg_decl.specs.Stages.Bindings.{map_key_of}
use Rattle.dg_plan.proofs.ListLemmas.{filter_more_at}
use Rattle.dg_plan.proofs.bodies.map_keys_of.Goals as goal

pub loop-o-preserved : goal.loop-o-preserved
loop-o-preserved c =
    filter_more_at (map_key_of c.args.doc.now) c.args.owned.now c.loop-o.o-index _
    c.loop-o.keys.items c.add.new.keys.items c.in_ok-key_of.field-0 c.loop-o-test.true
    c.loop-o.invariant c.in_ok-key_of.ensures.exact c.in_ok-add.ensures.exact
