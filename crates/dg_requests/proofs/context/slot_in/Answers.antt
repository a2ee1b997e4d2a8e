use Rattle.std.proofs.Common.{◌∙◌}
use Rattle.dg_requests.proofs.ContextLemmas.{slot_there_is}
use Rattle.dg_requests.proofs.context.slot_in.Goals as goal

pub returns : goal.returns
returns c = record {
  exact = λ doc of. c.slot_of_class.ensures.exact
      ∙ slot_there_is doc c.args.plan.now c.args.world.now of c.args.inst c.args.slot;
}
