use Rattle.std.proofs.Common.{◌∙◌}
use Rattle.dg_requests.proofs.ContextLemmas.{bound_there}
use Rattle.dg_requests.proofs.context.bound_value.Goals as goal

pub returns : goal.returns
returns c = record {
  exact = λ doc plan of. c.bound_at.ensures.exact
      ∙ bound_there doc plan c.args.world.now of c.args.inst c.args.index;
}
