use Rattle.std.proofs.Common.{◌∙◌}
use Rattle.dg_requests.proofs.ContextLemmas.{is_cell_there}
use Rattle.dg_requests.proofs.context.is_cell.Goals as goal

pub returns : goal.returns
returns c = record {
  exact = λ doc world of. c.keeps.ensures.exact
      ∙ is_cell_there doc c.args.plan.now world of c.args.slot;
}
