use Rattle.std.proofs.Common.{◌∙◌}
use Rattle.dg_session.proofs.ArgumentLemmas.{has_name}
use Rattle.dg_session.proofs.arguments.has_argument.Goals as goal

pub returns : goal.returns
returns c = record {
  exact = c.names_one.ensures.exact ∙ has_name c.args.name.now c.args.args.now;
}
