use Rattle.std.proofs.Common.{ap, ◌∙◌, is_some}
use Rattle.dg_typing.proofs.NamesWanted.{default_is}
use Rattle.dg_typing.proofs.names_stage.wanted.is_default_class.Goals as goal

pub returns : goal.returns
returns c = record {
  exact = c.is_some.ensures ∙ ap is_some c.default_class.ensures.exact
      ∙ default_is c.args.name.now;
}
