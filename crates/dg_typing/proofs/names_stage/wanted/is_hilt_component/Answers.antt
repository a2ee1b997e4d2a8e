use Rattle.std.proofs.Common.{ap, ◌∙◌, is_some}
use Rattle.dg_typing.proofs.NamesWanted.{component_is}
use Rattle.dg_typing.proofs.names_stage.wanted.is_hilt_component.Goals as goal

pub returns : goal.returns
returns c = record {
  exact = c.is_some.ensures ∙ ap is_some c.class_of.ensures.exact ∙ component_is c.args.name.now;
}
