use Rattle.std.proofs.Common.{◌∙◌}
use Rattle.dg_hilt.specs.Names.{scope_names}
use Rattle.dg_typing.proofs.NamesWanted.{among_same}
use Rattle.dg_typing.proofs.names_stage.wanted.is_hilt_scope.Goals as goal

pub returns : goal.returns
returns c = record {
  exact = c.is_scope_name.ensures.exact ∙ among_same c.args.name.now scope_names;
}
