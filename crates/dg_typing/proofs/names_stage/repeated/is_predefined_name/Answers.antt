use Rattle.std.proofs.Common.{ap, ◌∙◌}
use Rattle.dg_lex.specs.Bytes.{Bytes, is_among}
use Rattle.dg_hilt.specs.Names.{predefined_names}
use Rattle.dg_typing.proofs.NamesWanted.{among_same}
use Rattle.dg_typing.proofs.names_stage.repeated.is_predefined_name.Goals as goal

pub returns : goal.returns
returns c = record {
  exact = c.is_predefined.ensures.exact ∙ among_same c.as_slice.result.now predefined_names
      ∙ ap (λ (n : Bytes). is_among n predefined_names) c.as_slice.ensures.exact;
}
