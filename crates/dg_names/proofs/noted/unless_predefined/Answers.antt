use Rattle.std.proofs.Common.{ap, ◌∙◌}
use Rattle.dg_lex.specs.Bytes.{Bytes}
use Rattle.dg_hilt.specs.Names.{is_among, predefined_names}
use Rattle.dg_names.proofs.KnownLemmas.{is_old_name, is_new_name}
use Rattle.dg_names.proofs.noted.unless_predefined.Goals as goal

pub returns-then-is_predefined : goal.returns-then-is_predefined
returns-then-is_predefined c = record {
  exact = is_old_name c.args.name.now c.is_predefined.result
      (c.is_predefined.ensures.exact
      ∙ ap (λ (n : Bytes). is_among n predefined_names) c.as_slice.ensures.exact)
      c.if-is_predefined.true;
}

pub returns-else-is_predefined : goal.returns-else-is_predefined
returns-else-is_predefined c = record {
  exact = is_new_name c.args.name.now c.is_predefined.result
      (c.is_predefined.ensures.exact
      ∙ ap (λ (n : Bytes). is_among n predefined_names) c.as_slice.ensures.exact)
      c.if-is_predefined.false;
}
