use Rattle.std.proofs.Common.{List, sym, ap, ◌∙◌}
use Rattle.dg_decl.specs.declared.item.Param.{Param}
use Rattle.dg_slots.specs.Numbered.{param_number}
use Rattle.dg_session.proofs.NumberLemmas.{default_number}
use Rattle.dg_session.proofs.numbered.number_among.Goals as goal

pub returns-in-None : goal.returns-in-None
returns-in-None c = record {
  exact = sym (ap (λ (fields : List Param). param_number fields c.args.field.now)
      c.in-None.ensures.exact ∙ default_number c.args.field.now);
}
