use Rattle.std.proofs.Common.{◌∙◌}
use Rattle.dg_session.proofs.NumberLemmas.{class_found}
use Rattle.dg_session.proofs.numbered.Numbers.declared_number.Goals as goal

pub returns-in-Some : goal.returns-in-Some
returns-in-Some c = record {
  exact = c.number_at.ensures.exact
      ∙ class_found c.args.self.now c.self.inside.names.now c.args.name.now c.in-Some.index
      c.self.inside.classes.items c.as_slice.result.now
      c.self.view_is c.self.invariant c.as_slice.ensures.value c.in-Some.ensures.exact;
}
