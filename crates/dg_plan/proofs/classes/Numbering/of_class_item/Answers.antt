use Rattle.std.proofs.Common.{◌∙◌}
use Rattle.dg_plan.proofs.ClassLemmas.{class_found}
use Rattle.dg_plan.proofs.classes.Numbering.of_class_item.Goals as goal

pub returns : goal.returns
returns c = record {
  exact = c.number_at.ensures.exact
      ∙ class_found c.args.self.now c.self.inside.numbers c.args.index
      c.self.inside.classes.items c.as_slice.result.now
      c.self.view_is c.self.invariant c.as_slice.ensures.value;
}
