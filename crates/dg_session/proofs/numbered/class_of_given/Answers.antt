use Rattle.std.proofs.Common.{◌∙◌}
use Rattle.dg_types.specs.declared.shape.Shape.{out-Shape}
use Rattle.dg_session.proofs.NumberLemmas.{same_class}
use Rattle.dg_session.proofs.numbered.class_of_given.Goals as goal

pub returns : goal.returns
returns c = record {
  exact = c.class.ensures.exact ∙ same_class (out-Shape c.args.given.now);
}
