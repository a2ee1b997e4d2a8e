use Rattle.std.proofs.Common.{ap, ◌∙◌}
use Rattle.dg_types.specs.Requests.{Layer}
use Rattle.dg_types.specs.declared.shape.Shape.{Shape, out-Shape}
use Rattle.dg_decl.specs.Typing.{type_of_field}
use Rattle.dg_typing.proofs.TypeEquations.{out_named}
use Rattle.dg_session.proofs.numbered.field_of_class.Goals as goal

pub returns : goal.returns
returns c = record {
  exact = c.type_of_field.ensures.exact
      ∙ ap (λ (l : Layer). type_of_field c.args.names.now l c.args.field.now)
      (ap (λ (t : Shape). out-Shape t) c.object-given.ensures.exact ∙ out_named c.args.class.now);
}
