use Rattle.std.proofs.Common.{ap, ◌∙◌, List, Vec, Bool, false, get_or, arith}
use Rattle.std.specs.Global.{Global}
use Rattle.dg_decl.specs.declared.document.Doc.{Doc}
use Rattle.dg_decl.specs.Components.{class_count}
use Rattle.dg_decl.specs.Stages.Dependencies.{is_below}
use Rattle.dg_compdep.specs.Below.{row_in}
use Rattle.dg_compdep.proofs.classes.Classes.is_below.Goals as goal

pub returns : goal.returns
returns c = record {
  exact = c.told.ensures.exact
      ∙ ap (λ (rows : List (Vec Bool Global)). get_or (row_in rows c.args.from) c.args.to false)
      c.as_slice.ensures.value
      ∙ c.self.invariant.below.each c.args.from c.args.to (omega (
        arith,
        ap class_count
            c.self.view_is,
      ))
      (omega (arith, ap class_count c.self.view_is))
      ∙ ap (λ (doc : Doc). is_below doc c.args.from c.args.to) c.self.view_is;
}
