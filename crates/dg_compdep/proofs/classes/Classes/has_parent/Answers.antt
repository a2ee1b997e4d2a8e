use Rattle.std.proofs.Common.{ap, length, is_some, ◌∙◌, arith}
use Rattle.dg_decl.specs.declared.document.Doc.{Doc}
use Rattle.dg_decl.specs.Components.{class_count, parent_of}
use Rattle.dg_slots.proofs.ClassLemmas.{classes_counted}
use Rattle.dg_compdep.proofs.ExposingLemmas.{parent_of_class}
use Rattle.dg_compdep.proofs.classes.Classes.has_parent.Goals as goal

pub bounds-self-inside-class : goal.bounds-self-inside-class
bounds-self-inside-class c =
    omega (
      arith,
      ap length c.self.invariant.classes_are,
      classes_counted c.self.inside.names,
      ap
          class_count c.self.view_is,
    )

pub returns : goal.returns
returns c = record {
  exact = c.is_some.ensures
      ∙ ap is_some (parent_of_class c.self.inside.names c.self.inside.classes.now c.args.class _
      c.self.invariant.classes_are (omega (arith, ap class_count c.self.view_is))
      c.index-self-class.is)
      ∙ ap (λ (doc : Doc). is_some (parent_of doc c.args.class)) c.self.view_is;
}
