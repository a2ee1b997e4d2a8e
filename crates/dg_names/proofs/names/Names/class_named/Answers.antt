use Rattle.std.proofs.Common.{◌∙◌, ap, Some, None}
use Rattle.dg_names.proofs.ClassLemmas.{class_is}
use Rattle.dg_names.proofs.names.Names.class_named.Goals as goal

pub returns-in-Some : goal.returns-in-Some
returns-in-Some c = record {
  exact = ap Some c.number.ensures.exact
      ∙ class_is c.args.self.now c.args.name.now (Some c.in-Some.class) c.in-Some.ensures.exact;
}

pub returns-in-None : goal.returns-in-None
returns-in-None c = record {
  exact = c.declared_class.ensures.exact
      ∙ class_is c.args.self.now c.args.name.now None c.in-None.ensures.exact;
}
