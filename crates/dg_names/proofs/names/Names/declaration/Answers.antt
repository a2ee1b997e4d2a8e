use Rattle.std.proofs.Common.{◌∙◌, Some, None}
use Rattle.dg_names.proofs.KnownLemmas.{declared_from}
use Rattle.dg_names.proofs.names.Names.declaration.Goals as goal

pub returns-in-Some : goal.returns-in-Some
returns-in-Some c = record {
  exact = c.statement.ensures.exact
      ∙ declared_from c.args.self.now c.args.name.now (Some c.in-Some.index) c.in-Some.ensures.exact;
}

pub returns-in-None : goal.returns-in-None
returns-in-None c = record {
  exact = declared_from c.args.self.now c.args.name.now None c.in-None.ensures.exact;
}
