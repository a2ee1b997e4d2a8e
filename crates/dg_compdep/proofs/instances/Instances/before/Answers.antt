use Rattle.std.proofs.Common.{ap, ◌∙◌}
use Rattle.dg_decl.specs.Document.{Statement}
use Rattle.dg_compdep.proofs.LinkLemmas.{number_found}
use Rattle.dg_compdep.proofs.instances.Instances.before.Goals as goal

pub returns-in-Some : goal.returns-in-Some
returns-in-Some c = record {
  exact = c.number_at.ensures.exact
      ∙ number_found c.args.self.now c.self.inside.names.now c.args.s.now c.args.name.now
      c.in-Some.line.now c.line.inside.index c.self.inside.numbers.items c.as_slice.result.now
      c.self.view_is c.self.invariant c.as_slice.ensures.value c.in-Some.ensures.exact
      (ap (λ (x : Statement). x.index) c.line.view_is);
}
