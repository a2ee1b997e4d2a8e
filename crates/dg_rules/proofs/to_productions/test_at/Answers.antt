use Rattle.dg_rules.proofs.ListLemmas.{none_there}
use Rattle.dg_rules.proofs.to_productions.test_at.Goals as goal

pub returns-in-None : goal.returns-in-None
returns-in-None c = record {
  exact = none_there c.args.tests.now c.args.number c.in-None.ensures;
}
