use Rattle.std.proofs.Common.{false}
use Rattle.dg_compdep.proofs.BelowLemmas.{none_read}
use Rattle.dg_compdep.proofs.classes.test_at.Goals as goal

pub returns-in-None : goal.returns-in-None
returns-in-None c = record {
  exact = none_read c.args.tests.now c.args.number false
      c.in-None.ensures;
}
