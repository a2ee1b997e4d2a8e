use Rattle.dg_comps.proofs.SetLemmas.{bit_test}
use Rattle.dg_comps.proofs.class_set.holds.Goals as goal

pub returns : goal.returns
returns c = record { exact = bit_test c.args.set c.args.class }
