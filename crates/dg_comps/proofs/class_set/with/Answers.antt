use Rattle.dg_comps.proofs.SetLemmas.{with_one}
use Rattle.dg_comps.proofs.class_set.with.Goals as goal

pub returns : goal.returns
returns c = record { exact = λ other. with_one c.args.set c.args.class other c.requires.class }
