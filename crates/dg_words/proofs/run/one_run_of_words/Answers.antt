use Rattle.dg_words.proofs.RunLemmas.{one_run}
use Rattle.dg_words.proofs.run.one_run_of_words.Goals as goal

pub returns : goal.returns
returns c = record { same = one_run _ c.args.one c.args.other c.requires.first c.requires.second }
