use Rattle.dg_decl.proofs.ChainLemmas.{chains_are_whole}
use Rattle.dg_decl.proofs.components_laws.chains_are_whole.Goals as goal

pub returns : goal.returns
returns c = record { exact = chains_are_whole }
