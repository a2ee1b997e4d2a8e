use Rattle.dg_decl.proofs.ChainLemmas.{ancestors_are_walks}
use Rattle.dg_decl.proofs.components_laws.ancestors_are_walks.Goals as goal

pub returns : goal.returns
returns c = record { exact = ancestors_are_walks }
