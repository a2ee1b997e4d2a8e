use Rattle.dg_decl.proofs.ComponentLemmas.{reached_by_short_walks}
use Rattle.dg_decl.proofs.components_laws.reached_by_short_walks.Goals as goal

pub returns : goal.returns
returns c = record { exact = reached_by_short_walks }
