use Rattle.dg_decl.proofs.ComponentLemmas.{below_by_short_walks}
use Rattle.dg_decl.proofs.components_laws.below_by_short_walks.Goals as goal

pub returns : goal.returns
returns c = record { exact = below_by_short_walks }
