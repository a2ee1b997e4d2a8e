use Rattle.dg_decl.proofs.GraphLemmas.{cycles_by_short_walks}
use Rattle.dg_decl.proofs.graph_laws.cycles_by_short_walks.Goals as goal

pub returns : goal.returns
returns c = record { exact = cycles_by_short_walks }
