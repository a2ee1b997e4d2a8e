use Rattle.dg_decl.proofs.GraphLemmas.{productions_by_short_walks}
use Rattle.dg_decl.proofs.graph_laws.productions_by_short_walks.Goals as goal

pub returns : goal.returns
returns c = record { exact = productions_by_short_walks }
