use Rattle.dg_decl.proofs.EdgeNumbers.{edges_are_numbered}
use Rattle.dg_decl.proofs.graph_laws.edges_are_numbered.Goals as goal

pub returns : goal.returns
returns c = record { exact = edges_are_numbered }
