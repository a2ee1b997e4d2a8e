use Rattle.dg_decl.proofs.AcceptedGraph.{one_list_of_nodes}
use Rattle.dg_decl.proofs.graph_laws.one_list_of_nodes.Goals as goal

pub returns : goal.returns
returns c = record { exact = one_list_of_nodes }
