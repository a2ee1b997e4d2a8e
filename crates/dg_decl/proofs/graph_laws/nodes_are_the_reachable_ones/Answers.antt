use Rattle.dg_decl.proofs.NodesOnce.{nodes_are_the_reachable_ones}
use Rattle.dg_decl.proofs.graph_laws.nodes_are_the_reachable_ones.Goals as goal

pub returns : goal.returns
returns c = record { exact = nodes_are_the_reachable_ones }
