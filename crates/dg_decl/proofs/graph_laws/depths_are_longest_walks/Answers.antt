use Rattle.dg_decl.proofs.SizeLemmas.{depths_are_longest_walks}
use Rattle.dg_decl.proofs.graph_laws.depths_are_longest_walks.Goals as goal

pub returns : goal.returns
returns c = record { exact = depths_are_longest_walks }
