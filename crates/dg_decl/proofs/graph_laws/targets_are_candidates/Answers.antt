use Rattle.dg_decl.proofs.NodeTargets.{targets_are_candidates}
use Rattle.dg_decl.proofs.graph_laws.targets_are_candidates.Goals as goal

pub returns : goal.returns
returns c = record { exact = targets_are_candidates }
