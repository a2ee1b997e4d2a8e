use Rattle.dg_decl.proofs.SizeLemmas.{weights_add_up}
use Rattle.dg_decl.proofs.graph_laws.weights_add_up.Goals as goal

pub returns : goal.returns
returns c = record { exact = weights_add_up }
