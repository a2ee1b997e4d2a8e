use Rattle.dg_decl.proofs.HeaderLemmas.{chains_end_at_roots}
use Rattle.dg_decl.proofs.components_laws.chains_end_at_roots.Goals as goal

pub returns : goal.returns
returns c = record { exact = chains_end_at_roots }
