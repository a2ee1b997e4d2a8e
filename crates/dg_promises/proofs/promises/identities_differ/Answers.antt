use Rattle.dg_promises.proofs.IdentityLemmas.{identities_differ}
use Rattle.dg_promises.proofs.promises.identities_differ.Goals as goal

pub returns : goal.returns
returns c = record { exact = identities_differ }
