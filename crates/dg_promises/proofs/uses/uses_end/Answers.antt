use Rattle.dg_promises.proofs.UseLemmas.{uses_end}
use Rattle.dg_promises.proofs.uses.uses_end.Goals as goal

pub returns : goal.returns
returns c = record { exact = uses_end }
