use Rattle.dg_promises.proofs.UseLemmas.{asks_are_answered}
use Rattle.dg_promises.proofs.uses.asks_are_answered.Goals as goal

pub returns : goal.returns
returns c = record { exact = asks_are_answered }
