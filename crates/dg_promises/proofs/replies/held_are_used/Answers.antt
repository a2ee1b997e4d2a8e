use Rattle.dg_promises.proofs.HeldLaw.{held_by_uses}
use Rattle.dg_promises.proofs.UseLemmas.{uses_end}
use Rattle.dg_promises.proofs.replies.held_are_used.Goals as goal

pub returns : goal.returns
returns c = record { exact = held_by_uses uses_end }
