use Rattle.dg_promises.proofs.WholeLaw.{replies_are_whole}
use Rattle.dg_promises.proofs.replies.replies_are_whole.Goals as goal

pub returns : goal.returns
returns c = record { exact = replies_are_whole }
