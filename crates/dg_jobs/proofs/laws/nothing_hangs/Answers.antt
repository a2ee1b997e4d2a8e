use Rattle.dg_jobs.proofs.Finishing.{nothing_left}
use Rattle.dg_jobs.proofs.laws.nothing_hangs.Goals as goal

pub returns : goal.returns
returns g c = nothing_left
