use Rattle.dg_jobs.proofs.Taking.{at_most_once_more}
use Rattle.dg_jobs.proofs.laws.taken_once.Goals as goal

pub returns : goal.returns
returns g c = at_most_once_more
