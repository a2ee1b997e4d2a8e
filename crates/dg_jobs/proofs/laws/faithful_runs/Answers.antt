use Rattle.dg_jobs.proofs.Rightness.{all_right}
use Rattle.dg_jobs.proofs.laws.faithful_runs.Goals as goal

pub returns : goal.returns
returns g c = all_right
