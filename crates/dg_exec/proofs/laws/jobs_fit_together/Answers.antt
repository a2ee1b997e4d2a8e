use Rattle.dg_exec.proofs.FitRecord.{fit_by}
use Rattle.dg_exec.proofs.UsedLaw.{cells_are_used}
use Rattle.dg_exec.proofs.laws.jobs_fit_together.Goals as goal

pub returns : goal.returns
returns c = record { exact = fit_by cells_are_used }
