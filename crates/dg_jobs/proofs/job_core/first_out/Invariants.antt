use Rattle.std.proofs.Common.{◌<◌, ℕ}
use Rattle.dg_jobs.specs.Jobs.{IsOut}
use Rattle.dg_jobs.proofs.job_core.first_out.Given as goal

abbrev pub invariant-loop-job : goal.invariant-loop-job
invariant-loop-job l = (other : ℕ) → other < l.job → IsOut l.phases other → ⊥
