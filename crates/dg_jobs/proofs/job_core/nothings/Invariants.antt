use Rattle.std.proofs.Common.{◌≡◌, None, replicate}
use Rattle.dg_jobs.proofs.job_core.nothings.Given as goal

abbrev pub invariant-loop-job : goal.invariant-loop-job
invariant-loop-job g l = l.results.items ≡ replicate l._job None
