use Rattle.std.proofs.Common.{◌≡◌, length}
use Rattle.dg_jobs.proofs.tests.wide_fan_of_dependents.Given as goal

abbrev pub invariant-loop-job : goal.invariant-loop-job
invariant-loop-job g l = length l.core.inputs ≡ 1000000
