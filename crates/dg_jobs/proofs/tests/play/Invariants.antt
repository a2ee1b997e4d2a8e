use Rattle.std.proofs.Common.{◌≡◌, length}
use Rattle.dg_jobs.proofs.tests.play.Given as goal

abbrev pub invariant-loop-step : goal.invariant-loop-step
invariant-loop-step g l = length l.core.inputs ≡ length l.rows
