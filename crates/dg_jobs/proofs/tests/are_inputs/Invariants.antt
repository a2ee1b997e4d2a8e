use Rattle.std.proofs.Common.{◌<◌, ℕ, All, Vec, Global, vec_len, get_or}
use Rattle.dg_jobs.proofs.tests.are_inputs.Given as goal

abbrev pub invariant-loop-job : goal.invariant-loop-job
invariant-loop-job l = (k : ℕ) (d : Vec ℕ Global) → k < l.job → All (λ input. input < vec_len l.inputs) (get_or l.inputs.items k d).items
