use Rattle.std.specs.Prelude.{◌≡◌, ◌<◌, ℕ, length}
use Rattle.dg_jobs.specs.declared.phase.Phase.TheVariants.{Out, Waits}
use Rattle.dg_jobs.specs.declared.calls.Next.{Next}
use Rattle.dg_jobs.specs.declared.calls.Next.TheVariants.{Job, Idle, Ended}
use Rattle.dg_jobs.specs.declared.calls.JobEnd.{JobEnd}
use Rattle.dg_jobs.specs.declared.calls.JobEnd.TheVariants.{Done as Result, Forward}
use Rattle.dg_jobs.specs.declared.calls.JobCounts.{JobCounts}
use Rattle.dg_jobs.specs.Counts.{HasCount}
use Rattle.dg_jobs.specs.Jobs.{Jobs, IsDemanded, IsFinished, IsOut, IsReady, with_phase, with_result}

-- no job is ready
abbrev pub NoneReady : {R : Type 0} → Jobs R → Type 0
NoneReady jobs = (job : ℕ) → IsReady jobs.inputs jobs.phases job → ⊥

-- no job is handed out
abbrev pub NoneOut : {R : Type 0} → Jobs R → Type 0
NoneOut jobs = (job : ℕ) → IsOut jobs.phases job → ⊥

-- a job is handed out
abbrev pub SomeOut : {R : Type 0} → Jobs R → Type 0
SomeOut jobs = (job : ℕ) × IsOut jobs.phases job

-- the answer is a ready job, which is handed out, or the jobs stay as they are
abbrev pub IsTaken : {R : Type 0} → Jobs R → Next → Jobs R → Type 0
IsTaken old (Job job) new = IsReady old.inputs old.phases job × (new ≡ with_phase old job Out)
IsTaken old Idle new = new ≡ old
IsTaken old Ended new = new ≡ old

-- a forward leads to a job
abbrev pub IsEnd : {R : Type 0} → Jobs R → JobEnd R → Type 0
IsEnd jobs (Result result) = Unit {0}
IsEnd jobs (Forward other) = other < length jobs.inputs

-- the job is done, with its result; or it waits on another job, which is demanded
abbrev pub IsEnded : {R : Type 0} → Jobs R → ℕ → JobEnd R → Jobs R → Type 0
IsEnded old job (Result result) new = new ≡ with_result old job result
IsEnded old job (Forward other) new = IsDemanded (with_phase old job (Waits other)) other new

-- how many jobs are ready, handed out and finished
pub record AreCounts {R : Type 0} (jobs : Jobs R) (counts : JobCounts) : Type 0 where
  pub ready : HasCount (IsReady jobs.inputs jobs.phases) (length jobs.inputs) counts.ready
  pub out : HasCount (IsOut jobs.phases) (length jobs.inputs) counts.out
  pub finished : HasCount (IsFinished jobs.phases) (length jobs.inputs) counts.finished
