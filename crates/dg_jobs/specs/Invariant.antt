use Rattle.std.specs.Prelude.{◌≡◌, ◌≢◌, ◌<◌, ◌⊎◌, ℕ, suc, Option, Some, None, List, length, Contains}
use Rattle.dg_jobs.specs.declared.phase.Phase.{Phase}
use Rattle.dg_jobs.specs.declared.phase.Phase.TheVariants.{Asleep, Wanted, Waits, Done}
use Rattle.dg_jobs.specs.Faithful.{IsUsed, ScopedFull}
use Rattle.dg_jobs.specs.Jobs.{phase_of, result_at, IsFinished, Needs}
use Rattle.dg_jobs.specs.Machine.{Chain, Meanings}

-- the inputs of jobs that aren't asleep aren't asleep
abbrev pub InputsAwake : List (List ℕ) → List Phase → Type 0
InputsAwake inputs phases = (job input : ℕ) → phase_of phases job ≢ Asleep → Needs inputs job input
    → phase_of phases input ≢ Asleep

-- what a job waits on isn't asleep
abbrev pub TargetsAwake : List Phase → Type 0
TargetsAwake phases = (job other : ℕ) → phase_of phases job ≡ Waits other
    → phase_of phases other ≢ Asleep

-- no walk of inputs and forwards returns
abbrev pub NoReturn : List (List ℕ) → List Phase → Type 0
NoReturn inputs phases = (job steps : ℕ) → Chain inputs phases (suc steps) job job → ⊥

-- what is so after every legal list, whatever the jobs mean
pub record Stays (inputs : List (List ℕ)) (jobs : List (List ℕ)) (phases : List Phase) : Type 0
  where
    pub same : jobs ≡ inputs
    pub count : length phases ≡ length jobs
    pub awake : InputsAwake jobs phases
    pub targets : TargetsAwake phases
    pub no_return : NoReturn jobs phases

-- the inputs of jobs that were taken are finished: of those that are neither asleep nor wanted
abbrev pub InputsFinished : List (List ℕ) → List Phase → Type 0
InputsFinished inputs phases = (job input : ℕ) → phase_of phases job ≢ Asleep
    → phase_of phases job ≢ Wanted → Needs inputs job input → IsFinished phases input

-- a job that is wanted for an ask: an ask, or the job of a cell that is used
abbrev pub IsWanted : {R C : Type 0} → Meanings R C → ℕ → Type 0
IsWanted {R} {C} m job = (job < m.asks) ⊎ ((cell : C) × (m.job_of cell ≡ Some job) × IsUsed m cell)

-- what is so after every faithful list
pub record Keeps {R C : Type 0} (m : Meanings R C) (phases : List Phase) (results : List (Option R))
    (full : List (C × R)) : Type 0 where
  pub for_results : length results ≡ length phases
  pub done : (job : ℕ) → phase_of phases job ≡ Done → (result_at results job ≡ Some (m.meaning job))
      × (m.ends_in job ≡ None) × ScopedFull m full job
  pub waits : (job other : ℕ) → phase_of phases job ≡ Waits other → (m.ends_in job ≡ Some other)
      × ScopedFull m full job
  pub full_is : (cell : C) (kept : R) → Contains full (cell, kept) → (kept ≡ m.content cell)
      × IsUsed m cell
  pub wanted : (job : ℕ) → phase_of phases job ≢ Asleep → IsWanted m job
