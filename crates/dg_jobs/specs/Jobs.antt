use Rattle.std.specs.Prelude.{◌≡◌, ◌≢◌, ◌≤◌, ◌⊎◌, ℕ, zero, suc, Option, Some, None, List, [], length, slice_index_or, slice_set, Contains}
use Rattle.dg_jobs.specs.declared.phase.Phase.{Phase}
use Rattle.dg_jobs.specs.declared.phase.Phase.TheVariants.{Asleep, Wanted, Out, Waits, Done}

-- jobs, numbered from 0: the jobs that each one needs, where each one is in its life, and the
-- results that are kept
pub record Jobs (R : Type 0) : Type 0 where
  pub inputs : List (List ℕ)
  pub phases : List Phase
  pub results : List (Option R)

-- the jobs that a job needs
abbrev pub inputs_of : List (List ℕ) → ℕ → List ℕ
inputs_of inputs job = slice_index_or inputs job []

-- the other job is an input of the job
abbrev pub Needs : List (List ℕ) → ℕ → ℕ → Type 0
Needs inputs job other = Contains (inputs_of inputs job) other

-- a walk of this many inputs leads from the job to the other
abbrev pub Walk : List (List ℕ) → ℕ → ℕ → ℕ → Type 0
Walk inputs zero job other = job ≡ other
Walk inputs (suc steps) job other = (next : ℕ) × Needs inputs job next
    × Walk inputs steps next other

-- a walk of inputs, maybe of none, leads from the job to the other
abbrev pub Reaches : List (List ℕ) → ℕ → ℕ → Type 0
Reaches inputs job other = (steps : ℕ) × Walk inputs steps job other

-- where a job is in its life; a number that is no job's is asleep
abbrev pub phase_of : List Phase → ℕ → Phase
phase_of phases job = slice_index_or phases job Asleep

-- this many forwards lead from the job to the last, which is done
abbrev pub Follows : List Phase → ℕ → ℕ → ℕ → Type 0
Follows phases zero job last = (job ≡ last) × (phase_of phases job ≡ Done)
Follows phases (suc steps) job last = (next : ℕ) × (phase_of phases job ≡ Waits next)
    × Follows phases steps next last

-- the job is finished, with the result of the last
abbrev pub EndsAt : List Phase → ℕ → ℕ → Type 0
EndsAt phases job last = (steps : ℕ) × Follows phases steps job last

-- the job is done, or waits on a finished job
abbrev pub IsFinished : List Phase → ℕ → Type 0
IsFinished phases job = (last : ℕ) × EndsAt phases job last

-- the job is wanted and its inputs are finished
pub record IsReady (inputs : List (List ℕ)) (phases : List Phase) (job : ℕ) : Type 0 where
  pub wanted : phase_of phases job ≡ Wanted
  pub fed : (input : ℕ) → Needs inputs job input → IsFinished phases input

-- the job is handed out
abbrev pub IsOut : List Phase → ℕ → Type 0
IsOut phases job = phase_of phases job ≡ Out

-- the result that is kept for a job that is done
abbrev pub result_at : {R : Type 0} → List (Option R) → ℕ → Option R
result_at results job = slice_index_or results job None

-- the job and all that walks of inputs lead to from it were woken, and nothing else changed
pub record Wakes (inputs : List (List ℕ)) (job : ℕ) (before after : List Phase) : Type 0 where
  pub count : length after ≡ length before
  pub each : (other : ℕ) → (phase_of after other ≡ phase_of before other) ⊎ (Reaches inputs job
      other × (phase_of before other ≡ Asleep) × (phase_of after other ≡ Wanted))
  pub woken : (other : ℕ) → Reaches inputs job other → phase_of after other ≢ Asleep

-- the jobs after a demand
pub record IsDemanded {R : Type 0} (old : Jobs R) (job : ℕ) (new : Jobs R) : Type 0 where
  pub inputs : new.inputs ≡ old.inputs
  pub phases : Wakes old.inputs job old.phases new.phases
  pub results : new.results ≡ old.results

-- the same jobs, with one in another phase
abbrev pub with_phase : {R : Type 0} → Jobs R → ℕ → Phase → Jobs R
with_phase jobs job phase = record {
  inputs = jobs.inputs;
  phases = slice_set jobs.phases job phase;
  results = jobs.results;
}

-- the same jobs, with one done that has this result
abbrev pub with_result : {R : Type 0} → Jobs R → ℕ → R → Jobs R
with_result jobs job result = record {
  inputs = jobs.inputs;
  phases = slice_set jobs.phases job
      Done;
  results = slice_set jobs.results job (Some result);
}

-- the same jobs, where the result of one isn't kept
abbrev pub without_result : {R : Type 0} → Jobs R → ℕ → Jobs R
without_result jobs job = record {
  inputs = jobs.inputs;
  phases = jobs.phases;
  results = slice_set
      jobs.results job None;
}

-- the least job that is handed out
pub record IsFirstOut (phases : List Phase) (job : ℕ) : Type 0 where
  pub is_out : IsOut phases job
  pub least : (other : ℕ) → IsOut phases other → job ≤ other
