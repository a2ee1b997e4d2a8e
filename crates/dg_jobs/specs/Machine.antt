use Rattle.std.specs.Prelude.{◌≡◌, ◌≢◌, ◌<◌, ◌⊎◌, ℕ, zero, suc, Bool, false, nat_eq, Option, None, List, [], ◌∷◌, length, replicate, count_by, Contains}
use Rattle.dg_jobs.specs.declared.phase.Phase.{Phase}
use Rattle.dg_jobs.specs.declared.phase.Phase.TheVariants.{Asleep, Wanted, Out, Waits}
use Rattle.dg_jobs.specs.Jobs.{Jobs, phase_of, IsDemanded, IsFinished, IsOut, IsReady, Needs, with_phase, with_result}

-- what can happen: to a job, or to a cell that jobs fill for one another
pub data Event (R C : Type 0) : Type 0 where
  Demand : ℕ → Event R C
  Take : ℕ → Event R C
  Finish : ℕ → R → Event R C
  Forward : ℕ → ℕ → Event R C
  PutBack : ℕ → Event R C
  Fill : C → Event R C

-- jobs with what they mean. The jobs below `asks` are asks; each other job makes the content of one
-- cell, its producer cell. A job uses a cell directly where it comes to the cell through no
-- producer cell
pub record Meanings (R C : Type 0) : Type 0 where
  pub inputs : List (List ℕ)
  pub asks : ℕ
  pub meaning : ℕ → R
  pub ends_in : ℕ → Option ℕ
  pub uses : ℕ → List C
  pub job_of : C → Option ℕ
  pub content : C → R
  pub cells : List C

-- the jobs, and the cells that are full, each with what it holds
pub record State (R C : Type 0) : Type 0 where
  pub jobs : Jobs R
  pub full : List (C × R)

-- the job needs the other, or waits on it
abbrev pub LeadsTo : List (List ℕ) → List Phase → ℕ → ℕ → Type 0
LeadsTo inputs phases job other = Needs inputs job other ⊎ (phase_of phases job ≡ Waits other)

-- a walk of this many inputs and forwards leads from the job to the other
abbrev pub Chain : List (List ℕ) → List Phase → ℕ → ℕ → ℕ → Type 0
Chain inputs phases zero job other = job ≡ other
Chain inputs phases (suc steps) job other = (next : ℕ) × LeadsTo inputs phases job next
    × Chain inputs phases steps next other

-- each input is a job, and no walk of inputs returns
pub record AreInputs (inputs : List (List ℕ)) : Type 0 where
  pub in_range : (job input : ℕ) → Needs inputs job input → input < length inputs
  pub no_return : (job steps : ℕ) → Chain inputs [] (suc steps) job job → ⊥

-- the cell is full
abbrev pub IsFull : {R C : Type 0} → List (C × R) → C → Type 0
IsFull {R} {C} full cell = (kept : R) × Contains full (cell, kept)

-- when an event may come
abbrev pub MayCome : {R C : Type 0} → Meanings R C → State R C → Event R C → Type 0
MayCome m s (Demand job) = job < length s.jobs.inputs
MayCome m s (Take job) = IsReady s.jobs.inputs s.jobs.phases job
MayCome m s (Finish job result) = IsOut s.jobs.phases job
MayCome m s (Forward job other) =
    IsOut s.jobs.phases job × (other < length s.jobs.inputs) × (other ≢ job) × ((steps : ℕ)
    → Chain s.jobs.inputs s.jobs.phases steps other job → ⊥)
MayCome m s (PutBack job) = IsOut s.jobs.phases job
MayCome m s (Fill cell) =
    (m.job_of cell ≡ None) × (IsFull s.full cell → ⊥) × ((job : ℕ)
    × (IsOut s.jobs.phases job ⊎ IsFinished s.jobs.phases job) × Contains (m.uses job) cell)

-- what is so afterwards
abbrev pub Comes : {R C : Type 0} → Meanings R C → State R C → Event R C → State R C → Type 0
Comes m s (Demand job) t = IsDemanded s.jobs job t.jobs × (t.full ≡ s.full)
Comes m s (Take job) t = (t.jobs ≡ with_phase s.jobs job Out) × (t.full ≡ s.full)
Comes m s (Finish job result) t = (t.jobs ≡ with_result s.jobs job result) × (t.full ≡ s.full)
Comes m s (Forward job other) t = IsDemanded (with_phase s.jobs job (Waits other)) other t.jobs
    × (t.full ≡ s.full)
Comes m s (PutBack job) t = (t.jobs ≡ with_phase s.jobs job Wanted) × (t.full ≡ s.full)
Comes m s (Fill cell) t = (t.jobs ≡ s.jobs) × (t.full ≡ (cell, m.content cell) ∷ s.full)

-- all jobs asleep, and no cell full
abbrev pub start : {R C : Type 0} → Meanings R C → State R C
start m = record {
  jobs = record {
    inputs = m.inputs;
    phases = replicate (length m.inputs) Asleep;
    results = replicate (length m.inputs) None;
  };
  full = [];
}

-- these events may come in this order from the one state, and lead to the other
abbrev pub LegalFrom : {R C : Type 0} → Meanings R C → State R C → List (Event R C) → State R C
    → Type 0
LegalFrom m s [] t = t ≡ s
LegalFrom {R} {C} m s (event ∷ events) t = (next : State R C) × MayCome m s event
    × Comes m s event next × LegalFrom m next events t

-- these events may come in this order from the start, and lead to the state
abbrev pub Legal : {R C : Type 0} → Meanings R C → List (Event R C) → State R C → Type 0
Legal m events t = LegalFrom m (start m) events t

abbrev pub is_take : {R C : Type 0} → ℕ → Event R C → Bool
is_take job (Take other) = nat_eq other job
is_take job (Demand other) = false
is_take job (Finish other result) = false
is_take job (Forward other to) = false
is_take job (PutBack other) = false
is_take job (Fill cell) = false

abbrev pub is_put_back : {R C : Type 0} → ℕ → Event R C → Bool
is_put_back job (PutBack other) = nat_eq other job
is_put_back job (Take other) = false
is_put_back job (Demand other) = false
is_put_back job (Finish other result) = false
is_put_back job (Forward other to) = false
is_put_back job (Fill cell) = false

-- how often a job was taken
abbrev pub takes_of : {R C : Type 0} → List (Event R C) → ℕ → ℕ
takes_of events job = count_by (is_take job) events

-- how often a job was put back
abbrev pub put_backs_of : {R C : Type 0} → List (Event R C) → ℕ → ℕ
put_backs_of events job = count_by (is_put_back job) events
