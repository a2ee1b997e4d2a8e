use Rattle.std.specs.Prelude.{◌≡◌, ◌≢◌, ◌<◌, ◌≤◌, ◌⊎◌, ◌↔◌, ℕ, zero, suc, Some, None, List, [], ◌∷◌, length, Contains}
use Rattle.dg_jobs.specs.declared.phase.Phase.TheVariants.{Asleep}
use Rattle.dg_jobs.specs.Calls.{NoneOut, NoneReady}
use Rattle.dg_jobs.specs.Jobs.{phase_of, result_at, EndsAt, IsFinished, Needs}
use Rattle.dg_jobs.specs.Machine.{Comes, Demand, Event, Fill, Finish, Forward, IsFull, MayCome, Meanings, PutBack, State, Take, start}

-- the job needs the other, or its content ends in that of the other's cell
abbrev pub GoesOn : {R C : Type 0} → Meanings R C → ℕ → ℕ → Type 0
GoesOn m job other = Needs m.inputs job other ⊎ (m.ends_in job ≡ Some other)

-- a walk of this many such steps leads from the job to the other
abbrev pub MeaningWalk : {R C : Type 0} → Meanings R C → ℕ → ℕ → ℕ → Type 0
MeaningWalk m zero job other = job ≡ other
MeaningWalk m (suc steps) job other = (next : ℕ) × GoesOn m job next
    × MeaningWalk m steps next other

-- an ask uses the cell directly, or the job of a producer cell does to which so many such steps
-- lead
abbrev pub UsedAfter : {R C : Type 0} → Meanings R C → ℕ → C → Type 0
UsedAfter m zero cell = (ask : ℕ) × (ask < m.asks) × Contains (m.uses ask) cell
UsedAfter {R} {C} m (suc steps) cell = (from : C) × (job : ℕ) × UsedAfter m steps from
    × (m.job_of from ≡ Some job) × Contains (m.uses job) cell

-- the cell is in the least set that has what asks use directly, and what the jobs of its producer
-- cells do
abbrev pub IsUsed : {R C : Type 0} → Meanings R C → C → Type 0
IsUsed m cell = (steps : ℕ) × UsedAfter m steps cell

-- the jobs and cells are those of one document: no walk of inputs and ends returns; the producer
-- cells that a job uses directly are those of its inputs and the one in whose content it ends,
-- whose meaning it then has; and the cells of the document are those that are used
pub record FitTogether {R C : Type 0} (m : Meanings R C) : Type 0 where
  pub asks : m.asks ≤ length m.inputs
  pub in_range : (job other : ℕ) → Needs m.inputs job other → other < length m.inputs
  pub no_return : (job steps : ℕ) → MeaningWalk m (suc steps) job job → ⊥
  pub same_meaning : (job other : ℕ) → job < length m.inputs → m.ends_in job ≡ Some other
      → m.meaning job ≡ m.meaning other
  pub used : (job other : ℕ) → job < length m.inputs → GoesOn m job other → (cell : C)
      × Contains (m.uses job) cell × (m.job_of cell ≡ Some other)
  pub only_used : (job other : ℕ) (cell : C) → job < length m.inputs → Contains (m.uses job) cell
      → m.job_of cell ≡ Some other → GoesOn m job other
  pub content : (cell : C) (job : ℕ) → m.job_of cell ≡ Some job → (m.asks ≤ job)
      × (job < length m.inputs) × (m.meaning job ≡ m.content cell)
  pub one_cell : (cell other : C) (job : ℕ) → m.job_of cell ≡ Some job → m.job_of other ≡ Some job
      → cell ≡ other
  pub least : (cell : C) → Contains m.cells cell ↔ IsUsed m cell

-- the scoped cells that the job uses directly are full
abbrev pub ScopedFull : {R C : Type 0} → Meanings R C → List (C × R) → ℕ → Type 0
ScopedFull {R} {C} m full job = (cell : C) → Contains (m.uses job) cell → m.job_of cell ≡ None
    → IsFull full cell

-- what jobs are asked for and how they end is what they mean
abbrev pub IsFaithful : {R C : Type 0} → Meanings R C → State R C → Event R C → Type 0
IsFaithful m s (Demand job) = job < m.asks
IsFaithful m s (Take job) = Unit {0}
IsFaithful m s (Finish job result) = (result ≡ m.meaning job) × (m.ends_in job ≡ None)
    × ScopedFull m s.full job
IsFaithful m s (Forward job other) = (m.ends_in job ≡ Some other) × ScopedFull m s.full job
IsFaithful m s (PutBack job) = Unit {0}
IsFaithful m s (Fill cell) = Unit {0}

-- these events may come in this order, are faithful, and lead from the one state to the other
abbrev pub FaithfulFrom : {R C : Type 0} → Meanings R C → State R C → List (Event R C) → State R C
    → Type 0
FaithfulFrom m s [] t = t ≡ s
FaithfulFrom {R} {C} m s (event ∷ events) t = (next : State R C) × MayCome m s event
    × IsFaithful m s event × Comes m s event next × FaithfulFrom m next events t

-- the same from the start
abbrev pub Faithful : {R C : Type 0} → Meanings R C → List (Event R C) → State R C → Type 0
Faithful m events t = FaithfulFrom m (start m) events t

-- the cell is full, or it is the cell of a finished job
abbrev pub IsMade : {R C : Type 0} → Meanings R C → State R C → C → Type 0
IsMade m t cell = IsFull t.full cell ⊎ ((job : ℕ) × (m.job_of cell ≡ Some job)
    × IsFinished t.jobs.phases job)

-- finished jobs have the results that they mean, full cells hold what they mean, only cells of the
-- document are made, and all are once nothing is left to do
pub record AreRight {R C : Type 0} (m : Meanings R C) (t : State R C) : Type 0 where
  pub results : (job last : ℕ) → EndsAt t.jobs.phases job last → result_at t.jobs.results last
      ≡ Some (m.meaning job)
  pub contents : (job last : ℕ) (cell : C) → m.job_of cell ≡ Some job
      → EndsAt t.jobs.phases job last → result_at t.jobs.results last ≡ Some (m.content cell)
  pub full : (cell : C) (kept : R) → Contains t.full (cell, kept) → (kept ≡ m.content cell)
      × Contains m.cells cell
  pub needed : (job : ℕ) → m.asks ≤ job → phase_of t.jobs.phases job ≢ Asleep → (cell : C)
      × (m.job_of cell ≡ Some job) × Contains m.cells cell
  pub exact : NoneReady t.jobs → NoneOut t.jobs → ((ask : ℕ) → ask < m.asks
      → phase_of t.jobs.phases ask ≢ Asleep) → (cell : C) → Contains m.cells cell ↔ IsMade m t cell
