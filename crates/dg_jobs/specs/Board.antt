use Rattle.std.specs.Prelude.{◌≡◌, ◌≢◌, ◌+◌, ◌^◌, ◌<◌, ◌≤◌, ◌⊎◌, ℕ, Bool, true, false, nat_eq, Option, Some, None, List, length, map, count_by, slice_index_or, slice_set, is_some, Contains}
use Rattle.dg_jobs.specs.declared.phase.Phase.{Phase}
use Rattle.dg_jobs.specs.declared.phase.Phase.TheVariants.{Asleep, Wanted, Out, Waits, Done}
use Rattle.dg_jobs.specs.declared.board.Board.{Board}
use Rattle.dg_jobs.specs.Jobs.{inputs_of, Needs, phase_of, EndsAt}
use Rattle.dg_jobs.specs.Piles.{choice_at}

-- the lists and counts of a board
pub record Tables : Type 0 where
  pub inputs : List (List ℕ)
  pub phases : List Phase
  pub ends : List (Option ℕ)
  pub passed : List ℕ
  pub places : List (Option ℕ)
  pub ready : ℕ
  pub out : ℕ
  pub finished : ℕ

abbrev pub tables : Board → Tables
tables board = record {
  inputs = map (λ row. row.items) board.inputs.items;
  phases =
      board.phases.items;
  ends = board.ends.items;
  passed = board.passed.items;
  places = board.piles;
  ready = board.ready;
  out = board.out;
  finished = board.finished;
}

abbrev pub is_out : Phase → Bool
is_out Out = true
is_out Asleep = false
is_out Wanted = false
is_out (Waits other) = false
is_out Done = false

abbrev pub is_asleep : Phase → Bool
is_asleep Asleep = true
is_asleep Wanted = false
is_asleep Out = false
is_asleep (Waits other) = false
is_asleep Done = false

abbrev pub is_on : ℕ → Option ℕ → Bool
is_on pile None = false
is_on pile (Some other) = nat_eq other pile

-- how many inputs of a job, from the first one on, were seen finished
abbrev pub passed_of : List ℕ → ℕ → ℕ
passed_of passed job = slice_index_or passed job 0

-- the end of the job isn't noted yet, or it is the current one, whose pile is being emptied
abbrev pub IsOpen : List (Option ℕ) → ℕ → ℕ → Type 0
IsOpen ends current job = (choice_at ends job ≡ None) ⊎ (job ≡ current)

-- the job's end is noted
abbrev pub HasEnd : List (Option ℕ) → ℕ → Type 0
HasEnd ends job = (last : ℕ) × (choice_at ends job ≡ Some last)

-- where a job may stand: on the pile of ready jobs, of a job that it misses, of jobs that end, of
-- jobs that were woken, or on none. The first three of these piles have the numbers that follow
-- those of the jobs
pub data Stands (t : Tables) (current job : ℕ) : Type 0 where
  Sleeps : phase_of t.phases job ≡ Asleep → choice_at t.ends job ≡ None → choice_at t.places job
      ≡ None → Stands t current job
  Is_out : phase_of t.phases job ≡ Out → choice_at t.ends job ≡ None → choice_at t.places job ≡ None
      → Stands t current job
  Is_ready : phase_of t.phases job ≡ Wanted → choice_at t.ends job ≡ None → choice_at t.places job
      ≡ Some (length t.phases) → ((input : ℕ) → Needs t.inputs job input → HasEnd t.ends input)
      → Stands t current job
  Misses : (input : ℕ) → phase_of t.phases job ≡ Wanted → choice_at t.ends job ≡ None
      → choice_at t.places job ≡ Some input → input < length t.phases → Needs t.inputs job input
      → IsOpen t.ends current input → Stands t current job
  Woken : phase_of t.phases job ≡ Wanted → choice_at t.ends job ≡ None → choice_at t.places job
      ≡ Some (length t.phases + 2) → Stands t current job
  Awaits : (other : ℕ) → phase_of t.phases job ≡ Waits other → choice_at t.ends job ≡ None
      → choice_at t.places job ≡ Some other → other < length t.phases → IsOpen t.ends current other
      → Stands t current job
  Passes_on : (other : ℕ) → phase_of t.phases job ≡ Waits other → choice_at t.ends job ≡ None
      → choice_at t.places job ≡ Some (length t.phases + 1) → other < length t.phases
      → HasEnd t.ends other → Stands t current job
  Ends : phase_of t.phases job ≡ Done → choice_at t.ends job ≡ None → choice_at t.places job
      ≡ Some (length t.phases + 1) → Stands t current job
  Ended : phase_of t.phases job ≡ Done → HasEnd t.ends job → choice_at t.places job ≡ None
      → Stands t current job
  Passed_on : (other : ℕ) → phase_of t.phases job ≡ Waits other → HasEnd t.ends job
      → choice_at t.places job ≡ None → Stands t current job

-- the tables fit together, but for the job in hand
pub record Fits (t : Tables) (current hand : ℕ) : Type 0 where
  pub small : length t.phases < 2 ^ 32
  pub for_inputs : length t.inputs ≡ length t.phases
  pub for_ends : length t.ends ≡ length t.phases
  pub for_passed : length t.passed ≡ length t.phases
  pub for_places : length t.places ≡ length t.phases
  pub in_range : (job input : ℕ) → Needs t.inputs job input → input < length t.phases
  pub stands : (job : ℕ) → job < length t.phases → job ≢ hand → Stands t current job
  pub lasts : (job last : ℕ) → choice_at t.ends job ≡ Some last → EndsAt t.phases job last
  pub passed : (job index : ℕ) → index < passed_of t.passed job
      → HasEnd t.ends (slice_index_or (inputs_of t.inputs job) index 0)
  pub ready : count_by (is_on (length t.phases)) t.places ≡ t.ready
  pub out : count_by is_out t.phases ≡ t.out
  pub finished : count_by is_some t.ends ≡ t.finished

-- no job is on the pile
abbrev pub NoneOn : Tables → ℕ → Type 0
NoneOn t pile = (job : ℕ) → choice_at t.places job ≢ Some pile

-- the inputs of jobs that aren't asleep aren't asleep
abbrev pub IsAwake : Tables → Type 0
IsAwake t = (job input : ℕ) → phase_of t.phases job ≢ Asleep → Needs t.inputs job input
    → phase_of t.phases input ≢ Asleep

-- between two calls: no job is in hand, nothing is left to pass on, and nothing is left to wake
pub record IsCalm (t : Tables) : Type 0 where
  pub fits : Fits t (length t.phases) (length t.phases)
  pub none_ends : NoneOn t (length t.phases + 1)
  pub none_woken : NoneOn t (length t.phases + 2)
  pub awake : IsAwake t

-- 1 where a test holds, and else 0
abbrev pub one_if : Bool → ℕ
one_if true = 1
one_if false = 0

-- a job that was on no pile was put on that of ready jobs, or of an input whose end isn't noted
pub record IsFiled (old : Tables) (job : ℕ) (new : Tables) : Type 0 where
  pub pile : ℕ
  pub from : ℕ
  pub is : new ≡ record {
    inputs = old.inputs;
    phases = old.phases;
    ends = old.ends;
    passed =
        slice_set old.passed job from;
    places = slice_set old.places job (Some pile);
    ready =
        old.ready + one_if (nat_eq pile (length old.phases));
    out = old.out;
    finished = old.finished;
  }
  pub seen : (index : ℕ) → passed_of old.passed job ≤ index → index < from
      → HasEnd old.ends (slice_index_or (inputs_of old.inputs job) index 0)
  pub where_to : ((pile ≡ length old.phases) × (from ≡ length (inputs_of old.inputs job))) ⊎ (Needs
      old.inputs job pile × (choice_at old.ends pile ≡ None))

-- of this row, the jobs that were asleep were woken and put on the pile of woken jobs, and nothing
-- else changed
pub record WakesRow (row : List ℕ) (phases : List Phase) (places : List (Option ℕ)) (phases' : List
    Phase) (places' : List (Option ℕ)) : Type 0 where
  pub count : length phases' ≡ length phases
  pub count_places : length places' ≡ length places
  pub each : (other : ℕ) → ((phase_of phases' other ≡ phase_of phases other)
      × (choice_at places' other ≡ choice_at places other)) ⊎ (Contains row other
      × (phase_of phases other ≡ Asleep) × (phase_of phases' other ≡ Wanted)
      × (choice_at places' other ≡ Some (length phases + 2)))
  pub woken : (other : ℕ) → Contains row other → phase_of phases' other ≢ Asleep
  pub ready : count_by (is_on (length phases)) places' ≡ count_by (is_on (length phases)) places
  pub out : count_by is_out phases' ≡ count_by is_out phases
  pub left : count_by is_asleep phases' + count_by (is_on (length phases + 2)) places'
      ≡ count_by is_asleep phases + count_by (is_on (length phases + 2)) places

-- only what the piles say changed
pub record MovesPiles (old new : Tables) : Type 0 where
  pub inputs : new.inputs ≡ old.inputs
  pub phases : new.phases ≡ old.phases
  pub ends : new.ends ≡ old.ends
  pub out : new.out ≡ old.out
  pub finished : new.finished ≡ old.finished

-- the end of a job, from what is noted of the one that it waits on
abbrev pub end_by : List (Option ℕ) → ℕ → Phase → Option ℕ
end_by ends job (Waits other) = choice_at ends other
end_by ends job Asleep = Some job
end_by ends job Wanted = Some job
end_by ends job Out = Some job
end_by ends job Done = Some job

-- the job that a job in this phase waits on is a job
abbrev pub WaitsOnJob : ℕ → Phase → Type 0
WaitsOnJob count (Waits other) = other < count
WaitsOnJob count Asleep = Unit {0}
WaitsOnJob count Wanted = Unit {0}
WaitsOnJob count Out = Unit {0}
WaitsOnJob count Done = Unit {0}

-- the end of a job was noted
abbrev pub noted : Tables → ℕ → Tables
noted t job = record {
  inputs = t.inputs;
  phases = t.phases;
  ends = slice_set t.ends job (end_by
      t.ends job (phase_of t.phases job));
  passed = t.passed;
  places = t.places;
  ready = t.ready;
  out
      = t.out;
  finished = t.finished + 1;
}
