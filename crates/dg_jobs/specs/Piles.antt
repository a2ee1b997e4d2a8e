use Rattle.std.specs.Prelude.{◌≡◌, ◌+◌, ◌^◌, ◌<◌, ◌⊎◌, ℕ, Option, Some, None, List, [], ◌∷◌, length, slice_index_or}
use Rattle.dg_jobs.specs.declared.piles.Piles.TheInside.{Inside}

-- what stands in a list of choices, and nothing past its end
abbrev pub choice_at : List (Option ℕ) → ℕ → Option ℕ
choice_at choices index = slice_index_or choices index None

-- the pile that each job is on
abbrev pub places : Inside → List (Option ℕ)
places piles = piles.place.items

-- the job is one of these
abbrev pub IsIn : List ℕ → ℕ → Type 0
IsIn [] job = ⊥
IsIn (first ∷ jobs) job = (first ≡ job) ⊎ IsIn jobs job

-- the jobs from the top of a pile to its bottom: each is said to be on it, and comes once
abbrev pub IsPile : List (Option ℕ) → List (Option ℕ) → ℕ → Option ℕ → List ℕ → Type 0
IsPile place below pile top [] = top ≡ None
IsPile place below pile top (job ∷ jobs) =
    (top ≡ Some job) × (choice_at place job ≡ Some pile) × (IsIn jobs job → ⊥)
    × IsPile place below pile (choice_at below job) jobs

-- a pile has exactly the jobs that are said to be on it
pub record HasPile (place below : List (Option ℕ)) (pile : ℕ) (top : Option ℕ) : Type 0 where
  pub jobs : List ℕ
  pub is_pile : IsPile place below pile top jobs
  pub all : (job : ℕ) → choice_at place job ≡ Some pile → IsIn jobs job

-- each pile has exactly the jobs that are said to be on it
pub record AreStacked (place below top : List (Option ℕ)) : Type 0 where
  pub small : length place < 2 ^ 32
  pub belows : length below ≡ length place
  pub tops : length top ≡ length place + 3
  pub each : (pile : ℕ) → HasPile place below pile (choice_at top pile)

abbrev pub IsStacked : Inside → Type 0
IsStacked piles = AreStacked piles.place.items piles.below.items piles.top.items
