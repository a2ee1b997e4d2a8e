-- What evaluates at the depth below.
use Rattle.std.specs.Prelude.{◌≡◌, ℕ, List, Option, Result}
use Rattle.dg_value.specs.declared.place.Place.{Place}
use Rattle.dg_value.specs.declared.value.Value.{Value}
use Rattle.dg_eval.specs.Runs.{Asked}
use Rattle.dg_eval.specs.Meaning.{eval}
use Rattle.dg_requests.specs.declared.stop.Stop.{Stop}
use Rattle.dg_requests.specs.Scopes.{Scope}
use Rattle.dg_requests.specs.Results.{CanRun, Ran}

-- It may be called over objects of this scope where the evaluation of a slot at this depth may be
-- made, and it makes that.
pub record IsBelow {B C : Type 0} (scope : C → Scope) (asked : C → Option (List Asked))
    (can : B → ℕ → ℕ → Place → C → Type 0)
    (gives : B → ℕ → ℕ → Place → C → Result Value Stop → C → Type 0)
    (below : B) (s : Scope) (depth : ℕ) : Type 0 where
  pub callable : (i k : ℕ) (q : Place) (c : C) → scope c ≡ s → CanRun s (eval s.doc depth i k q)
      → can below i k q c
  pub ran : (i k : ℕ) (q : Place) (c d : C) (r : Result Value Stop) → scope c ≡ s
      → CanRun s (eval s.doc depth i k q) → gives below i k q c r d
      → Ran s (eval s.doc depth i k q) (asked c) (asked d) r × (scope d ≡ s)
