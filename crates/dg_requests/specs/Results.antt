-- What a call of the evaluator has to do with the run that it makes.
use Rattle.std.specs.Prelude.{◌≡◌, ℕ, List, [], ◌∷◌, ◌++◌, Option, Some, None, Result, Ok, Err, Contains, option_map}
use Rattle.dg_types.specs.declared.memory.NoMemory.{NoMemory}
use Rattle.dg_decl.specs.declared.document.Doc.{Doc}
use Rattle.dg_value.specs.declared.value.Kept.{Kept}
use Rattle.dg_value.specs.declared.value.Kept.TheVariants as kept
use Rattle.dg_value.specs.declared.value.Value.{Value}
use Rattle.dg_value.specs.declared.value.Value.TheVariants as value
use Rattle.dg_value.specs.declared.value.Kept.TheOpen.{Value-F}
use Rattle.dg_value.specs.Same.{Layer}
use Rattle.dg_eval.specs.Runs.{Asked, Run, asks_of}
use Rattle.dg_eval.specs.Bodies.{End as Ending, value_end, producer_end}
use Rattle.dg_requests.specs.declared.calls.End.{End}
use Rattle.dg_requests.specs.declared.calls.End.TheVariants as end
use Rattle.dg_requests.specs.declared.stop.Stop.{Stop}
use Rattle.dg_requests.specs.declared.stop.Stop.TheVariants as stop
use Rattle.dg_requests.specs.Scopes.{Scope, AllUsed, Exactly, Told}

-- what it asks for may be asked
abbrev pub MayAsk : Scope → List Asked → Type 0
MayAsk s asks = (x : Asked) → Contains asks x → Contains s.may x

-- a run has a result, and may be made over objects of this scope
abbrev pub MayRun : {A : Type 0} → Scope → Run A → Type 0
MayRun s None = ⊥
MayRun s (Some (r, asks)) = MayAsk s asks

pub record CanRun {A : Type 0} (s : Scope) (run : Run A) : Type 0 where
  pub may : MayRun s run

-- a result is that of a run, unless memory lacks
abbrev pub Gave : {A : Type 0} → Run A → Result A Stop → Type 0
Gave run (Ok a) = option_map (λ p. p.0) run ≡ Some (Ok a)
Gave run (Err (stop.Failed f)) = option_map (λ p. p.0) run ≡ Some (Err f)
Gave run (Err stop.NoMemory) = Unit {0}

-- it asked for what a run asks for
abbrev pub AskedFor : {A : Type 0} → Doc → List Asked → Option (List Asked) → Option (List Asked)
    → Result A Stop → Type 0
AskedFor doc asks old new (Ok a) = Told old new (Exactly doc asks)
AskedFor doc asks old new (Err (stop.Failed f)) = Told old new (Exactly doc asks)
AskedFor doc asks old new (Err stop.NoMemory) = Told old new (AllUsed doc asks)

-- a run was made over an object of this scope, which had been asked for the old ones
pub record Ran {A : Type 0} (s : Scope) (run : Run A) (old new : Option (List Asked))
    (result : Result A Stop) : Type 0 where
  pub gave : Gave run result
  pub asked : AskedFor s.doc (asks_of run) old new result

-- the result of an evaluation whose value or failure is kept
abbrev pub result_of : Result Kept NoMemory → Result Value Stop
result_of (Ok (kept.Value v)) = Ok v
result_of (Ok (kept.Failed f)) = Err (stop.Failed f)
result_of (Err e) = Err stop.NoMemory

-- a result whose value is held in the cell of a slot in an instance
abbrev pub held_of : ℕ → ℕ → Result Value Stop → Result Value Stop
held_of i k (Ok v) = Ok (value.Held i k)
held_of i k (Err e) = Err e

-- the instance and the slot whose cell holds a value
abbrev pub held_at : Layer → Option (ℕ × ℕ)
held_at (Value-F.Held i k) = Some (i, k)
held_at other = None

-- the outcome of what an evaluation came to, unless memory lacks
abbrev pub BecomesOutcome : Result Value Stop → Result Value Stop → Type 0
BecomesOutcome came (Ok v) = (k : Kept) × (v ≡ value.Outcome k) × (result_of (Ok k) ≡ came)
BecomesOutcome came (Err e) = e ≡ stop.NoMemory

-- a result is this one, or memory lacks
abbrev pub IsOrLacks : {A : Type 0} → Result A Stop → Result A Stop → Type 0
IsOrLacks wanted (Err stop.NoMemory) = Unit {0}
IsOrLacks wanted other = other ≡ wanted

-- some values, and what is given next; the first failure of a body is that of the whole
abbrev pub joined : Result (List Value) Stop → Result Value Stop → Result (List Value) Stop
joined (Ok vs) (Ok v) = Ok (vs ++ v ∷ [])
joined (Ok vs) (Err e) = Err e
joined (Err e) (Err stop.NoMemory) = Err stop.NoMemory
joined (Err e) other = Err e

-- where a decision tree ends, as the definitions have it
abbrev pub as_end : End → Ending
as_end (end.Value v) = value_end v
as_end (end.Producer i k) = producer_end i k

abbrev pub ends : Result End Stop → Result Ending Stop
ends (Ok e) = Ok (as_end e)
ends (Err e) = Err e
