-- What an evaluation comes to, and what it asks for on the way.
use Rattle.std.specs.Prelude.{ℕ, List, [], ◌∷◌, ◌++◌, Option, Some, None, Result, Ok, Err}
use Rattle.dg_lex.specs.Bytes.{Bytes}
use Rattle.dg_value.specs.declared.place.Place.{Place}
use Rattle.dg_value.specs.declared.value.Value.{Value}
use Rattle.dg_value.specs.declared.value.Value.TheVariants as value
use Rattle.dg_value.specs.declared.value.Kept.{Kept}
use Rattle.dg_value.specs.declared.value.Kept.TheVariants as kept
use Rattle.dg_value.specs.declared.value.Failure.{Failure}

-- what an evaluation asks for first-hand: the cell of a slot in an instance, or the Lazy of a place
pub data Asked : Type 0 where
  cell : ℕ → ℕ → Asked
  lazy : ℕ → ℕ → Place → Asked

-- A run of an evaluation at a depth: none where the depth isn't enough; else its result or the
-- failure, with what it asked for, in order.
abbrev pub Run : Type 0 → Type 0
Run A = Option (Result A Failure × List Asked)

abbrev pub gives : {A : Type 0} → A → Run A
gives a = Some (Ok a, [])

abbrev pub fails : {A : Type 0} → Failure → Run A
fails f = Some (Err f, [])

-- a run after these were asked for
abbrev pub before : {A : Type 0} → List Asked → Run A → Run A
before asked None = None
before asked (Some (r, more)) = Some (r, asked ++ more)

-- a run, and what goes on with its result; a failure is that of the whole
abbrev pub and_then : {A B : Type 0} → Run A → (A → Run B) → Run B
and_then None next = None
and_then (Some (Ok a, asked)) next = before asked (next a)
and_then (Some (Err f, asked)) next = Some (Err f, asked)

-- the result of a run, by which this alone was asked for
abbrev pub asking : {A : Type 0} → Asked → Run A → Run A
asking x None = None
asking x (Some (r, asked)) = Some (r, x ∷ [])

-- the first failure of two
abbrev pub first_failure : {A : Type 0} → Result A Failure → Result (List A) Failure
    → Result (List A) Failure
first_failure (Ok a) (Ok more) = Ok (a ∷ more)
first_failure (Ok a) (Err f) = Err f
first_failure (Err f) more = Err f

abbrev pub both : {A : Type 0} → Run A → Run (List A) → Run (List A)
both None more = None
both (Some r) None = None
both (Some (a, asked)) (Some (more, others)) = Some (first_failure a more, asked ++ others)

-- all of some runs, in order, whatever they give; the first failure is that of the whole
abbrev pub all : {A : Type 0} → List (Run A) → Run (List A)
all [] = gives []
all (r ∷ rs) = both r (all rs)

-- some runs, each where those before it gave a result
abbrev pub in_order : {A : Type 0} → List (Run A) → Run (List A)
in_order [] = gives []
in_order (r ∷ rs) = and_then r (λ a. and_then (in_order rs) (λ more. gives (a ∷ more)))

-- what became of a run, as a value: it never fails
abbrev pub as_outcome : Result Value Failure → Value
as_outcome (Ok v) = value.Outcome (kept.Value v)
as_outcome (Err f) = value.Outcome (kept.Failed f)

abbrev pub outcome_of : Run Value → Run Value
outcome_of None = None
outcome_of (Some (r, asked)) = Some (Ok (as_outcome r), asked)

abbrev pub as_kept : Result Value Failure → Kept
as_kept (Ok v) = kept.Value v
as_kept (Err f) = kept.Failed f

-- what a value that is kept gives
abbrev pub of_kept : Kept → Run Value
of_kept (kept.Value v) = gives v
of_kept (kept.Failed f) = fails f

-- what a run asked for
abbrev pub asks_of : {A : Type 0} → Run A → List Asked
asks_of None = []
asks_of (Some (r, asked)) = asked

-- the failure of a body with this message
abbrev pub failed : {A : Type 0} → ℕ → Bytes → Run A
failed origin message = fails (record { origin = origin; message = message })

-- Nothing that an accepted document does: a part of a value that isn't there. It fails without a
-- message.
abbrev pub mistyped : {A : Type 0} → Run A
mistyped = failed 0 []
