-- What may be asked of an object that keeps contents, and what it was asked for.
use Rattle.std.specs.Prelude.{◌≡◌, ℕ, List, [], ◌∷◌, ◌++◌, Option, Some, None, Result, Ok, Err, Contains, IfOk, option_map}
use Rattle.dg_types.specs.declared.memory.NoMemory.{NoMemory}
use Rattle.dg_decl.specs.declared.document.Doc.{Doc}
use Rattle.dg_decl.specs.Diagnostics.{IsAccepted}
use Rattle.dg_slots.specs.declared.plan.Plan.{Plan}
use Rattle.dg_slots.specs.Plans.{plan_of}
use Rattle.dg_value.specs.declared.value.Kept.{Kept}
use Rattle.dg_value.specs.declared.value.Value.{Value}
use Rattle.dg_eval.specs.declared.world.World.{World}
use Rattle.dg_eval.specs.Runs.{Asked, cell, lazy, Run, as_kept}
use Rattle.dg_eval.specs.World.{world_of}
use Rattle.dg_eval.specs.Meaning.{content_of, lazy_content_of}
use Rattle.dg_eval.specs.Asks.{asked_by, used}

-- What such an object keeps throughout: its document, and which cells and Lazies may be asked of
-- it.
pub record Scope : Type 0 where
  pub doc : Doc
  pub may : List Asked

-- where a cell or Lazy may be asked, what its content asks for first-hand may be asked too
abbrev pub IsClosed : Scope → Type 0
IsClosed s =
    (x y : Asked) → Contains s.may x → Contains (asked_by s.doc x) y → Contains s.may y

-- the content of a cell or of a Lazy
abbrev pub content_at : Doc → Asked → Run Value
content_at doc (cell i k) = content_of doc i k
content_at doc (lazy i k p) = lazy_content_of doc i k p

-- the content of a cell or of a Lazy is this
abbrev pub IsContent : Doc → Asked → Kept → Type 0
IsContent doc x kept = option_map (λ p. as_kept p.0) (content_at doc x) ≡ Some kept

-- a plan and a world are those of an accepted document, of which closed questions may be asked
pub record IsFit (s : Scope) (plan : Plan) (world : World) : Type 0 where
  pub accepted : IsAccepted s.doc
  pub of_plan : plan ≡ plan_of s.doc
  pub of_world : world ≡ world_of s.doc
  pub closed : IsClosed s

-- ---- what was asked for

-- the one is the other, or asks for it first-hand or through others
abbrev pub Uses : Doc → Asked → Asked → Type 0
Uses doc x y = (depth : ℕ) × Contains (used doc depth x) y

-- what was asked for besides is used by one of these
abbrev pub AllUsed : Doc → List Asked → List Asked → Type 0
AllUsed doc asks more =
    (y : Asked) → Contains more y → (x : Asked) × Contains asks x × Uses doc x y

-- and each of these was asked for
pub record Exactly (doc : Doc) (asks more : List Asked) : Type 0 where
  pub used : AllUsed doc asks more
  pub each : (x : Asked) → Contains asks x → Contains more x

-- Where it is told what was asked for before a call, it is told afterwards: more was, of which this
-- holds.
abbrev pub Told : Option (List Asked) → Option (List Asked) → (List Asked → Type 0) → Type 0
Told None new P = Unit {0}
Told (Some old) None P = ⊥
Told (Some old) (Some new) P = (more : List Asked) × (new ≡ old ++ more) × P more

-- What a call asks for that has these to ask for: each of them, unless memory lacks, and nothing
-- that none of them uses.
abbrev pub Asks : {A : Type 0} → Doc → List Asked → Option (List Asked) → Option (List Asked)
    → Result A NoMemory → Type 0
Asks doc asks old new (Ok a) = Told old new (Exactly doc asks)
Asks doc asks old new (Err e) = Told old new (AllUsed doc asks)

-- What was asked for before is held: where it is asked for again, that is all that is asked for, and
-- so it isn't made again.
abbrev pub IsMadeOnce : Asked → Option (List Asked) → Option (List Asked) → Result Kept NoMemory
    → Type 0
IsMadeOnce x (Some old) new (Ok kept) = Contains old x → new ≡ Some (old ++ x ∷ [])
IsMadeOnce x (Some old) new (Err e) = Unit {0}
IsMadeOnce x None new result = Unit {0}

-- A call answers the content of a cell or Lazy, having these to ask for; or memory lacks. It leaves
-- the scope as it is.
pub record Answers (x : Asked) (asks : List Asked) (before after : Scope)
    (old new : Option (List Asked)) (result : Result Kept NoMemory) : Type 0 where
  pub content : IfOk result (IsContent before.doc x)
  pub same : after ≡ before
  pub asked : Asks before.doc asks old new result
