-- What a hand knows of the deques, and what a call of a hand changes of it.
use Rattle.std.specs.Prelude.{◌≡◌, ◌≢◌, ℕ, ◌+◌, ◌-◌, ◌<◌, ◌≤◌, ◌⊎◌, List, [], ◌∷◌, ◌++◌, length}
use Rattle.std.specs.Prelude.{Some, nat_lt, if◌then◌else◌, slice_get, slice_index_or, slice_set}
use Rattle.dg_steal.specs.declared.tally.Tally.{Tally}
use Rattle.dg_steal.specs.declared.stolen.Stolen.{Stolen}
use Rattle.dg_steal.specs.declared.stolen.Stolen.TheVariants.{Ask, Empty, Again}
use Rattle.dg_steal.specs.Rule.{owner, other, opening, WasEmpty}

-- the number of asks that a new deque has room for
abbrev pub room : ℕ
room = 256

-- of the hand's own deque: which it is, and what its pass knows
pub record Owned : Type 0 where
  pub deque : ℕ × ℕ
  pub tally : Tally

abbrev pub owning : ℕ × ℕ → Tally → Owned
owning deque t = record { deque = deque; tally = t }

-- of the deque of another worker: which it is, what the hand's pass knows, and how many asks it
-- knows to be taken from there, by anyone
pub record Reached : Type 0 where
  pub deque : ℕ × ℕ
  pub tally : Tally
  pub gone : ℕ

abbrev pub reaching : ℕ × ℕ → Tally → ℕ → Reached
reaching deque t gone = record { deque = deque; tally = t; gone = gone }

-- of all deques: those of the other workers stand in the order of the workers
pub record Known : Type 0 where
  pub worker : ℕ
  pub own : Owned
  pub others : List Reached

abbrev pub known : ℕ → Owned → List Reached → Known
known worker own others = record { worker = worker; own = own; others = others }

-- where another worker stands among the others of a worker
abbrev pub index_of : ℕ → ℕ → ℕ
index_of worker from = if nat_lt from worker then from else (from - 1)

-- it is the number of another worker
abbrev pub IsOther : Known → ℕ → Type 0
IsOther h from = (from ≢ h.worker) × (from ≤ length h.others)

-- what the hand knows of the deque of another worker
abbrev pub reached : ℕ → Known → Reached
reached from h = slice_index_or h.others (index_of h.worker from) (reaching (0, 0) (other 0) 0)

-- it is the hand of the same worker, among as many
abbrev pub IsSameHand : Known → Known → Type 0
IsSameHand old new = (new.worker ≡ old.worker) × (length new.others ≡ length old.others)

-- the hand's pass to its own deque made this step, and the hand knows nothing else
abbrev pub OwnDoes : (Tally → Tally → Type 0) → Known → Known → Type 0
OwnDoes step old new =
    (new ≡ known old.worker (owning old.own.deque new.own.tally) old.others)
    × step old.own.tally new.own.tally

-- what the hand knew, and this of the deque of another worker
abbrev pub reaches : ℕ → Reached → Known → Known
reaches from r h = known h.worker h.own (slice_set h.others (index_of h.worker from) r)

-- the hand's pass to the deque of another worker made this step, and the hand knows nothing else,
-- but for how many asks are gone from there
abbrev pub OtherDoes : ℕ → (Tally → Tally → Type 0) → Known → Known → Type 0
OtherDoes from step old new =
    (new ≡ reaches from (reached from new) old)
    × ((reached from new).deque ≡ (reached from old).deque)
    × step (reached from old).tally (reached from new).tally

-- the pass knows what it knew
abbrev pub Stays : Tally → Tally → Type 0
Stays t u = u ≡ t

-- a fact of the ask that a steal took
abbrev pub IfAsk : Stolen → (ℕ → Type 0) → Type 0
IfAsk (Ask ask) P = P ask
IfAsk Empty P = Unit {0}
IfAsk Again P = Unit {0}

-- a fact where a steal took none
abbrev pub IfNoAsk : Stolen → Type 0 → Type 0
IfNoAsk (Ask ask) P = Unit {0}
IfNoAsk Empty P = P
IfNoAsk Again P = P

-- a steal took no ask since the deque held none at one moment; or, where it is worth another try,
-- since the hand learnt that more asks are gone
abbrev pub HasCause : Stolen → Reached → Reached → Type 0
HasCause (Ask ask) old new = Unit {0}
HasCause Empty old new = WasEmpty old.tally
HasCause Again old new = (old.gone < new.gone) ⊎ WasEmpty old.tally

-- a new hand of a worker reaches the deque of another, with a pass that took nothing
abbrev pub ReachesNew : ℕ → ℕ → Known → Known → Type 0
ReachesNew worker from h o =
    ((reached from h).deque ≡ o.own.deque)
    × ((reached from h).tally ≡ other (index_of from worker + 1))

-- the hand of a worker among new hands: its deque is new, and it reaches that of each other worker
abbrev pub IsNew : List Known → ℕ → Known → Type 0
IsNew hands worker h =
    (h.worker ≡ worker) × (h.own.tally ≡ owner (length hands))
    × (length h.others + 1 ≡ length hands)
    × ((from : ℕ) (o : Known) → slice_get hands from ≡ Some o → from ≢ worker
    → ReachesNew worker from h o)

-- they are new hands, one for each worker, in the order of the workers
abbrev pub AreNew : List Known → Type 0
AreNew hands =
    (worker : ℕ) (h : Known) → slice_get hands worker ≡ Some h → IsNew hands worker h

-- a hand that is made meets another: each reaches the deque of the other then
abbrev pub Meet : Known → Owned → Known → Owned → Reached → Type 0
Meet hand own hand' own' theirs =
    (own' ≡ owning own.deque (opening own.tally))
    × (theirs.deque ≡ hand.own.deque) × (theirs.tally ≡ other hand.own.tally.passes)
    × (hand'.worker ≡ hand.worker)
    × (hand'.own ≡ owning hand.own.deque (opening hand.own.tally))
    × ((mine : Reached) × (mine.deque ≡ own.deque) × (mine.tally ≡ other own.tally.passes)
    × (hand'.others ≡ hand.others ++ mine ∷ []))
