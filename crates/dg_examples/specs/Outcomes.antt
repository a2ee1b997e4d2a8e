-- What asks and cells come to, in few words.
use Rattle.std.specs.Prelude.{ℕ, List, [], ◌∷◌, map, Option, Some, codes}
use Rattle.dg_decl.specs.declared.document.Doc.{Doc}
use Rattle.dg_value.specs.declared.place.Place.{Place}
use Rattle.dg_value.specs.declared.place.PlaceRoot.{PlaceRoot}
use Rattle.dg_value.specs.declared.place.PlaceRoot.TheVariants as root
use Rattle.dg_value.specs.declared.place.PlaceStep.{PlaceStep}
use Rattle.dg_value.specs.declared.place.PlaceStep.TheVariants as step
use Rattle.dg_value.specs.declared.value.Failure.{Failure}
use Rattle.dg_value.specs.declared.value.Reply.{Reply}
use Rattle.dg_value.specs.declared.value.Reply.TheVariants as reply
use Rattle.dg_value.specs.declared.value.Value.{Value}
use Rattle.dg_value.specs.declared.value.Value.TheVariants as value
use Rattle.dg_value.specs.Places.{then_step}
use Rattle.dg_eval.specs.Asks.{CellName, numbered_asks, answer_to}

-- the replies to the asks of a document, in order
unfoldable pub replies : Doc → List (Option Reply)
replies doc = map (λ p. answer_to doc p.0 p.1) (numbered_asks doc)

-- a value as a reply
abbrev pub with_value : Value → Option Reply
with_value v = Some (reply.Value v)

-- a failure as a reply
abbrev pub with_failure : Failure → Option Reply
with_failure f = Some (reply.Failed f)

-- the place to which these steps lead
abbrev pub place : PlaceRoot → List PlaceStep → Place
place r steps = record { root = r; steps = steps }

-- the cell of a slot in an instance
abbrev pub cell_of : ℕ → ℕ → CellName
cell_of i k = record { inst = i; slot = k }

-- ---- the object of the Lazy

-- its identity: inside the Lazy that the cell of the bar has as its second part
abbrev pub in_lazy : Place
in_lazy = place (root.Cell 0 1) (step.Arg 2 ∷ step.Inside ∷ step.New 1 ∷ [])

-- ---- the failure of the first of two parameters

abbrev pub first_message : Failure
first_message = record { origin = 1; message = codes "no a" }

-- ---- the values of the parent and its child

-- the route of a class that a set holds as its contribution of this number, where the set is
-- evaluated at a place
abbrev pub route : ℕ → ℕ → Place → Value
route class n q =
    value.Object class (then_step (then_step (then_step q (step.Elem n)) (step.Arg 1)) (step.New 1))
    []

abbrev pub home_at : Place → Value
home_at = route 6 1

abbrev pub cart_at : Place → Value
cart_at = route 7 2

abbrev pub help_at : Place → Value
help_at = route 8 3

-- the menu that the first ask is given; it sees three contributions
abbrev pub menu : Value
menu =
    value.Object 9 (place (root.Ask 1) (step.Arg 1 ∷ step.New 1 ∷ []))
    (value.Set (home_at routes ∷ cart_at routes ∷ help_at routes ∷ []) ∷ [])
  where
    routes : Place
    routes = place (root.Ask 1) (step.Arg 1 ∷ step.Arg 1 ∷ [])

-- the index of the parent's instance; it sees two
abbrev pub index : Value
index =
    value.Object 10 (place (root.Cell 0 2) (step.New 1 ∷ []))
    (value.Set (home_at routes ∷ cart_at routes ∷ []) ∷ [])
  where
    routes : Place
    routes = place (root.Cell 0 2) (step.Arg 1 ∷ [])
