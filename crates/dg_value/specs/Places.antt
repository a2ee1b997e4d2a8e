-- Places and how they go on.
use Rattle.std.specs.Prelude.{◌≡◌, ◌↔◌, Bool, true, false, ◌&&◌, ◌==◌, IsTrue, List, [], ◌∷◌, ◌++◌}
use Rattle.dg_value.specs.declared.place.Place.{Place}
use Rattle.dg_value.specs.declared.place.PlaceRoot.{PlaceRoot}
use Rattle.dg_value.specs.declared.place.PlaceRoot.TheVariants as root
use Rattle.dg_value.specs.declared.place.PlaceStep.{PlaceStep}
use Rattle.dg_value.specs.declared.place.PlaceStep.TheVariants as step

-- a root alone
abbrev pub at_root : PlaceRoot → Place
at_root r = record { root = r; steps = [] }

-- a place, and then this step
abbrev pub then_step : Place → PlaceStep → Place
then_step p s = record { root = p.root; steps = p.steps ++ s ∷ [] }

-- ---- which places are one

abbrev pub same_root : PlaceRoot → PlaceRoot → Bool
same_root (root.Ask n) (root.Ask m) = n == m
same_root (root.Cell i k) (root.Cell j l) = (i == j) && (k == l)
same_root (root.Arg i a) (root.Arg j b) = (i == j) && (a == b)
same_root r s = false

abbrev pub same_step : PlaceStep → PlaceStep → Bool
same_step (step.Arg n) (step.Arg m) = n == m
same_step (step.New n) (step.New m) = n == m
same_step (step.Call n) (step.Call m) = n == m
same_step (step.Elem n) (step.Elem m) = n == m
same_step (step.Step n) (step.Step m) = n == m
same_step step.Inside step.Inside = true
same_step s t = false

abbrev pub same_steps : List PlaceStep → List PlaceStep → Bool
same_steps [] [] = true
same_steps (s ∷ ss) (t ∷ ts) = same_step s t && same_steps ss ts
same_steps ss ts = false

unfoldable pub same_place : Place → Place → Bool
same_place p q = same_root p.root q.root && same_steps p.steps q.steps

-- the law of this test
abbrev pub PlacesTellEqual : Type 0
PlacesTellEqual = (p q : Place) → IsTrue (same_place p q) ↔ (p ≡ q)
