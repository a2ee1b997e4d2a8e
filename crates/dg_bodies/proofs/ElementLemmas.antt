-- The first two of some values in each other's place.
use Rattle.std.proofs.Common.{◌≡◌, ◌≤◌, List, [], ◌∷◌, length, refl, arith}
use Rattle.std.specs.List.{swap}
use Rattle.dg_value.specs.declared.value.Value.{Value}
use Rattle.dg_bodies.specs.Elements.{as_looked_at}

pub swapped : (vs : List Value) → swap vs 0 1 ≡ as_looked_at vs
swapped [] = refl
swapped (v ∷ []) = refl
swapped (v ∷ w ∷ vs) = refl

pub short : (vs : List Value) → length vs ≤ 1 → as_looked_at vs ≡ vs
short [] h = refl
short (v ∷ []) h = refl
short (v ∷ w ∷ vs) h = absurd (omega arith)

pub ruleset changed_places = (swapped, short)
