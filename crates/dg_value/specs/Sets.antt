-- Sets: lists of values, no two of which are equal by what stands behind them.
use Rattle.std.specs.Prelude.{Bool, false, if◌then◌else◌, List, [], ◌∷◌, ◌++◌, Option, Some}
use Rattle.std.specs.List.{list_any}
use Rattle.dg_value.specs.declared.value.Value.{Value}
use Rattle.dg_value.specs.Contents.{ContentOf, look}
use Rattle.dg_value.specs.Same.{same_element}

-- the two are there, and equal as elements
abbrev pub both_same : Option Value → Option Value → Bool
both_same (Some v) (Some w) = same_element v w
both_same v w = false

-- two values are equal as elements, by what stands behind them
unfoldable pub same_behind : ContentOf → Value → Value → Bool
same_behind content v w = both_same (look content v) (look content w)

-- a set with one element more, unless an element is equal to it
unfoldable pub with_element : ContentOf → List Value → Value → List Value
with_element content vs v = if list_any (same_behind content v) vs then vs else vs ++ v ∷ []
