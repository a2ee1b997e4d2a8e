-- What cells hold, and what stands behind a value.
use Rattle.std.specs.Prelude.{ℕ, zero, suc, Bool, ◌&&◌, ◌==◌, List, Option, Some, None, option_map, option_and_then}
use Rattle.std.specs.List.{find}
use Rattle.dg_value.specs.declared.value.Kept.{Kept, out-Kept}
use Rattle.dg_value.specs.declared.value.Kept.TheOpen.{Kept-F, Value-F}
use Rattle.dg_value.specs.declared.value.Value.{Value, out-Value}
use Rattle.dg_value.specs.Same.{Layer}

-- the content of the cell of a slot in an instance, where it is held
abbrev pub ContentOf : Type 0
ContentOf = ℕ → ℕ → Option Kept

-- an instance, a slot, and the content of their cell
abbrev pub CellKept : Type 0
CellKept = ℕ × ℕ × Kept

-- it is the cell of this slot in this instance
abbrev pub is_cell : ℕ → ℕ → CellKept → Bool
is_cell inst slot c = (c.0 == inst) && (c.1 == slot)

-- the content of a cell in a list: the first one of this cell
abbrev pub content_in : List CellKept → ContentOf
content_in cells inst slot = option_map (λ c. c.2) (find (is_cell inst slot) cells)

-- the value that a cell keeps, where it isn't a failure
abbrev pub kept_value : Kept → Option Value
kept_value k = at_layer (out-Kept k)
  where
    at_layer : Kept-F Kept Value → Option Value
    at_layer (Kept-F.Value v) = Some v
    at_layer (Kept-F.Failed f) = None

-- a value, or what a held one comes to
abbrev pub unless_held : (ℕ → ℕ → Option Value) → Value → Layer → Option Value
unless_held of_cell v (Value-F.Held inst slot) = of_cell inst slot
unless_held of_cell v other = Some v

-- what stands behind a value, through at most so many cells
unfoldable pub look_through : ContentOf → ℕ → Value → Option Value
look_through content zero v = unless_held (λ inst slot. None) v (out-Value v)
look_through content (suc times) v =
    unless_held
    (λ inst slot. option_and_then (look_through content times)
    (option_and_then kept_value (content inst slot))) v (out-Value v)

-- what stands behind a value: no more than 128 cells stand behind one another
unfoldable pub look : ContentOf → Value → Option Value
look content v = look_through content 128 v
