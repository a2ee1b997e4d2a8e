-- When two values are equal as elements of a set.
use Rattle.std.specs.Prelude.{Bool, false}
use Rattle.std.specs.Str.{bytes_eq}
use Rattle.std.specs.Ordering.{int_eq}
use Rattle.dg_value.specs.declared.value.Value.{Value, out-Value}
use Rattle.dg_value.specs.declared.value.Kept.{Kept}
use Rattle.dg_value.specs.declared.value.Kept.TheOpen.{Value-F}
use Rattle.dg_value.specs.Places.{same_place}

-- a value as its outermost form with its parts
abbrev pub Layer : Type 0
Layer = Value-F Kept Value

-- Of two values that aren't held: both are equal texts, or equal integers, or objects of one
-- identity.
abbrev pub same_at : Layer → Layer → Bool
same_at (Value-F.Text a) (Value-F.Text b) = bytes_eq a b
same_at (Value-F.Int a) (Value-F.Int b) = int_eq a b
same_at (Value-F.Object c p fields) (Value-F.Object d q others) = same_place p q
same_at v w = false

unfoldable pub same_element : Value → Value → Bool
same_element v w = same_at (out-Value v) (out-Value w)
