-- The types to which paths come.
use Rattle.std.specs.Prelude.{Option, None, Some}
use Rattle.std.specs.Borrow.{Bor}
use Rattle.dg_types.specs.declared.shape.Shape.{Shape}
use Rattle.dg_types.specs.declared.shape.Shape.TheVariants as shape

-- the type that a document has, or else that of a name
abbrev pub type_in : Option (Bor Shape) → Shape
type_in None = shape.Text
type_in (Some t) = t.now
