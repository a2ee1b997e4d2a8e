-- Types as the stage of types finds them in a document.
use Rattle.std.specs.Prelude.{Option, Some, None}
use Rattle.dg_lex.specs.Bytes.{Bytes}
use Rattle.dg_types.specs.declared.shape.Shape.{Shape}
use Rattle.dg_types.specs.declared.shape.Shape.TheOpen.{Shape-F}
use Rattle.dg_types.specs.declared.shape.Shape.TheVariants as shape
use Rattle.dg_types.specs.Requests.{Layer}
use Rattle.dg_typing.specs.declared.types_stage.given.Form.{Form}
use Rattle.dg_typing.specs.declared.types_stage.given.Form.TheVariants as form

-- the type that is found
abbrev pub shape_of : Form → Shape
shape_of form.Text = shape.Text
shape_of form.Int = shape.Int
shape_of (form.Object class) = shape.Named class.now
shape_of (form.Whole t) = t.now
shape_of (form.Set t) = shape.Set t.now
shape_of (form.Map k t) = shape.Map k.now t.now

-- the name of a class or interface
abbrev pub class_at : Layer → Option Bytes
class_at (Shape-F.Named n) = Some n
class_at other = None
