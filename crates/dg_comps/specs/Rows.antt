-- The statements that belong to each class.
use Rattle.std.specs.Prelude.{◌≡◌, ◌<◌, ℕ, Bool, ◌&&◌, if◌then◌else◌, List, map, filter, length, Option, None, option_and_then, slice_get, Vec}
use Rattle.std.specs.Global.{Global}
use Rattle.dg_num.specs.Graph.{row_at}
use Rattle.dg_decl.specs.declared.document.Doc.{Doc}
use Rattle.dg_decl.specs.Document.{Statement, statements}
use Rattle.dg_decl.specs.Names.{is_module}
use Rattle.dg_decl.specs.Components.{is_number, class_named, install_in, number_of_header, is_installed}

-- which statements belong to a class
abbrev pub Belongs : Type 0
Belongs = ℕ → Statement → Bool

-- the indices of those that do
abbrev pub indices : Belongs → List Statement → ℕ → List ℕ
indices belongs ss class = map (λ s. s.index) (filter (belongs class) ss)

-- a row for each class, with the indices of the statements that belong to it
pub record AreRows (belongs : Belongs) (doc : Doc) (count : ℕ) (rows : List (Vec ℕ Global))
    : Type 0 where
  pub len : length rows ≡ count
  pub each : (class : ℕ) → class < count
      → row_at rows class ≡ indices belongs (statements doc) class

-- the class in which a module is installed by an annotation
abbrev pub annotated_class : Doc → Statement → Option ℕ
annotated_class doc s = option_and_then (class_named doc) (install_in s.item)

abbrev pub is_annotated : Doc → Belongs
is_annotated doc class s = is_number class (annotated_class doc s)

-- the class in the block of whose header a statement stands
abbrev pub member_class : Doc → Statement → Option ℕ
member_class doc s =
    option_and_then (number_of_header doc) (option_and_then (slice_get (statements doc)) s.block)

abbrev pub is_member : Doc → Belongs
is_member doc class s = is_number class (member_class doc s)

-- a module is installed in a class
abbrev pub is_installed_at : Doc → Belongs
is_installed_at doc class s = is_module s.item && is_installed doc class s.index
