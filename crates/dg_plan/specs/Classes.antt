-- The numbers of the classes that a document declares, by line.
use Rattle.std.specs.Prelude.{◌≡◌, ℕ, if◌then◌else◌, List, [], ◌∷◌, Option, Some, None}
use Rattle.dg_decl.specs.declared.document.Doc.{Doc}
use Rattle.dg_decl.specs.Document.{Statement, statements}
use Rattle.dg_decl.specs.Names.{is_class}
use Rattle.dg_session.specs.Numbers.{number_behind}

-- the number of the class that a statement declares, where the next class has this number
abbrev pub class_here : ℕ → Statement → Option ℕ
class_here number s = if is_class s.item then Some number else None

-- the number of the class that each of these statements declares, where the first class among them
-- has this number
abbrev pub classes_from : ℕ → List Statement → List (Option ℕ)
classes_from number [] = []
classes_from number (s ∷ ss) = class_here number s ∷ classes_from (number_behind number s) ss

-- six of Hilt's come first
abbrev pub AreClasses : Doc → List (Option ℕ) → Type 0
AreClasses doc classes = classes ≡ classes_from 6 (statements doc)
