-- The numbers of the classes that a document declares, by line.
use Rattle.std.specs.Prelude.{◌≡◌, ℕ, ◌+◌, if◌then◌else◌, List, [], ◌∷◌}
use Rattle.dg_decl.specs.declared.document.Doc.{Doc}
use Rattle.dg_decl.specs.Document.{Statement, statements}
use Rattle.dg_decl.specs.Names.{is_class}

-- the number of the next class, behind a statement
abbrev pub number_behind : ℕ → Statement → ℕ
number_behind number s = if is_class s.item then number + 1 else number

-- the number that a class declared by each of these statements would have, where the first of them
-- would have this number
abbrev pub numbers_from : ℕ → List Statement → List ℕ
numbers_from number [] = []
numbers_from number (s ∷ ss) = number ∷ numbers_from (number_behind number s) ss

-- six of Hilt's come first
abbrev pub AreClassNumbers : Doc → List ℕ → Type 0
AreClassNumbers doc numbers = numbers ≡ numbers_from 6 (statements doc)
