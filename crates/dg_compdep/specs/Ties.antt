-- To which instances lines tie which, in a table, and the numbers of instances by line.
use Rattle.std.specs.Prelude.{◌≡◌, ℕ, ◌+◌, if◌then◌else◌, List, [], ◌∷◌, map, Option, None, Some, option_map}
use Rattle.std.specs.List.{filter, find}
use Rattle.std.specs.Map.{lookup}
use Rattle.std.specs.Option.{option_or}
use Rattle.dg_lex.specs.Bytes.{Bytes}
use Rattle.dg_decl.specs.declared.document.Doc.{Doc}
use Rattle.dg_decl.specs.Document.{Statement, statements}
use Rattle.dg_decl.specs.Limits.{is_open_line}
use Rattle.dg_decl.specs.Stages.Links.{Tie, same_tie}
use Rattle.dg_slots.specs.Links.{ties, links_of_line}

-- ---- ties

-- ties, each with the index of a line
abbrev pub Table : Type 0
Table = List (Tie × ℕ)

-- the index of the line that ties an instance to an instance of a class
abbrev pub index_of : Bytes → ℕ → Table → Option ℕ
index_of from class table = lookup (same_tie (record { from = from; class = class })) table

-- the table finds this tie too, with this index, unless it found the tie before
pub record Adds (tie : Tie) (index : ℕ) (old new : Table) : Type 0 where
  pub each : (from : Bytes) (class : ℕ) → index_of from class new
      ≡ option_or (index_of from class old)
      (if same_tie (record { from = from; class = class }) tie then Some index else None)

-- the table finds the tie of this statement too
pub record Notes (doc : Doc) (s : Statement) (old new : Table) : Type 0 where
  pub each : (from : Bytes) (class : ℕ) → index_of from class new
      ≡ option_or (index_of from class old) (if ties doc from class s then Some s.index else None)

-- the index of the first statement that ties an instance to an instance of a class
abbrev pub first_index : Doc → Bytes → ℕ → List Statement → Option ℕ
first_index doc from class ss = option_map (λ s. s.index) (find (ties doc from class) ss)

-- the table has the ties of these statements, each with the index of the first of its lines
pub record HasFirst (doc : Doc) (ss : List Statement) (table : Table) : Type 0 where
  pub each : (from : Bytes) (class : ℕ) → index_of from class table ≡ first_index doc from class ss

-- the table has the ties of a document
abbrev pub HasTies : Doc → Table → Type 0
HasTies doc table = HasFirst doc (statements doc) table

-- ---- numbers of instances

-- how many instances are opened up to a statement, where so many are before it
abbrev pub number_behind : ℕ → Statement → ℕ
number_behind number s = if is_open_line s.item then number + 1 else number

-- the number that an instance opened by each of these statements would have, where the first of
-- them would have this number
abbrev pub numbers_from : ℕ → List Statement → List ℕ
numbers_from number [] = []
numbers_from number (s ∷ ss) = number ∷ numbers_from (number_behind number s) ss

abbrev pub AreNumbers : Doc → List ℕ → Type 0
AreNumbers doc numbers = numbers ≡ numbers_from 0 (statements doc)

-- the links of the instance that a statement opens, where it opens one
abbrev pub links_by : Doc → Statement → List (List ℕ)
links_by doc s = map (links_of_line doc) (filter (λ t. is_open_line t.item) (s ∷ []))
