-- Which class stands on which, in a graph and in a table.
use Rattle.std.specs.Prelude.{◌≡◌, ◌<◌, ℕ, Bool, false, List, [], Vec, length, map, ◌++◌, option_to_list, slice_index_or}
use Rattle.std.specs.Global.{Global}
use Rattle.dg_num.specs.declared.graph.Graph.{Graph}
use Rattle.dg_decl.specs.declared.document.Doc.{Doc}
use Rattle.dg_decl.specs.declared.component.Class.{Class}
use Rattle.dg_decl.specs.Components.{class_count}
use Rattle.dg_decl.specs.Stages.Dependencies.{is_below}

-- the classes on which the instances of a class stand: its parent and its dependencies
abbrev pub stood_on : Class → List ℕ
stood_on class = option_to_list class.parent ++ class.deps

-- the nodes are the classes, and the edges of each lead to those on which it stands
abbrev pub IsGraphOf : List Class → Graph → Type 0
IsGraphOf classes graph = map (λ row. row.items) graph.next.items ≡ map stood_on classes

-- a row tells of each class whether a walk leads to it from this one
abbrev pub TellsBelow : Doc → ℕ → List Bool → Type 0
TellsBelow doc from row =
    (to : ℕ) → to < class_count doc → slice_index_or row to false ≡ is_below doc from to

-- the row at an index; none is there past the end
unfoldable pub row_in : List (Vec Bool Global) → ℕ → List Bool
row_in rows index = slice_index_or (map (λ row. row.items) rows) index []

-- the rows of so many classes tell which classes stand below each
pub record TellFirst (doc : Doc) (count : ℕ) (rows : List (Vec Bool Global)) : Type 0 where
  pub counted : length rows ≡ count
  pub each : (from to : ℕ) → from < count → to < class_count doc
      → slice_index_or (row_in rows from) to false ≡ is_below doc from to

abbrev pub TellsAllBelow : Doc → List (Vec Bool Global) → Type 0
TellsAllBelow doc rows = TellFirst doc (class_count doc) rows
