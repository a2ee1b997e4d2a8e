-- What a store keeps of a document's run, and when that is right.
use Rattle.std.specs.Prelude.{ℕ, List, [], ◌∷◌, ◌++◌, map, Contains}
use Rattle.dg_decl.specs.declared.document.Doc.{Doc}
use Rattle.dg_value.specs.declared.place.Place.{Place}
use Rattle.dg_value.specs.declared.value.Kept.{Kept}
use Rattle.dg_value.specs.Contents.{CellKept}
use Rattle.dg_eval.specs.Runs.{Asked, cell, lazy}
use Rattle.dg_eval.specs.Asks.{asked_by}
use Rattle.dg_promises.specs.Uses.{used_by_asks}
use Rattle.dg_requests.specs.Scopes.{IsContent}

-- an instance, a slot and a place, with the content of the Lazy that was made there
abbrev pub LazyKept : Type 0
LazyKept = ℕ × ℕ × Place × Kept

-- The contents of cells and of Lazies, each in the order in which they were made, and what was
-- asked for.
pub record Stored : Type 0 where
  pub cells : List CellKept
  pub lazies : List LazyKept
  pub asked : List Asked

abbrev pub as_cell : CellKept → Asked × Kept
as_cell c = (cell c.0 c.1, c.2)

abbrev pub as_lazy : LazyKept → Asked × Kept
as_lazy l = (lazy l.0 l.1 l.2, l.3)

-- the cells and Lazies that are stored, with their contents
abbrev pub contents : Stored → List (Asked × Kept)
contents t = map as_cell t.cells ++ map as_lazy t.lazies

-- the names of what has contents
abbrev pub names_of : List (Asked × Kept) → List Asked
names_of entries = map (λ e. e.0) entries

-- the cells and Lazies that are stored
abbrev pub names : Stored → List Asked
names t = names_of (contents t)

-- none of these stands there twice
abbrev pub IsEachOnce : List Asked → Type 0
IsEachOnce [] = Unit {0}
IsEachOnce (x ∷ xs) = (Contains xs x → ⊥) × IsEachOnce xs

-- Contents of these names were stored while these were asked for: each is what the document says,
-- and the asks of the document use it; what a content asked for is stored; no cell and no Lazy is
-- there twice; and they are what was asked for.
pub record IsSoundFor (doc : Doc) (stored : List (Asked × Kept)) (asked : List Asked) : Type 0 where
  pub content : (x : Asked) (kept : Kept) → Contains stored (x, kept) → IsContent doc x kept
  pub used : (x : Asked) → Contains (names_of stored) x → Contains (used_by_asks doc) x
  pub closed : (x y : Asked) → Contains (names_of stored) x → Contains (asked_by doc x) y
      → Contains (names_of stored) y
  pub once : IsEachOnce (names_of stored)
  pub asked_stored : (x : Asked) → Contains asked x → Contains (names_of stored) x
  pub stored_asked : (x : Asked) → Contains (names_of stored) x → Contains asked x

-- a store is sound
abbrev pub IsSound : Doc → Stored → Type 0
IsSound doc t = IsSoundFor doc (contents t) t.asked

-- nothing is stored
abbrev pub nothing : Stored
nothing = record { cells = []; lazies = []; asked = [] }

-- the same is stored, and each of it counts as asked for once
abbrev pub settled : Stored → Stored
settled t = record { cells = t.cells; lazies = t.lazies; asked = names t }
