-- A store as tables: the contents by key, and what was asked for by number.
use Rattle.std.specs.Prelude.{◌≡◌, ◌<◌, ◌≤◌, ℕ, List, [], ◌∷◌, ◌++◌, length, map, take, Option, Some, None, slice_get, Result, Ok, Err, Contains}
use Rattle.std.specs.List.{filter_map}
use Rattle.dg_types.specs.declared.memory.NoMemory.{NoMemory}
use Rattle.dg_decl.specs.declared.document.Doc.{Doc}
use Rattle.dg_value.specs.declared.value.Kept.{Kept}
use Rattle.dg_value.specs.Contents.{CellKept}
use Rattle.dg_eval.specs.Runs.{Asked, cell, lazy}
use Rattle.dg_requests.specs.Scopes.{IsContent}
use Rattle.dg_tree.specs.declared.keys.CellKey.{CellKey}
use Rattle.dg_tree.specs.declared.keys.LazyKey.{LazyKey}
use Rattle.dg_tree.specs.declared.keys.Noted.{Noted}
use Rattle.dg_tree.specs.declared.keys.Noted.TheVariants as noted
use Rattle.dg_tree.specs.Stores.{LazyKept, Stored, IsSoundFor}

-- ---- tables

abbrev pub Cells : Type 0
Cells = List (CellKey × Kept)

abbrev pub Lazies : Type 0
Lazies = List (LazyKey × Kept)

abbrev pub kept_cell : CellKey × Kept → CellKept
kept_cell e = (e.0.inst, e.0.slot, e.1)

abbrev pub kept_lazy : LazyKey × Kept → LazyKept
kept_lazy e = (e.0.inst, e.0.slot, e.0.place, e.1)

abbrev pub cell_name : CellKey → Asked
cell_name k = cell k.inst k.slot

abbrev pub lazy_name : LazyKey → Asked
lazy_name k = lazy k.inst k.slot k.place

-- the names in a table, in its order
abbrev pub names_in : {K : Type 0} → (K → Asked) → List (K × Kept) → List Asked
names_in name entries = map (λ e. name e.0) entries

-- what a note names, among the Lazies
abbrev pub noted_name : List Asked → Noted → Option Asked
noted_name lazies (noted.Cell i k) = Some (cell i k)
noted_name lazies (noted.Lazy n) = slice_get lazies n

-- so many of the cells and of the Lazies, and what the notes name
abbrev pub asked_in : List Asked → List Asked → ℕ → ℕ → List Noted → List Asked
asked_in cells lazies n m notes =
    take n cells ++ take m lazies ++ filter_map (noted_name lazies) notes

-- the store of these tables, of which so many cells and Lazies are settled
abbrev pub stored_in : Cells → Lazies → ℕ → ℕ → List Noted → Stored
stored_in cs ls n m notes = record {
  cells = map kept_cell cs;
  lazies = map kept_lazy ls;
  asked = asked_in (names_in cell_name cs) (names_in lazy_name ls) n m notes;
}

-- what the tables store, by name
abbrev pub entries_in : {K : Type 0} → (K → Asked) → List (K × Kept) → List (Asked × Kept)
entries_in name entries = map (λ e. (name e.0, e.1)) entries

abbrev pub all_entries : Cells → Lazies → List (Asked × Kept)
all_entries cs ls = entries_in cell_name cs ++ entries_in lazy_name ls

-- a store is sound, and its numbers lie within its tables
pub record IsStore (doc : Doc) (cs : Cells) (ls : Lazies) (n m : ℕ) (notes : List Noted) : Type 0
  where
    pub sound : IsSoundFor doc (all_entries cs ls)
        (asked_in (names_in cell_name cs) (names_in lazy_name ls) n m notes)
    pub settled_cells : n ≤ length cs
    pub settled_lazies : m ≤ length ls
    pub noted_lazies : (k : ℕ) → Contains notes (noted.Lazy k) → k < length ls

-- ---- steps

-- A cell or Lazy was looked up. Where it is held it is asked for, and its content is given; where
-- it isn't, it wasn't asked for before.
abbrev pub LooksUp : Doc → Asked → List Asked → List Asked → Result (Option Kept) NoMemory → Type 0
LooksUp doc x old new (Ok (Some kept)) = IsContent doc x kept × (new ≡ old ++ x ∷ [])
LooksUp doc x old new (Ok None) = (Contains old x → ⊥) × (new ≡ old)
LooksUp doc x old new (Err e) = new ≡ old
