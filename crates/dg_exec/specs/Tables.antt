-- The cells of producers by the lists of a plan, and lists of cells without doubles.
use Rattle.std.specs.Prelude.{◌≡◌, ◌==◌, ◌&&◌, ◌++◌, ℕ, Bool, if◌then◌else◌, List, [], ◌∷◌, map, Option, Some, None, slice_get}
use Rattle.std.specs.List.{enumerate_from, filter_map, flat_map, list_any}
use Rattle.dg_slots.specs.declared.plan.Slot.{Slot}
use Rattle.dg_eval.specs.Asks.{CellName as Cell}
use Rattle.dg_requests.specs.Contexts.{is_producing}
use Rattle.dg_exec.specs.declared.cells.CellName.{CellName}

-- ---- the cells of producers

-- a cell, as the definitions have it, and back
abbrev pub as_cell : CellName → Cell
as_cell c = record { inst = c.inst; slot = c.slot }

abbrev pub as_name : Cell → CellName
as_name c = record { inst = c.inst; slot = c.slot }

-- a slot is a producer of this class
abbrev pub is_producer_slot : ℕ → Slot → Bool
is_producer_slot class s = (s.class == class) && is_producing s.cell

abbrev pub producer_number : ℕ → ℕ × Slot → Option ℕ
producer_number class p = if is_producer_slot class p.1 then Some p.0 else None

-- the producers of a class
abbrev pub producers_of : ℕ → List Slot → List ℕ
producers_of class slots = filter_map (producer_number class) (enumerate_from 0 slots)

-- each row has the producers of the class of its number
abbrev pub AreRows : List Slot → List (List ℕ) → Type 0
AreRows slots rows =
    (class : ℕ) (row : List ℕ) → slice_get rows class ≡ Some row → row ≡ producers_of class slots

abbrev pub cell_at : ℕ → ℕ → CellName
cell_at inst slot = record { inst = inst; slot = slot }

-- the cells of an instance of a class
abbrev pub cells_of : List Slot → ℕ × ℕ → List CellName
cells_of slots i = map (cell_at i.0) (producers_of i.1 slots)

-- the cells of all instances, where these are their classes
abbrev pub all_cells : List Slot → List ℕ → List CellName
all_cells slots classes = flat_map (cells_of slots) (enumerate_from 0 classes)

-- ---- lists of cells

abbrev pub same_name : CellName → CellName → Bool
same_name a b = (a.inst == b.inst) && (a.slot == b.slot)

abbrev pub has_cell : List CellName → CellName → Bool
has_cell cells c = list_any (same_name c) cells

-- these cells and one more, unless it is among them
abbrev pub with_cell : List CellName → CellName → List CellName
with_cell cells c = if has_cell cells c then cells else cells ++ c ∷ []

-- and these more
abbrev pub with_cells : List CellName → List CellName → List CellName
with_cells cells [] = cells
with_cells cells (c ∷ more) = with_cells (with_cell cells c) more
