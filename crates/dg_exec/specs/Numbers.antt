-- The numbers of jobs, by the table of the cells of producers.
use Rattle.std.specs.Prelude.{◌≡◌, ◌+◌, ℕ, List, length, map, Option, option_map, option_and_then, slice_get, Contains}
use Rattle.std.specs.List.{position}
use Rattle.dg_decl.specs.declared.document.Doc.{Doc}
use Rattle.dg_slots.specs.declared.plan.Plan.{Plan}
use Rattle.dg_slots.specs.declared.session.Ask.{Ask}
use Rattle.dg_slots.specs.Sessions.{asks_of}
use Rattle.dg_eval.specs.declared.world.World.{World}
use Rattle.dg_exec.specs.declared.cells.CellName.{CellName}
use Rattle.dg_exec.specs.Jobs.{producer_cells, needed_by_cell}
use Rattle.dg_exec.specs.Tables.{as_cell, as_name, same_name}

-- the number of the job of a cell, where it is one of these, behind so many asks
abbrev pub job_in : ℕ → List CellName → CellName → Option ℕ
job_in asks cells c = option_map (λ p. asks + p) (position (same_name c) cells)

-- these are the cells of producers, behind the asks of a document
abbrev pub IsTable : Doc → ℕ → List CellName → Type 0
IsTable doc asks cells =
    (cells ≡ map as_name (producer_cells doc)) × (asks ≡ length (asks_of doc))

-- the slot of the entry that an ask asks for
abbrev pub entry_there : Plan → World → Ask → Option ℕ
entry_there plan world a =
    option_and_then (λ class. option_and_then (λ slots. slice_get slots a.entry)
    (slice_get plan.entries class)) (slice_get world.class a.inst)

-- each of these is the cell of a producer
abbrev pub AreProducers : Doc → List CellName → Type 0
AreProducers doc cells =
    (c : CellName) → Contains cells c → Contains (producer_cells doc) (as_cell c)

-- what the job of a cell needs
abbrev pub needed_by : Doc → CellName → List ℕ
needed_by doc c = needed_by_cell doc (as_cell c)
