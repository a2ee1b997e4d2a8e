-- What a walk of direct edges adds to the cells that were found before.
use Rattle.std.specs.Prelude.{◌≡◌, ℕ, List, map, Option, Some, None, if◌then◌else◌, Bool, false, slice_get, Contains}
use Rattle.std.specs.Option.{option_map_or}
use Rattle.dg_decl.specs.declared.document.Doc.{Doc}
use Rattle.dg_decl.specs.declared.graph.Node.{Node}
use Rattle.dg_decl.specs.Graph.{Dependency}
use Rattle.dg_slots.specs.declared.plan.Slot.{Slot}
use Rattle.dg_requests.specs.Contexts.{is_producing}
use Rattle.dg_eval.specs.Asks.{CellName as Cell}
use Rattle.dg_eval.specs.Meaning.{node_at, Target as Look, target_of, enough}
use Rattle.dg_exec.specs.declared.cells.CellName.{CellName}
use Rattle.dg_exec.specs.Jobs.{reached}
use Rattle.dg_exec.specs.Modes.{is_direct}
use Rattle.dg_exec.specs.Tables.{as_name, with_cells}

-- where a dependency leads, where it is a direct edge
abbrev pub direct_target : Doc → ℕ → Node → Dependency → Option Look
direct_target doc i n d = if is_direct d.mode then target_of doc i n d else None

-- the slot of a number is a producer, by lists
abbrev pub is_producing_at : List Slot → ℕ → Bool
is_producing_at slots k = option_map_or (λ s. is_producing s.cell) (slice_get slots k) false

-- what walks reach behind each of these slots is found
abbrev pub AreDone : Doc → List CellName → List CellName → Type 0
AreDone doc found done =
    (c : CellName) → Contains done c → (x : Node) → node_at doc c.slot ≡ Some x → (y : Cell)
    → Contains (reached doc enough c.inst x) y → Contains found (as_name y)

-- these cells are found then too, each once, and what is done is so still
pub record Finds (doc : Doc) (cells : List Cell) (found done found_then done_then : List CellName)
    : Type 0 where
  pub adds : found_then ≡ with_cells found (map as_name cells)
  pub keeps : AreDone doc found_then done_then

-- where what is done before is so
abbrev pub Walked : Doc → List Cell → List CellName → List CellName → List CellName → List CellName
    → Type 0
Walked doc cells found done found_then done_then =
    AreDone doc found done → Finds doc cells found done found_then done_then
