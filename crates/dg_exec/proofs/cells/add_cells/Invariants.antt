use Rattle.std.proofs.Common.{◌≡◌, ◌++◌, map, drop}
use Rattle.dg_exec.specs.Tables.{cell_at}
use Rattle.dg_exec.proofs.cells.add_cells.Given as goal

abbrev pub invariant-loop-slot : goal.invariant-loop-slot
invariant-loop-slot l =
    l.cells.items ++ map (cell_at l.inst) (drop l.slot-index l.slots)
    ≡ l.fn.cells.items ++ map (cell_at l.inst) l.slots
