use Rattle.std.proofs.Common.{◌≡◌, [], drop}
use Rattle.dg_exec.specs.Tables.{with_cells}
use Rattle.dg_exec.proofs.cells.table_of.Given as goal

abbrev pub invariant-loop-cell : goal.invariant-loop-cell
invariant-loop-cell l =
    with_cells l.table.keys (drop l.cell-index l.cells) ≡ with_cells [] l.cells
