use Rattle.std.proofs.Common.{◌≡◌, ◌++◌, drop, map}
use Rattle.dg_decl.specs.declared.document.Doc.{Doc}
use Rattle.dg_requests.specs.Contexts.{IsContextOf}
use Rattle.dg_exec.specs.Numbers.{IsTable, AreProducers, needed_by}
use Rattle.dg_exec.proofs.jobs.add_needed_by_cells.Given as goal

abbrev pub invariant-loop-cell : goal.invariant-loop-cell
invariant-loop-cell l =
    (doc : Doc) → IsContextOf doc l.plan l.world → IsTable doc l.asks l.table.keys
    → AreProducers doc l.cells
    → map (λ row. row.items) l.rows.items ++ map (needed_by doc) (drop l.cell-index l.cells)
    ≡ map (λ row. row.items) l.fn.rows.items ++ map (needed_by doc) l.cells
