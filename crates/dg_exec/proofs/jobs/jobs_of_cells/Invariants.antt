use Rattle.std.proofs.Common.{◌≡◌, take, filter_map}
use Rattle.dg_exec.specs.Numbers.{job_in}
use Rattle.dg_exec.proofs.jobs.jobs_of_cells.Given as goal

abbrev pub invariant-loop-cell : goal.invariant-loop-cell
invariant-loop-cell l =
    l.jobs.items ≡ filter_map (job_in l.asks l.table.keys) (take l.cell-index l.cells)
