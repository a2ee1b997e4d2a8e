use Rattle.std.proofs.Common.{Vec, ℕ, ◌++◌, map, get_or, ◌∙◌}
use Rattle.std.specs.Global.{Global}
use Rattle.dg_exec.specs.Numbers.{needed_by}
use Rattle.dg_exec.specs.Tables.{cell_at}
use Rattle.dg_exec.proofs.JobLemmas.{row_pushed, read_here}
use Rattle.dg_exec.proofs.EntrySlots.{needed_here}
use Rattle.dg_exec.proofs.jobs.add_needed_by_cells.Goals as goal

pub loop-cell-preserved : goal.loop-cell-preserved
loop-cell-preserved c = λ doc of t all.
    let x = get_or c.args.cells.now c.loop-cell.cell-index (cell_at 0 0) in
    let is = read_here c.args.cells.now c.loop-cell.cell-index (cell_at 0 0)
    c.loop-cell-test.true in
    let e = needed_here doc c.args.cells.now c.loop-cell.cell-index x all c.loop-cell-test.true
    is in
    row_pushed (λ (row : Vec ℕ Global). row.items) (needed_by doc)
    c.args.cells.now c.loop-cell.cell-index x
    c.loop-cell.rows.items c.push.new.self.items c.in_ok-needed.field-0
    (map (λ (row : Vec ℕ Global). row.items) c.args.rows.now.items
    ++ map (needed_by doc) c.args.cells.now) c.loop-cell-test.true is
    c.in_ok-push.ensures.items
    (c.in_ok-needed.ensures.exact doc of t e.node e.is_in ∙ e.same)
    (c.loop-cell.invariant doc of t all)
