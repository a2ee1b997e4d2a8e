use Rattle.std.proofs.Common.{Vec, ℕ, [], map, ap, ◌∙◌}
use Rattle.std.specs.Global.{Global}
use Rattle.dg_exec.specs.Tables.{with_cells}
use Rattle.dg_exec.proofs.JobLemmas.{jobs_whole, by_slice}
use Rattle.dg_exec.proofs.jobs.jobs_over.Goals as goal

pub returns-clause-exact : goal.returns-clause-exact
returns-clause-exact c = λ doc of s.
    jobs_whole doc c.args.plan.now c.args.world.now c.args.session.now of s
    c.in_ok-cells.cells.items c.in_ok-table.table.keys c.in_ok-cells.ensures.exact
    (c.in_ok-table.ensures.exact ∙ ap (with_cells []) c.as_slice.ensures.value)
    (map (λ (row : Vec ℕ Global). row.items) c.in_ok-inputs.inputs.items)
    (map (λ (row : Vec ℕ Global). row.items) c.add_needed_by_cells.new.rows.items)
    (λ is. c.in_ok-inputs.ensures.exact doc of is)
    (λ is all. by_slice doc c.in_ok-cells.cells.items c.as_slice-2.result.now
    (map (λ (row : Vec ℕ Global). row.items) c.in_ok-inputs.inputs.items)
    (map (λ (row : Vec ℕ Global). row.items) c.add_needed_by_cells.new.rows.items)
    c.as_slice-2.ensures.value all
    (λ ones. c.in_ok-add_needed_by_cells.ensures.exact doc of
    (is.0, c.len-asks.ensures ∙ is.1) ones))
