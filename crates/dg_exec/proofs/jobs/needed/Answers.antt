use Rattle.std.proofs.Common.{filter_map, ap, ◌∙◌}
use Rattle.dg_exec.specs.Numbers.{job_in}
use Rattle.dg_exec.proofs.CellTables.{needed_is}
use Rattle.dg_exec.proofs.jobs.needed.Goals as goal

pub returns : goal.returns
returns c = record {
  exact = λ doc of t n is.
      needed_is doc c.args.asks c.args.table.now.keys c.in_ok-found.found.keys
      c.in_ok-jobs.jobs.items c.args.inst n t (c.in_ok-found.ensures.exact doc of n is)
      (c.in_ok-jobs.ensures.exact
      ∙ ap (filter_map (job_in c.args.asks c.args.table.now.keys)) c.as_slice.ensures.keys);
}
