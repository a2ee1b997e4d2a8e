use Rattle.std.proofs.Common.{length, sym, subst}
use Rattle.dg_jobs.specs.Board.{tables}
use Rattle.dg_jobs.specs.Calls.{AreCounts}
use Rattle.dg_jobs.specs.declared.calls.JobCounts.{JobCounts}
use Rattle.dg_jobs.proofs.Counted.{count_ready, count_out, count_finished}
use Rattle.dg_jobs.proofs.job_core.JobCore.counts.Goals as goal

pub returns : goal.returns
returns g c =
    let t = tables c.self.inside.board in
    let calm = c.self.invariant.calm in
    let n = length t.inputs in
    let counts : JobCounts = record { ready = t.ready; out = t.out; finished = t.finished } in
    record { exact = subst (λ jobs. AreCounts jobs counts) c.self.view_is (record { ready = count_ready t n calm (sym calm.fits.for_inputs); out = count_out t n calm (sym calm.fits.for_inputs); finished = count_finished t n calm (sym calm.fits.for_inputs) }) }
