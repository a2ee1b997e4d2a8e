use Rattle.std.proofs.Common.{◌<◌, length, get_or, arith}
use Rattle.dg_jobs.proofs.Waking.{WakesRow-more}
use Rattle.dg_jobs.proofs.board.wake_all.Goals as goal

pub loop-job-preserved : goal.loop-job-preserved
loop-job-preserved c =
    let phases = c.args.phases.now in
    let lt : get_or c.args.row.now c.loop-job.job-index 0 < length phases.items = omega (arith, c.requires.row c.loop-job.job-index 0 c.loop-job-test.true, phases.ok.0) in
    WakesRow-more c.args.row.now c.loop-job.job-index phases.items c.args.piles.now c.loop-job.phases.items c.loop-job.piles c.wake.new.phases.items c.wake.new.piles c.loop-job.invariant c.loop-job-test.true lt (omega (arith, c.requires.same, phases.ok.0)) c.requires.free c.wake.ensures.cases
