use Rattle.std.proofs.Common.{take}
use Rattle.dg_jobs.specs.Board.{WakesRow}
use Rattle.dg_jobs.proofs.board.wake_all.Given as goal

abbrev pub invariant-loop-job : goal.invariant-loop-job
invariant-loop-job l = WakesRow (take l.job-index l.row) l.initial.phases.items l.initial.piles l.phases.items l.piles
