use Rattle.std.proofs.Common.{◌-◌, length}
use Rattle.dg_jobs.specs.Board.{tables}
use Rattle.dg_jobs.proofs.Passing.{Settling}
use Rattle.dg_jobs.proofs.board.Board.settle.Given as goal

abbrev pub invariant-loop-job : goal.invariant-loop-job
invariant-loop-job l = Settling (tables l.initial.self) (tables l.self)

abbrev pub decreases-loop-job : goal.decreases-loop-job
decreases-loop-job l = length l.self.phases.items - l.self.finished
