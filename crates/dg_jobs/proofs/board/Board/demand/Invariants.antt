use Rattle.std.proofs.Common.{◌+◌, count_by, length}
use Rattle.dg_jobs.specs.Board.{is_asleep, is_on, tables}
use Rattle.dg_jobs.proofs.Demanding.{Demanding}
use Rattle.dg_jobs.proofs.board.Board.demand.Given as goal

abbrev pub invariant-loop-job : goal.invariant-loop-job
invariant-loop-job l = Demanding (tables l.fn.self) l.fn.job (tables l.self)

abbrev pub decreases-loop-job : goal.decreases-loop-job
decreases-loop-job l = count_by is_asleep l.self.phases.items + count_by (is_on (length l.self.phases.items + 2)) l.self.piles
