use Rattle.std.proofs.Common.{count_by}
use Rattle.dg_jobs.specs.Board.{tables, is_on}
use Rattle.dg_jobs.proofs.Passing.{Passing}
use Rattle.dg_jobs.proofs.board.Board.pass_on.Given as goal

abbrev pub invariant-loop-other : goal.invariant-loop-other
invariant-loop-other l = Passing (tables l.initial.self) l.job (tables l.self)

abbrev pub decreases-loop-other : goal.decreases-loop-other
decreases-loop-other l = count_by (is_on l.job) l.self.piles
