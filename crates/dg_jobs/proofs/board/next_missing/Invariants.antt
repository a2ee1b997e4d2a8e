use Rattle.std.proofs.Common.{◌<◌, ◌≤◌, ℕ, slice_index}
use Rattle.dg_jobs.specs.Board.{HasEnd}
use Rattle.dg_jobs.proofs.board.next_missing.Given as goal

abbrev pub invariant-loop-index : goal.invariant-loop-index
invariant-loop-index l = (index : ℕ) → l.from ≤ index → index < l.index → HasEnd l.ends (slice_index l.row index)
