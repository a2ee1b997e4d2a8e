use Rattle.std.proofs.Common.{◌-◌, ◌≤◌, ℕ, length}
use Rattle.dg_num.specs.Walks.{IsTrueAt}
use Rattle.dg_num.proofs.ranking.first_marked.Given as goal

abbrev pub invariant-loop-node : goal.invariant-loop-node
invariant-loop-node l = (node : ℕ) → IsTrueAt l.marks node → l.node ≤ node

abbrev pub decreases-loop-node : goal.decreases-loop-node
decreases-loop-node l = length l.marks - l.node
