use Rattle.std.proofs.Common.{◌≡◌, ◌<◌, ◌↔◌, ℕ, vec_len}
use Rattle.dg_num.specs.Graph.{successors}
use Rattle.dg_num.specs.Walks.{IsTrueAt, IsOnCycle}
use Rattle.dg_num.proofs.cycles.marks_on_cycle.Given as goal

abbrev pub invariant-loop-node : goal.invariant-loop-node
invariant-loop-node l = record {
  len : vec_len l.marks ≡ l.node;
  exact : (node : ℕ) → node < l.node → IsTrueAt l.marks.items node ↔ IsOnCycle
      (successors l.graph) node;
}
