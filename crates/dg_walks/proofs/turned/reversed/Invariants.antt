use Rattle.std.proofs.Common.{◌≡◌, ◌<◌, ◌≤◌, ℕ, vec_len}
use Rattle.dg_num.specs.Counts.{count_of}
use Rattle.dg_num.specs.Graph.{node_count, row_at, successors}
use Rattle.dg_walks.proofs.turned.reversed.Given as goal

abbrev pub invariant-loop-node : goal.invariant-loop-node
invariant-loop-node l = record {
  len : vec_len l.next ≡ node_count l.graph;
  done : (a b : ℕ) → b < l.node → count_of (row_at l.next.items a) b
      ≡ count_of (successors l.graph b) a;
  ahead : (a b : ℕ) → l.node ≤ b → count_of (row_at l.next.items a) b ≡ 0;
}
