use Rattle.std.proofs.Common.{◌+◌, ◌-◌, ◌*◌, ◌<◌, ◌≤◌, ℕ, sum, vec_len}
use Rattle.dg_num.specs.Graph.{node_count}
use Rattle.dg_num.specs.Walks.{IsTrueAt}
use Rattle.dg_num.proofs.Visits.{Visiting}
use Rattle.dg_num.proofs.components.finishing_order.Given as goal

abbrev pub invariant-loop-node : goal.invariant-loop-node
invariant-loop-node l = record {
  visiting : Visiting l.graph l.seen.items l.left.items l.path.items l.order.items;
  roots : (v : ℕ) → v < l.root → IsTrueAt l.seen.items v;
  root_le : l.root ≤ node_count l.graph;
}

abbrev pub decreases-loop-node : goal.decreases-loop-node
decreases-loop-node l = 2 * sum l.left.items + vec_len l.path + 2 * (node_count l.graph - l.root)
