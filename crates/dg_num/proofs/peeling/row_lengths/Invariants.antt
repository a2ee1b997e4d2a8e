use Rattle.std.proofs.Common.{◌≡◌, ◌<◌, ℕ, length, get_or, vec_len}
use Rattle.dg_num.specs.Graph.{successors}
use Rattle.dg_num.proofs.peeling.row_lengths.Given as goal

abbrev pub invariant-loop-row : goal.invariant-loop-row
invariant-loop-row l = record {
  len : vec_len l.lengths ≡ l.row-index;
  exact : (node : ℕ) → node < l.row-index
      → get_or l.lengths.items node 0 ≡ length (successors l.graph node);
}
