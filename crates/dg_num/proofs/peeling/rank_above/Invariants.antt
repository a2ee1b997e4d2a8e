use Rattle.std.proofs.Common.{◌≡◌, ◌+◌, ◌<◌, ◌≤◌, ◌⊎◌, ℕ, All, Contains, take, get_or}
use Rattle.dg_num.proofs.peeling.rank_above.Given as goal

abbrev pub invariant-loop-node : goal.invariant-loop-node
invariant-loop-node l = record {
  above : All (λ node. get_or l.ranks node 0 < l.rank) (take l.node-index l.row);
  reached : (l.rank ≡ 1) ⊎ ((node : ℕ) × Contains l.row node
      × (l.rank ≡ get_or l.ranks node 0 + 1));
  positive : 1 ≤ l.rank;
}
