use Rattle.std.proofs.Common.{◌≡◌, ◌<◌, ℕ, get_or, true, false}
use Rattle.dg_walks.proofs.calls.is_any_on_cycle.Given as goal

abbrev pub invariant-loop-node : goal.invariant-loop-node
invariant-loop-node l = (k : ℕ) → k < l.node-index
    → get_or l.on_cycle (get_or l.row k 0) false ≡ true → ⊥
