use Rattle.std.proofs.Common.{◌≡◌, ◌<◌, ℕ, get_or}
use Rattle.dg_num.proofs.cycles.has_number.Given as goal

abbrev pub invariant-loop-node : goal.invariant-loop-node
invariant-loop-node l = (k : ℕ) → k < l.node-index
    → get_or l.numbers (get_or l.row k 0) 0 ≡ l.number → ⊥
