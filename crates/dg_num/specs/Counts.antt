use Rattle.std.specs.Prelude.{◌≡◌, ◌==◌, ℕ, zero, suc, List, count_by}
use Rattle.dg_num.specs.declared.graph.Graph.{Graph}
use Rattle.dg_num.specs.Graph.{node_count, successors}

-- how often a number stands in a row
abbrev pub count_of : List ℕ → ℕ → ℕ
count_of row number = count_by (λ other. other == number) row

-- 1 at 0, and 0 at any other number
abbrev pub one_at_zero : ℕ → ℕ
one_at_zero zero = 1
one_at_zero (suc number) = 0

-- each edge of the one graph, turned round, is one of the other, as often as it stands there
pub record IsReversed (graph turned : Graph) : Type 0 where
  pub same_nodes : node_count turned ≡ node_count graph
  pub same_edges : (a b : ℕ) → count_of (successors turned a) b ≡ count_of (successors graph b) a
