-- Which numbers lie on a walk that returns and has a called edge.
use Rattle.std.specs.Prelude.{◌≡◌, ◌<◌, ◌≤◌, ◌↔◌, ◌⊎◌, ◌∷◌, [], ◌||◌, ◌&&◌, ℕ, Bool, false, List}
use Rattle.std.specs.Prelude.{length, slice_index_or}
use Rattle.dg_num.specs.declared.graph.Graph.{Graph}
use Rattle.dg_num.specs.Counts.{IsReversed}
use Rattle.dg_num.specs.Graph.{node_count, successors, HasEdge, IsSound}
use Rattle.dg_num.specs.Walks.{Leads, IsReached, IsOnCycle, IsTrueAt, TellsExactly}

-- a walk leads from the number to one below the bound, and a called edge and a walk back from there
abbrev pub IsCalledBelow : Graph → Graph → ℕ → ℕ → Type 0
IsCalledBelow graph called bound k =
    (m t : ℕ) × (m < bound) × HasEdge called m t × Leads (successors graph) k m
    × Leads (successors graph) t k

-- a mark for each node of the graph, which tells whether it is so
pub record TellsCalled (graph called : Graph) (bound : ℕ) (marks : List Bool) : Type 0 where
  pub for_each_node : length marks ≡ node_count graph
  pub exact : (k : ℕ) → k < node_count graph
      → (IsTrueAt marks k ↔ IsCalledBelow graph called bound k)

-- called edges are edges of the graph; the graph, turned round; and which of its nodes lie on
-- cycles
pub record AreParts (graph turned called : Graph) (on_cycle : List Bool) : Type 0 where
  pub sound : IsSound graph
  pub reversed : IsReversed graph turned
  pub counted : node_count called ≡ node_count graph
  pub within : (a b : ℕ) → HasEdge called a b → HasEdge graph a b
  pub cycles : TellsExactly graph (IsOnCycle (successors graph)) on_cycle

-- the marks before this place are those of the one list, and of the other two together
pub record Joined (before ahead back : List Bool) (place : ℕ) (marks : List Bool) : Type 0 where
  pub len : length marks ≡ length before
  pub done : (k : ℕ) → k < place → slice_index_or marks k false
      ≡ (slice_index_or before k false
      || (slice_index_or ahead k false && slice_index_or back k false))
  pub rest : (k : ℕ) → place ≤ k
      → slice_index_or marks k false ≡ slice_index_or before k false

-- a walk leads to the number from this one
abbrev pub IsReachedFrom : Graph → ℕ → ℕ → Type 0
IsReachedFrom graph from k = IsReached (successors graph) (from ∷ []) k

-- a node is marked if it was before, or if a walk leads to it from one of `from`, and one from it
-- to `to`
pub record MarksBetween (graph : Graph) (from : List ℕ) (to : ℕ)
    (before marks : List Bool) : Type 0 where
  pub len : length marks ≡ length before
  pub exact : (k : ℕ) → k < node_count graph → (IsTrueAt marks k ↔ (IsTrueAt before k
      ⊎ (IsReached (successors graph) from k × Leads (successors graph) k to)))
