use Rattle.std.specs.Prelude.{◌≡◌, ◌+◌, ◌<◌, ◌≤◌, ℕ, zero, suc, Bool, false, List, length, min}
use Rattle.std.specs.Prelude.{slice_index_or, sum_by, if◌then◌else◌}
use Rattle.dg_num.specs.declared.graph.Graph.{Graph}
use Rattle.dg_num.specs.Graph.{node_count, successors, IsSound}
use Rattle.dg_num.specs.Walks.{IsAcyclic}

-- what an edge adds to the weight of its node: 1 if its target is flat, or else the target's weight
abbrev pub added : {N : Type 0} → (N → Bool) → (N → ℕ) → N → ℕ
added flat weight target = if flat target then 1 else weight target

-- a number for each node, which is the node's own size and what its edges add
abbrev pub AddsUp : {N : Type 0} → (N → Type 0) → (N → List N) → (N → ℕ) → (N → Bool)
    → (N → ℕ) → Type 0
AddsUp {N} IsNode targets own flat weight = (node : N) → IsNode node
    → weight node ≡ own node + sum_by (added flat weight) (targets node)

-- the own size of a node and what its edges add, as far as walks of at most this many nodes go
abbrev pub weight_within : {N : Type 0} → (N → List N) → (N → ℕ) → (N → Bool) → ℕ → N → ℕ
weight_within targets own flat zero node = 0
weight_within targets own flat (suc nodes) node =
    own node + sum_by (added flat (weight_within targets own flat nodes)) (targets node)

-- the weight of a node of a graph; without cycles, no walk has more nodes than there are
abbrev pub weight_of : Graph → (ℕ → ℕ) → (ℕ → Bool) → ℕ → ℕ
weight_of graph own flat node =
    weight_within (successors graph) own flat (node_count graph) node

-- of `count` nodes: the weights add up, no other numbers do, and longer walks change nothing
pub record HasOneWeight {N : Type 0} (IsNode : N → Type 0) (count : ℕ) (targets : N → List N)
    (own : N → ℕ) (flat : N → Bool) : Type 0 where
  pub adds_up : AddsUp IsNode targets own flat (weight_within targets own flat count)
  pub only : (other : N → ℕ) → AddsUp IsNode targets own flat other
      → (node : N) → IsNode node → other node ≡ weight_within targets own flat count node
  pub enough : (nodes : ℕ) (node : N) → count ≤ nodes → IsNode node
      → weight_within targets own flat nodes node ≡ weight_within targets own flat count node

-- each node of a graph without cycles has exactly one weight
abbrev pub OneWeight : Type 0
OneWeight = (graph : Graph) (own : ℕ → ℕ) (flat : ℕ → Bool)
    → IsSound graph → IsAcyclic (successors graph)
    → HasOneWeight (λ node. node < node_count graph) (node_count graph) (successors graph) own flat

-- a number for each node: its weight, or one more than the limit if the weight is past that
pub record WeightsExactly (graph : Graph) (own : List ℕ) (flat : List Bool) (limit : ℕ)
    (weights : List ℕ) : Type 0 where
  pub for_each_node : length weights ≡ node_count graph
  pub exact : (node : ℕ) → node < node_count graph → slice_index_or weights node 0
      ≡ min (weight_of graph (λ x. slice_index_or own x 0) (λ x. slice_index_or flat x false) node)
      (limit + 1)
