use Rattle.std.specs.Prelude.{◌≡◌, ◌+◌, ◌<◌, ◌≤◌, ◌↔◌, ℕ, zero, suc, Bool, false, IsTrue, List}
use Rattle.std.specs.Prelude.{length, slice_index_or, Contains}
use Rattle.dg_num.specs.declared.graph.Graph.{Graph}
use Rattle.dg_num.specs.Graph.{node_count, successors}

-- a walk of this many edges leads from `a` to `b`; the edges of a node lead to its `targets`
abbrev pub Walk : {N : Type 0} → (N → List N) → ℕ → N → N → Type 0
Walk targets zero a b = a ≡ b
Walk {N} targets (suc edges) a b = (c : N) × Contains (targets a) c × Walk targets edges c b

-- a walk, maybe of no edge, leads from `a` to `b`
abbrev pub Leads : {N : Type 0} → (N → List N) → N → N → Type 0
Leads targets a b = (edges : ℕ) × Walk targets edges a b

-- a walk, maybe of no edge, leads to the node from one of `from`
abbrev pub IsReached : {N : Type 0} → (N → List N) → List N → N → Type 0
IsReached {N} targets from node = (start : N) × Contains from start × Leads targets start node

-- a walk of at least one edge returns to the node
abbrev pub IsOnCycle : {N : Type 0} → (N → List N) → N → Type 0
IsOnCycle targets node = (edges : ℕ) × (1 ≤ edges) × Walk targets edges node node

-- no node lies on a cycle
abbrev pub IsAcyclic : {N : Type 0} → (N → List N) → Type 0
IsAcyclic {N} targets = (node : N) → IsOnCycle targets node → ⊥

-- a walk of this many nodes, one more than its edges, begins at the node, and no longer one does
pub record IsRank {N : Type 0} (targets : N → List N) (node : N) (rank : ℕ) : Type 0 where
  pub walk : (edges : ℕ) × (last : N) × Walk targets edges node last × (rank ≡ edges + 1)
  pub longest : (edges : ℕ) (last : N) → Walk targets edges node last → edges + 1 ≤ rank

-- no lower number is that of a node on a cycle
pub record IsLeastOnCycle (targets : ℕ → List ℕ) (node : ℕ) : Type 0 where
  pub on_cycle : IsOnCycle targets node
  pub least : (other : ℕ) → IsOnCycle targets other → node ≤ other

-- the entry of the node is there, and true
abbrev pub IsTrueAt : List Bool → ℕ → Type 0
IsTrueAt entries node = IsTrue (slice_index_or entries node false)

-- an entry for each node, which is true exactly if the node has the property
pub record TellsExactly (graph : Graph) (P : ℕ → Type 0) (entries : List Bool) : Type 0 where
  pub for_each_node : length entries ≡ node_count graph
  pub exact : (node : ℕ) → node < node_count graph → (IsTrueAt entries node ↔ P node)

-- a number for each node, which is its rank
pub record RanksExactly (graph : Graph) (ranks : List ℕ) : Type 0 where
  pub for_each_node : length ranks ≡ node_count graph
  pub exact : (node : ℕ) → node < node_count graph
      → IsRank (successors graph) node (slice_index_or ranks node 0)
