-- Graphs over the numbers of nodes, by the edges that are followed.
use Rattle.std.specs.Prelude.{◌≡◌, ℕ, Bool, true, false, if◌then◌else◌, List, length, map}
use Rattle.std.specs.Prelude.{filter_map, slice_get, Option, Some, None}
use Rattle.dg_num.specs.declared.graph.Graph.{Graph}
use Rattle.dg_num.specs.Graph.{node_count, successors}
use Rattle.dg_decl.specs.declared.graph.Edge.{Edge}
use Rattle.dg_decl.specs.declared.graph.EdgeKind.{EdgeKind}
use Rattle.dg_decl.specs.declared.graph.EdgeKind.TheVariants as edge
use Rattle.dg_walks.specs.declared.rows.Follow.{Follow}
use Rattle.dg_walks.specs.declared.rows.Follow.TheVariants as follow

-- whether an edge of this kind is followed
abbrev pub follows : Follow → EdgeKind → Bool
follows follow.Direct edge.Direct = true
follows follow.Called edge.Called = true
follows follow.Needed edge.Direct = true
follows follow.Needed edge.Called = true
follows follow.Asked edge.Direct = true
follows follow.Asked edge.Deferred = true
follows f k = false

-- the number to which an edge leads, if it is followed
abbrev pub followed : Follow → Edge → Option ℕ
followed f e = if follows f e.kind then Some e.to else None

-- the numbers to which the edges lead that are followed, in order
abbrev pub row_of : Follow → List Edge → List ℕ
row_of f es = filter_map (followed f) es

-- the numbers to which the edges of each node lead
abbrev pub rows_of : Graph → List (List ℕ)
rows_of graph = map (λ row. row.items) graph.next.items

-- the nodes of a graph are the numbers in a list, and the edges of each lead to the numbers of its
-- targets, in order
pub record IsGraphOf {N : Type 0} (nodes : List N) (targets : N → List N)
    (graph : Graph) : Type 0 where
  pub counted : node_count graph ≡ length nodes
  pub rows : (k : ℕ) (n : N) → slice_get nodes k ≡ Some n
      → map (slice_get nodes) (successors graph k) ≡ map Some (targets n)
