use Rattle.std.specs.Prelude.{◌^◌, ◌<◌, ℕ, List, [], Vec, length, slice_index_or, map, Contains}
use Rattle.std.specs.Global.{Global}
use Rattle.dg_num.specs.declared.graph.Graph.{Graph}

-- how many nodes a graph has; they are the numbers below it
abbrev pub node_count : Graph → ℕ
node_count graph = length graph.next.items

-- the numbers in the row at this index; no row past the end has any
unfoldable pub row_at : List (Vec ℕ Global) → ℕ → List ℕ
row_at rows index = slice_index_or (map (λ row. row.items) rows) index []

-- the nodes that the edges of a node lead to, in order
abbrev pub successors : Graph → ℕ → List ℕ
successors graph node = row_at graph.next.items node

-- an edge leads from `a` to `b`
abbrev pub HasEdge : Graph → ℕ → ℕ → Type 0
HasEdge graph a b = Contains (successors graph a) b

-- each edge leads to a node, and there are fewer than 2 ^ 32 nodes
pub record IsSound (graph : Graph) : Type 0 where
  pub in_range : (a b : ℕ) → HasEdge graph a b → b < node_count graph
  pub small : node_count graph < 2 ^ 32
