-- The nodes that are found by looking at each found node in turn.
use Rattle.std.specs.Prelude.{◌≡◌, ◌↔◌, ◌<◌, ◌≤◌, ℕ, List, map, length, slice_get, [], Some, Contains}
use Rattle.std.specs.List.{flat_map, range_with_len}
use Rattle.std.specs.Option.{option_map_or}
use Rattle.dg_decl.specs.declared.document.Doc.{Doc}
use Rattle.dg_decl.specs.declared.component.Class.{Class}
use Rattle.dg_decl.specs.declared.graph.Node.{Node}
use Rattle.dg_decl.specs.declared.graph.NodeKind.TheVariants as node
use Rattle.dg_decl.specs.Graph.{node_of, targets, entry_nodes, IsReachable}

-- the entry points of a class by its row
abbrev pub entries_at : List Class → ℕ → List ℕ
entries_at classes c = option_map_or (λ x. x.entries) (slice_get classes c) []

abbrev pub entries_as_nodes : ℕ → List ℕ → List Node
entries_as_nodes c entries = map (λ i. node_of c (node.EntryOf i)) entries

-- those of the first classes
abbrev pub first_entries : List Class → ℕ → List Node
first_entries classes n =
    flat_map (λ c. entries_as_nodes c (entries_at classes c)) (range_with_len 0 n)

-- the found nodes are reachable, the entry points are among them, and so is what those before a
-- place need
pub record Walked (doc : Doc) (found : List Node) (place : ℕ) : Type 0 where
  pub sound : (n : Node) → Contains found n → IsReachable doc n
  pub started : (n : Node) → Contains (entry_nodes doc) n → Contains found n
  pub within : place ≤ length found
  pub closed : (k : ℕ) (m n : Node) → k < place → slice_get found k ≡ Some m
      → Contains (targets doc m) n → Contains found n

-- the found nodes are the reachable ones
pub record AreReached (doc : Doc) (found : List Node) : Type 0 where
  pub each : (n : Node) → Contains found n ↔ IsReachable doc n
