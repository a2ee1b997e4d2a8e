-- Edges by the numbers of nodes in any list of nodes.
use Rattle.std.specs.Prelude.{ℕ, suc, Bool, List, filter_map, Option, option_map, option_and_then}
use Rattle.std.specs.List.{enumerate_from}
use Rattle.dg_lex.specs.Bytes.{Bytes}
use Rattle.dg_decl.specs.contracts.graph.NodePartialEq.TheImpl as of_nodes
use Rattle.dg_decl.specs.declared.graph.Node.{Node}
use Rattle.dg_decl.specs.declared.graph.Edge.{Edge}
use Rattle.dg_decl.specs.declared.graph.EdgeKind.{EdgeKind}
use Rattle.dg_decl.specs.Graph.{Dependency, EdgeTo, edge_kind, edge_to, called_edge, number_of}

-- two nodes are one, as the keys of a set
unfoldable pub same : Node → Node → Bool
same = of_nodes.ghosts.eq

-- an edge, where the node to which it leads is one of these
abbrev pub numbered : List Node → EdgeTo → Option Edge
numbered ns e =
    option_map (λ k. record { kind = e.kind; param = e.param; to = k }) (number_of ns e.to)

-- the edge of a dependency
abbrev pub edge_of : List Node → EdgeKind → ℕ → Dependency → Option Edge
edge_of ns kind number d = option_and_then (numbered ns) (edge_to kind number d)

-- the edges of dependencies, the first of which has this index
unfoldable pub needed_from : List Node → ℕ → List Dependency → List Edge
needed_from ns k ds =
    filter_map (λ p. edge_of ns (edge_kind p.1.mode) (suc p.0) p.1) (enumerate_from k ds)

-- the edge of a call of a parameter
abbrev pub called : List Node → List Dependency → Bytes → Option Edge
called ns ds name = option_and_then (numbered ns) (called_edge ds name)

-- the edges of these calls
unfoldable pub called_by : List Node → List Dependency → List Bytes → List Edge
called_by ns ds names = filter_map (called ns ds) names
