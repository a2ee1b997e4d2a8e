use Rattle.std.proofs.Common.{◌≡◌, map, take}
use Rattle.dg_decl.specs.Graph as graph
use Rattle.dg_edges.proofs.lists.edge_lists.Given as goal

abbrev pub invariant-loop-node : goal.invariant-loop-node
invariant-loop-node l =
    l.lists ≡ map (graph.numbered_edges l.dependencies) (take l.node-index l.nodes)
