use Rattle.std.proofs.Common.{◌≡◌, ◌++◌, map, drop}
use Rattle.dg_walks.specs.Passed.{passed_rows}
use Rattle.dg_walks.proofs.producing.passed_graph.Given as goal

abbrev pub invariant-loop-index : goal.invariant-loop-index
invariant-loop-index l =
    map (λ row. row.items) l.next.items
    ++ passed_rows l.d (drop l.index l.nodes) (drop l.index l.edges)
    ≡ passed_rows l.d l.nodes l.edges
