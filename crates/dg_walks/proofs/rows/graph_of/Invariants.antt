use Rattle.std.proofs.Common.{◌≡◌, map, take}
use Rattle.dg_walks.specs.Rows.{row_of}
use Rattle.dg_walks.proofs.rows.graph_of.Given as goal

abbrev pub invariant-loop-list : goal.invariant-loop-list
invariant-loop-list l =
    map (λ row. row.items) l.next.items ≡ map (row_of l.follow) (take l.list-index l.edges)
