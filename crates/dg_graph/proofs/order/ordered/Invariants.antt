use Rattle.std.proofs.Common.{◌≡◌, flat_map}
use Rattle.std.specs.List.{range_with_len}
use Rattle.dg_decl.specs.Graph.{kinds_of}
use Rattle.dg_graph.specs.Kept.{kept}
use Rattle.dg_graph.proofs.order.ordered.Given as goal

abbrev pub invariant-loop-class : goal.invariant-loop-class
invariant-loop-class l =
    l.nodes.items
    ≡ flat_map (λ c. kept l.found.keys c (kinds_of l.dependencies c)) (range_with_len 0 l.class)
