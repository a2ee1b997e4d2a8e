use Rattle.std.proofs.Common.{filter_map, take}
use Rattle.dg_decl.specs.Graph as graph
use Rattle.dg_graph.specs.Growth.{Grows}
use Rattle.dg_graph.proofs.reached.add_targets.Given as goal

abbrev pub invariant-loop-dependency : goal.invariant-loop-dependency
invariant-loop-dependency l =
    Grows (filter_map graph.target (take l.dependency-index l.needed)) l.fn.found.keys l.found.keys
