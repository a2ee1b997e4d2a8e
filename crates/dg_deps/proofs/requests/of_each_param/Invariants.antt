use Rattle.std.proofs.Common.{◌≡◌, take}
use Rattle.std.specs.List.{filter_map}
use Rattle.dg_decl.specs.Graph as graph
use Rattle.dg_deps.proofs.requests.of_each_param.Given as goal

abbrev pub invariant-loop-param : goal.invariant-loop-param
invariant-loop-param l =
    l.needed.items
    ≡ filter_map (graph.of_param l.dependencies l.class) (take l.param-index l.params)
