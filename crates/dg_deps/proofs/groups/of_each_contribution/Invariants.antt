use Rattle.std.proofs.Common.{◌≡◌, take, map}
use Rattle.dg_decl.specs.Graph as graph
use Rattle.dg_deps.proofs.groups.of_each_contribution.Given as goal

abbrev pub invariant-loop-owned : goal.invariant-loop-owned
invariant-loop-owned l =
    l.needed.items ≡ map (graph.contribution_of l.class l.key) (take l.owned-index l.contributions)
