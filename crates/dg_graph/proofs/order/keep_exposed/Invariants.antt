use Rattle.std.proofs.Common.{◌≡◌, ◌++◌, take}
use Rattle.dg_graph.specs.Kept.{kept, exposed_kinds}
use Rattle.dg_graph.proofs.order.keep_exposed.Given as goal

abbrev pub invariant-loop-entry : goal.invariant-loop-entry
invariant-loop-entry l =
    l.nodes.items ≡ l.fn.nodes.items
    ++ kept l.found.keys l.class (exposed_kinds (take l.entry-index l.exposed))
