use Rattle.std.proofs.Common.{take}
use Rattle.dg_graph.specs.Growth.{Grows}
use Rattle.dg_graph.specs.Reached.{entries_as_nodes}
use Rattle.dg_graph.proofs.reached.add_entries.Given as goal

abbrev pub invariant-loop-entry : goal.invariant-loop-entry
invariant-loop-entry l =
    Grows (entries_as_nodes l.class (take l.entry-index l.entries)) l.fn.found.keys l.found.keys
