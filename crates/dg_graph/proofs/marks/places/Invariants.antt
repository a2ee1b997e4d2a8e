use Rattle.std.proofs.Common.{take}
use Rattle.dg_graph.specs.Vacant.{AreTaken}
use Rattle.dg_graph.proofs.marks.places.Given as goal

abbrev pub invariant-loop-node : goal.invariant-loop-node
invariant-loop-node l = AreTaken l.lookups (take l.node-index l.found.keys) l.taken.items
