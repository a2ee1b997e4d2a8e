use Rattle.dg_graph.specs.Growth.{Grows}
use Rattle.dg_graph.specs.Reached.{first_entries}
use Rattle.dg_graph.proofs.reached.add_all_entries.Given as goal

abbrev pub invariant-loop-class : goal.invariant-loop-class
invariant-loop-class l = Grows (first_entries l.classes l.class) l.fn.found.keys l.found.keys
