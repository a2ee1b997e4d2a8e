use Rattle.std.proofs.Common.{take}
use Rattle.dg_resolve.specs.Tables.{Grows, row_of_each}
use Rattle.dg_resolve.proofs.classes.ClassTables.add_to_each.Given as goal

abbrev pub invariant-loop-class : goal.invariant-loop-class
invariant-loop-class l =
    Grows (row_of_each (take l.class-index l.classes) l.key l.binding) l.initial.self l.self
