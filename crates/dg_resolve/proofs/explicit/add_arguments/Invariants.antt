use Rattle.std.proofs.Common.{take}
use Rattle.std.specs.List.{flat_map}
use Rattle.dg_resolve.specs.Tables.{Grows}
use Rattle.dg_resolve.specs.Explicit.{rows_of_argument}
use Rattle.dg_resolve.proofs.explicit.add_arguments.Given as goal

abbrev pub invariant-loop-class : goal.invariant-loop-class
invariant-loop-class l =
    Grows (rows_of_argument l.lines (take l.class-index l.classes) l.key) l.initial.tables l.tables
