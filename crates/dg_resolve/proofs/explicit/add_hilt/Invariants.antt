use Rattle.std.proofs.Common.{take}
use Rattle.std.specs.List.{flat_map}
use Rattle.dg_resolve.specs.Tables.{Grows}
use Rattle.dg_resolve.specs.Explicit.{rows_of_hilt}
use Rattle.dg_resolve.proofs.explicit.add_hilt.Given as goal

abbrev pub invariant-loop-class : goal.invariant-loop-class
invariant-loop-class l =
    Grows (rows_of_hilt l.classes l.class) l.initial.tables l.tables
