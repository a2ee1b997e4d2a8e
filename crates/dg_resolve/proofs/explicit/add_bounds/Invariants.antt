use Rattle.std.proofs.Common.{take}
use Rattle.std.specs.List.{flat_map}
use Rattle.dg_resolve.specs.Tables.{Grows}
use Rattle.dg_resolve.specs.Explicit.{rows_of_bounds}
use Rattle.dg_resolve.proofs.explicit.add_bounds.Given as goal

abbrev pub invariant-loop-bound : goal.invariant-loop-bound
invariant-loop-bound l =
    Grows (rows_of_bounds l.class (take l.bound-index l.bounds)) l.initial.tables l.tables
