use Rattle.std.proofs.Common.{take}
use Rattle.std.specs.List.{flat_map}
use Rattle.dg_resolve.specs.Tables.{Grows}
use Rattle.dg_resolve.specs.Explicit.{rows_of_entries}
use Rattle.dg_resolve.proofs.explicit.add_entries.Given as goal

abbrev pub invariant-loop-exposed : goal.invariant-loop-exposed
invariant-loop-exposed l =
    Grows (rows_of_entries l.class (take l.exposed-index l.entries)) l.initial.tables l.tables
