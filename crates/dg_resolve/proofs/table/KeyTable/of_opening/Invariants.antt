use Rattle.std.proofs.Common.{◌≡◌, drop}
use Rattle.std.specs.Map.{lookup}
use Rattle.dg_types.specs.Equality.{same_key}
use Rattle.dg_resolve.specs.Keys.{opening_key}
use Rattle.dg_resolve.proofs.table.KeyTable.of_opening.Given as goal

abbrev pub invariant-loop-place : goal.invariant-loop-place
invariant-loop-place l =
    lookup (same_key (opening_key l.key)) (drop l.place l.self-inside.groups.entries)
    ≡ lookup (same_key (opening_key l.key)) l.self-inside.groups.entries
