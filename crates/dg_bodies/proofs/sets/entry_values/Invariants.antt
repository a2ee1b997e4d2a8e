use Rattle.std.proofs.Common.{◌≡◌, take}
use Rattle.std.specs.List.{filter_map}
use Rattle.dg_eval.specs.Operations.{entry_value}
use Rattle.dg_bodies.proofs.sets.entry_values.Given as goal

abbrev pub invariant-loop-entry : goal.invariant-loop-entry
invariant-loop-entry l = l.values.items ≡ filter_map entry_value (take l.entry-index l.entries)
