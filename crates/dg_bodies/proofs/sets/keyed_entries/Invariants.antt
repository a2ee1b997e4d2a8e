use Rattle.std.proofs.Common.{◌≡◌, take}
use Rattle.std.specs.List.{filter_map}
use Rattle.dg_eval.specs.Operations.{keyed}
use Rattle.dg_bodies.proofs.sets.keyed_entries.Given as goal

abbrev pub invariant-loop-entry : goal.invariant-loop-entry
invariant-loop-entry l = l.values ≡ filter_map keyed (take l.entry-index l.entries)
