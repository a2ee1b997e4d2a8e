use Rattle.std.proofs.Common.{◌≡◌, drop}
use Rattle.dg_eval.specs.Operations.{entry_of}
use Rattle.dg_bodies.proofs.parts.entry_with.Given as goal

abbrev pub invariant-loop-entry : goal.invariant-loop-entry
invariant-loop-entry l = entry_of l.key (drop l.entry-index l.entries) ≡ entry_of l.key l.entries
