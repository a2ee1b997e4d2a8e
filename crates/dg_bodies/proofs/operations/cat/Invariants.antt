use Rattle.std.proofs.Common.{◌≡◌, [], drop}
use Rattle.dg_bodies.proofs.TextLemmas.{behind}
use Rattle.dg_bodies.proofs.operations.cat.Given as goal

abbrev pub invariant-loop-value : goal.invariant-loop-value
invariant-loop-value l = behind l.bytes.items (drop l.value-index l.values) ≡ behind [] l.values
