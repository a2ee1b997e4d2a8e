use Rattle.std.proofs.Common.{◌≡◌, ℕ}
use Rattle.dg_resolve.specs.Members.{headed_by}
use Rattle.dg_resolve.specs.Tables.{of_number}
use Rattle.dg_resolve.proofs.members.headers.Given as goal

abbrev pub invariant-loop-class : goal.invariant-loop-class
invariant-loop-class l = (m : ℕ) → of_number m l.table ≡ headed_by l.names m l.class
