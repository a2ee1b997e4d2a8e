use Rattle.std.proofs.Common.{take}
use Rattle.dg_resolve.specs.Members.{rows_of_members}
use Rattle.dg_resolve.specs.Tables.{Holds}
use Rattle.dg_resolve.proofs.members.members.Given as goal

abbrev pub invariant-loop-bind : goal.invariant-loop-bind
invariant-loop-bind l =
    Holds l.count (rows_of_members l.installers l.wanted (take l.bind-index l.bindings)) l.made
