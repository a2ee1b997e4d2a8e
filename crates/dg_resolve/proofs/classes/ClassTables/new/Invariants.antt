use Rattle.std.proofs.Common.{[]}
use Rattle.dg_resolve.specs.Tables.{Holds}
use Rattle.dg_resolve.proofs.classes.ClassTables.new.Given as goal

abbrev pub invariant-loop-class : goal.invariant-loop-class
invariant-loop-class l = Holds l.class (λ c k. []) l.made.items
