use Rattle.dg_resolve.specs.Members.{AreModules}
use Rattle.dg_resolve.proofs.members.installers.Given as goal

abbrev pub invariant-loop-class : goal.invariant-loop-class
invariant-loop-class l = AreModules l.classes l.class l.table
