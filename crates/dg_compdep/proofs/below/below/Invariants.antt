use Rattle.dg_compdep.specs.Below.{TellFirst}
use Rattle.dg_compdep.proofs.below.below.Given as goal

abbrev pub invariant-loop-from : goal.invariant-loop-from
invariant-loop-from l = TellFirst l.d l.from l.rows.items
