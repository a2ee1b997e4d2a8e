use Rattle.dg_comps.proofs.TableLemmas.{CarriersSoFar}
use Rattle.dg_comps.proofs.scopes.carriers.Given as goal

abbrev pub invariant-loop-class : goal.invariant-loop-class
invariant-loop-class l = CarriersSoFar l.names l.class l.table
