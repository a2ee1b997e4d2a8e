use Rattle.dg_comps.proofs.ModuleLemmas.{ReachedSoFar}
use Rattle.dg_comps.proofs.modules.reached_sets.Given as goal

abbrev pub invariant-loop-class : goal.invariant-loop-class
invariant-loop-class l = ReachedSoFar l.names l.class l.sets.items
