use Rattle.dg_comps.proofs.ParentLemmas.{KnowsBelow}
use Rattle.dg_comps.proofs.parents.ancestor_sets.Given as goal

abbrev pub invariant-loop-class : goal.invariant-loop-class
invariant-loop-class l = KnowsBelow l.names l.class l.sets.items
