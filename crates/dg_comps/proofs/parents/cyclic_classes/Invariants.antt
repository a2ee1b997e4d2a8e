use Rattle.dg_comps.proofs.ParentLemmas.{KnowsOwn}
use Rattle.dg_comps.proofs.parents.cyclic_classes.Given as goal

abbrev pub invariant-loop-class : goal.invariant-loop-class
invariant-loop-class l = KnowsOwn l.sets l.class l.cyclic
