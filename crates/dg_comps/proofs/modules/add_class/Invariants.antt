use Rattle.dg_comps.proofs.ModuleLemmas.{AddedClass}
use Rattle.dg_comps.proofs.modules.add_class.Given as goal

abbrev pub invariant-loop-index : goal.invariant-loop-index
invariant-loop-index l = AddedClass l.initial.sets.items l.marks l.class l.index l.sets.items
