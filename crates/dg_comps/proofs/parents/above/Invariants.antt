use Rattle.dg_comps.proofs.ParentLemmas.{Walked}
use Rattle.dg_comps.proofs.parents.above.Given as goal

abbrev pub invariant-loop : goal.invariant-loop
invariant-loop l = Walked l.parents l.class l.counter l.set l.next
