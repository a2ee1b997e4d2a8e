use Rattle.dg_walks.proofs.ProductionLemmas.{Marked}
use Rattle.dg_walks.proofs.producing.marked.Given as goal

abbrev pub invariant-loop-number : goal.invariant-loop-number
invariant-loop-number l = Marked l.marks l.number l.found.items
