use Rattle.dg_comps.proofs.ModuleLemmas.{IncludesSoFar}
use Rattle.dg_comps.proofs.modules.includes.Given as goal

abbrev pub invariant-loop-index : goal.invariant-loop-index
invariant-loop-index l = IncludesSoFar l.names l.index l.next.items
