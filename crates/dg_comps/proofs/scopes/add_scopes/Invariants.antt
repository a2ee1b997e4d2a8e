use Rattle.dg_comps.proofs.TableLemmas.{ScopesSoFar}
use Rattle.dg_comps.proofs.scopes.add_scopes.Given as goal

abbrev pub invariant-loop-scope : goal.invariant-loop-scope
invariant-loop-scope l = ScopesSoFar l.initial.table l.class l.scopes l.scope-index l.table
