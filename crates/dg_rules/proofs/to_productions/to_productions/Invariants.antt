use Rattle.std.proofs.Common.{◌≤◌}
use Rattle.dg_decl.specs.declared.document.Doc.{Doc}
use Rattle.dg_decl.specs.declared.graph.Node.{Node}
use Rattle.dg_rules.specs.Productions.{AreOf}
use Rattle.dg_rules.proofs.LedLemmas.{Told}
use Rattle.dg_rules.proofs.to_productions.to_productions.Given as goal

abbrev pub invariant-loop-d : goal.invariant-loop-d
invariant-loop-d l = record {
  few : l.place ≤ l.d-index;
  told : (doc : Doc) (n : Node) → AreOf doc n l.needed l.edges l.productions
      → Told doc n l.needed l.edges l.productions l.d-index l.place l.told.items;
}
