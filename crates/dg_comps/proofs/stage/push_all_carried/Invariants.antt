use Rattle.dg_decl.specs.declared.document.Doc.{Doc}
use Rattle.std.proofs.Common.{ℕ}
use Rattle.dg_comps.specs.Broken.{carried}
use Rattle.dg_comps.specs.ClassSets.{IsSetOf}
use Rattle.dg_comps.specs.ClassTables.{KnowsCarriers}
use Rattle.dg_comps.specs.Tables.{is_ancestor}
use Rattle.dg_comps.proofs.ModuleLemmas.{AddedSoFar}
use Rattle.dg_comps.proofs.stage.push_all_carried.Given as goal

abbrev pub invariant-loop-scope : goal.invariant-loop-scope
invariant-loop-scope l =
    (doc : Doc) (class : ℕ) → KnowsCarriers doc l.carriers → IsSetOf (is_ancestor doc class) l.above
    → AddedSoFar (carried doc class l.statement) l.initial.broken.items l.scope-items
    l.scope-index l.broken.items
