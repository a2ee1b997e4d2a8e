use Rattle.std.proofs.Common.{filter, not}
use Rattle.dg_decl.specs.declared.document.Doc.{Doc}
use Rattle.dg_decl.specs.Components.{is_replaced}
use Rattle.dg_comps.specs.Tables.{KnowsReplaced}
use Rattle.dg_comps.proofs.ModuleLemmas.{AddedSoFar}
use Rattle.dg_comps.proofs.modules.push_unreplaced.Given as goal

abbrev pub invariant-loop-index : goal.invariant-loop-index
invariant-loop-index l =
    (doc : Doc) → KnowsReplaced doc l.replaced
    → AddedSoFar (filter (λ m. not (is_replaced doc m))) l.initial.modules.items l.list
    l.index-index l.modules.items
