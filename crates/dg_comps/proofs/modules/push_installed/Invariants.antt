use Rattle.std.proofs.Common.{◌≡◌, vec_len}
use Rattle.dg_decl.specs.declared.document.Doc.{Doc}
use Rattle.dg_comps.specs.Tables.{KnowsAncestors, IsReachedSet}
use Rattle.dg_comps.proofs.ModuleLemmas.{InstalledSoFar}
use Rattle.dg_comps.proofs.modules.push_installed.Given as goal

abbrev pub invariant-loop-class : goal.invariant-loop-class
invariant-loop-class l = record {
  len : vec_len l.rows ≡ vec_len l.initial.rows;
  each : (doc : Doc) → KnowsAncestors doc l.above → IsReachedSet doc l.index l.reached
      → InstalledSoFar doc l.index l.class l.initial.rows.items l.rows.items;
}
