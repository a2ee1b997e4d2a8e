use Rattle.dg_comps.specs.Broken.{badly_replaced}
use Rattle.dg_comps.proofs.ModuleLemmas.{AddedSoFar}
use Rattle.dg_comps.proofs.stage.bad_replace.Given as goal

abbrev pub invariant-loop-name : goal.invariant-loop-name
invariant-loop-name l =
    AddedSoFar (badly_replaced l.names l.statement) l.initial.broken.items l.name-items
    l.name-index l.broken.items
