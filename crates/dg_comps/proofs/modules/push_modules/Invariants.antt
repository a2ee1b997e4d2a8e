use Rattle.dg_decl.specs.Components.{modules_named}
use Rattle.dg_comps.proofs.ModuleLemmas.{AddedSoFar}
use Rattle.dg_comps.proofs.modules.push_modules.Given as goal

abbrev pub invariant-loop-name : goal.invariant-loop-name
invariant-loop-name l =
    AddedSoFar (modules_named l.names) l.initial.modules.items l.list l.name-index l.modules.items
