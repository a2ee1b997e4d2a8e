use Rattle.std.proofs.Common.{[], filter_map}
use Rattle.dg_comps.specs.Members.{dep_at}
use Rattle.dg_comps.proofs.ModuleLemmas.{AddedSoFar}
use Rattle.dg_comps.proofs.classes.deps_of.Given as goal

abbrev pub invariant-loop-index : goal.invariant-loop-index
invariant-loop-index l =
    AddedSoFar (filter_map (dep_at l.names)) [] l.members l.index-index l.list
