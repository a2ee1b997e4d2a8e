use Rattle.std.proofs.Common.{filter_map}
use Rattle.dg_comps.specs.Members.{bound_at}
use Rattle.dg_comps.proofs.ModuleLemmas.{AddedSoFar}
use Rattle.dg_comps.proofs.classes.push_bounds.Given as goal

abbrev pub invariant-loop-index : goal.invariant-loop-index
invariant-loop-index l =
    AddedSoFar (filter_map (bound_at l.names)) l.initial.list l.members l.index-index l.list
