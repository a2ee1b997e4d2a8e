use Rattle.std.proofs.Common.{◌≡◌, ◌++◌, drop}
use Rattle.dg_compdep.specs.Exposing.{exposed_from}
use Rattle.dg_compdep.proofs.exposing.exposed_to.Given as goal

abbrev pub invariant-loop-index : goal.invariant-loop-index
invariant-loop-index l =
    l.list ++ exposed_from l.d l.index (drop l.index l.deps) ≡ exposed_from l.d 0 l.deps
