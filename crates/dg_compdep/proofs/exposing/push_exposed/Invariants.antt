use Rattle.std.proofs.Common.{◌≡◌, ◌++◌, take}
use Rattle.std.specs.List.{filter_map}
use Rattle.dg_decl.specs.Components as components
use Rattle.dg_compdep.proofs.exposing.push_exposed.Given as goal

abbrev pub invariant-loop-entry : goal.invariant-loop-entry
invariant-loop-entry l =
    l.list ≡ l.initial.list
    ++ filter_map (components.exposed_as l.d l.dep) (take l.entry-index l.entries)
