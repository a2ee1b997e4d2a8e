use Rattle.std.proofs.Common.{◌≡◌, take}
use Rattle.std.specs.List.{flat_map}
use Rattle.dg_decl.specs.Document.{statements}
use Rattle.dg_decl.specs.Stages.Components.{components_at}
use Rattle.dg_comps.proofs.stage.components_stage.Given as goal

abbrev pub invariant-loop-index : goal.invariant-loop-index
invariant-loop-index l =
    l.broken.items ≡ flat_map (components_at l.names) (take l.index (statements l.names))
