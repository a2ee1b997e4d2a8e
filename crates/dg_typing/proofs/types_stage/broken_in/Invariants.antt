use Rattle.std.proofs.Common.{◌≡◌, ◌++◌, take}
use Rattle.std.specs.List.{flat_map}
use Rattle.dg_decl.specs.Stages.Types as spec
use Rattle.dg_typing.proofs.types_stage.broken_in.Given as goal

abbrev pub invariant-loop-s : goal.invariant-loop-s
invariant-loop-s l =
    l.broken.items
    ≡ flat_map (λ s. spec.bad_type l.names s ++ spec.optional_of_inject l.names s
    ++ spec.type_mismatch l.names s)
    (take l.s-index l.s-items)
