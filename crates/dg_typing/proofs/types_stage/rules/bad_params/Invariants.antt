use Rattle.std.proofs.Common.{◌≡◌, ◌++◌, take}
use Rattle.dg_decl.specs.Stages.Types as spec
use Rattle.dg_typing.specs.TypesPlaced.{bad_among, allowed_by}
use Rattle.dg_typing.proofs.types_stage.rules.bad_params.Given as goal

abbrev pub invariant-loop-param : goal.invariant-loop-param
invariant-loop-param l =
    l.out.items ≡ l.fn.out.items
    ++ bad_among l.s (spec.each_placed (allowed_by l.takes) (take l.param-index l.params))
