use Rattle.std.proofs.Common.{◌≡◌, ◌++◌, take}
use Rattle.std.specs.List.{flat_map}
use Rattle.dg_decl.specs.Stages.Names as stage
use Rattle.dg_typing.specs.NamesJudged.{judged}
use Rattle.dg_typing.proofs.names_stage.expressions.in_args.Given as goal

abbrev pub invariant-loop-arg : goal.invariant-loop-arg
invariant-loop-arg l =
    l.out.items ≡ l.fn.out.items
    ++ judged l.names l.s (flat_map (λ a. stage.in_expr a.value) (take l.arg-index l.args))
