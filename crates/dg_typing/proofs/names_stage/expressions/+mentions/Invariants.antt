use Rattle.std.proofs.Common.{◌≡◌, ◌++◌, map, take}
use Rattle.dg_decl.specs.Stages.Names as stage
use Rattle.dg_typing.specs.NamesJudged.{judged}
use Rattle.dg_typing.proofs.names_stage.expressions.+mentions.Given as goal

abbrev pub invariant-joined-loop-arg : goal.invariant-joined-loop-arg
invariant-joined-loop-arg l =
    l.out.items ≡ l.fn.out.items
    ++ judged l.names l.s (stage.joined (map stage.in_expr (take l.arg-index l.args)))
