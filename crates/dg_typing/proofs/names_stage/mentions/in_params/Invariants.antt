use Rattle.std.proofs.Common.{◌≡◌, ◌++◌, take}
use Rattle.dg_decl.specs.Stages.Names as stage
use Rattle.dg_typing.specs.NamesJudged.{judged}
use Rattle.dg_typing.proofs.names_stage.mentions.in_params.Given as goal

abbrev pub invariant-loop-param : goal.invariant-loop-param
invariant-loop-param l =
    l.out.items ≡ l.fn.out.items
    ++ judged l.names l.s (stage.in_params (take l.param-index l.params))
