use Rattle.std.proofs.Common.{◌≡◌, ◌++◌, take}
use Rattle.dg_decl.specs.Stages.Names as stage
use Rattle.dg_typing.specs.NamesWanted.{wanted_of}
use Rattle.dg_typing.specs.NamesJudged.{judged}
use Rattle.dg_typing.proofs.names_stage.mentions.of_each.Given as goal

abbrev pub invariant-loop-name : goal.invariant-loop-name
invariant-loop-name l =
    l.out.items ≡ l.fn.out.items
    ++ judged l.names l.s (stage.of_each (wanted_of l.wanted) (take l.name-index l.list))
