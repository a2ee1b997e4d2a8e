use Rattle.std.proofs.Common.{◌∷◌, ◌+◌, [], take}
use Rattle.dg_decl.specs.Stages.Names as stage
use Rattle.dg_typing.specs.NamesWanted.{wanted_of}
use Rattle.dg_typing.proofs.NamesJudged.{goes_on, each_more}
use Rattle.dg_typing.proofs.names_stage.mentions.of_each.Goals as goal

pub loop-name-preserved : goal.loop-name-preserved
loop-name-preserved c =
    let w = wanted_of c.args.wanted in
    let ns = c.args.list.now in
    let i = c.loop-name.name-index in
    goes_on c.args.names.now c.args.s.now c.args.out.now.items c.loop-name.out.items
    c.mention.new.out.items (stage.of_each w (take i ns)) (stage.mention w c.name-item.result ∷ [])
    (stage.of_each w (take (i + 1) ns))
    (each_more (stage.mention w) ns i c.name-item.result c.loop-name-test.true c.name-item.is)
    c.loop-name.invariant c.in_ok-mention.ensures.exact
