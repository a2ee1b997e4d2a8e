use Rattle.std.proofs.Common.{◌+◌, take}
use Rattle.dg_decl.specs.Stages.Names as stage
use Rattle.dg_typing.proofs.NamesJudged.{goes_on, flat_more}
use Rattle.dg_typing.proofs.names_stage.mentions.in_params.Goals as goal

pub loop-param-preserved : goal.loop-param-preserved
loop-param-preserved c =
    let ps = c.args.params.now in
    let i = c.loop-param.param-index in
    let p = c.param-item.result in
    goes_on c.args.names.now c.args.s.now c.args.out.now.items c.loop-param.out.items
    c.in_use.new.out.items (stage.in_params (take i ps)) (stage.in_use p.shape)
    (stage.in_params (take (i + 1) ps))
    (flat_more (λ q. stage.in_use q.shape) ps i p c.loop-param-test.true c.param-item.is)
    c.loop-param.invariant c.in_ok-in_use.ensures.exact
