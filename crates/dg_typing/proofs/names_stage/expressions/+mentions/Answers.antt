use Rattle.std.proofs.Common.{◌+◌, map, take}
use Rattle.dg_decl.specs.Stages.Names as stage
use Rattle.dg_typing.proofs.NamesJudged.{goes_on, joined_more}
use Rattle.dg_typing.proofs.names_stage.expressions.+mentions.Goals as goal

pub joined-loop-arg-preserved : goal.joined-loop-arg-preserved
joined-loop-arg-preserved t c =
    let xs = c.args.args.now in
    let i = c.loop-arg.arg-index in
    goes_on c.args.names.now c.args.s.now c.args.out.now.items c.loop-arg.out.items
    c.in_expr.new.out.items (stage.joined (map stage.in_expr (take i xs)))
    (stage.in_expr c.arg-item.result) (stage.joined (map stage.in_expr (take (i + 1) xs)))
    (joined_more stage.in_expr xs i c.arg-item.result c.loop-arg-test.true c.arg-item.is)
    c.loop-arg.invariant c.in_ok-in_expr.ensures.exact
