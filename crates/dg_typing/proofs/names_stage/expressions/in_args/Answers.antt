use Rattle.std.proofs.Common.{◌+◌, take}
use Rattle.std.specs.List.{flat_map}
use Rattle.dg_decl.specs.Stages.Names as stage
use Rattle.dg_typing.proofs.NamesJudged.{goes_on, flat_more}
use Rattle.dg_typing.proofs.names_stage.expressions.in_args.Goals as goal

pub loop-arg-preserved : goal.loop-arg-preserved
loop-arg-preserved c =
    let xs = c.args.args.now in
    let i = c.loop-arg.arg-index in
    let a = c.arg-item.result in
    goes_on c.args.names.now c.args.s.now c.args.out.now.items c.loop-arg.out.items
    c.in_expr.new.out.items (flat_map (λ b. stage.in_expr b.value) (take i xs))
    (stage.in_expr a.value) (flat_map (λ b. stage.in_expr b.value) (take (i + 1) xs))
    (flat_more (λ b. stage.in_expr b.value) xs i a c.loop-arg-test.true c.arg-item.is)
    c.loop-arg.invariant c.in_ok-in_expr.ensures.exact
