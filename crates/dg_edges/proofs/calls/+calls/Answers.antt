use Rattle.dg_decl.specs.Bodies.{calls_of_expr}
use Rattle.dg_edges.proofs.CallLemmas.{goes_on}
use Rattle.dg_edges.proofs.calls.+calls.Goals as goal

pub joined-loop-arg-preserved : goal.joined-loop-arg-preserved
joined-loop-arg-preserved t c =
    goes_on c.args.numbers.now c.args.needed.now calls_of_expr c.args.args.now
    c.loop-arg.arg-index c.arg-item.result c.args.edges.now c.loop-arg.edges c.in_expr.new.edges
    c.loop-arg-test.true c.arg-item.is c.loop-arg.invariant c.in_ok-in_expr.ensures.exact
