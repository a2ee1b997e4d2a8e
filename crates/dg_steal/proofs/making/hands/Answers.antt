use Rattle.std.proofs.Common.{arith}
use Rattle.dg_steal.proofs.making.hands.Goals as goal

pub loop-worker-preserved : goal.loop-worker-preserved
loop-worker-preserved c = (omega (arith, c.in_ok-push.ensures.len, c.in_ok-next.ensures.count, c.loop-worker.invariant.0), rw c.in_ok-push.ensures.items c.in_ok-next.ensures.exact)
