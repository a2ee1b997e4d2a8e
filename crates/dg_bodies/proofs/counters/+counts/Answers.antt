use Rattle.std.proofs.Common.{arith}
use Rattle.dg_bodies.proofs.CountLemmas.{row_end}
use Rattle.dg_bodies.proofs.counters.+counts.Goals as goal

pub pass_all-returns : goal.pass_all-returns
pass_all-returns t c = record {
  after = row_end c.args.args.now c.loop-arg.arg-index c.loop-arg.at _
      (omega (arith, c.loop-arg-test.false)) c.loop-arg.invariant;
}
