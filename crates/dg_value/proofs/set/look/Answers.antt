use Rattle.std.proofs.Common.{rules}
use Rattle.dg_value.proofs.LookLemmas.{goes_on}
use Rattle.dg_value.proofs.set.look.Goals as goal

pub loop-at-preserved : goal.loop-at-preserved
loop-at-preserved g c =
    goes_on (g.C.Contents.content c.args.contents.now) c.loop-at.left c.in-Held.inst c.in-Held.slot
    c.loop-at.at.now c.in-Some.next.now _ c.in-Held.is (search rules) c.in-Some.ensures.exact
    c.loop-at.invariant
