use Rattle.std.proofs.Common.{arith}
use Rattle.dg_gen.specs.Document.{open_line}
use Rattle.dg_gen.proofs.TextLemmas.{nothing, one_more}
use Rattle.dg_gen.proofs.document.push_opens.Goals as goal

pub loop-instance-init : goal.loop-instance-init
loop-instance-init c = nothing c.args.out.now.items

pub loop-instance-preserved : goal.loop-instance-preserved
unfolding open_line
loop-instance-preserved c = one_more open_line 0 c.loop-instance.instance _ (omega arith) c.loop-instance.invariant c.in_ok-push_numbered.ensures.exact
