use Rattle.std.proofs.Common.{arith}
use Rattle.dg_gen.specs.Document.{ask_line}
use Rattle.dg_gen.proofs.TextLemmas.{nothing, one_more}
use Rattle.dg_gen.proofs.document.push_asks.Goals as goal

pub loop-before-init : goal.loop-before-init
loop-before-init c = nothing c.args.out.now.items

pub loop-before-preserved : goal.loop-before-preserved
loop-before-preserved c = one_more ask_line 1 c.loop-before.before _ (omega arith) c.loop-before.invariant c.in_ok-push_ask.ensures.exact
