use Rattle.std.proofs.Common.{◌≡◌, arith}
use Rattle.dg_gen.specs.Document.{last_scoped, scoped_line}
use Rattle.dg_gen.proofs.TextLemmas.{nothing, one_more}
use Rattle.dg_gen.proofs.document.push_all_scoped.Goals as goal

pub loop-before-init : goal.loop-before-init
loop-before-init c = nothing c.args.out.now.items

pub loop-before-preserved : goal.loop-before-preserved
loop-before-preserved c = one_more scoped_line 1 c.loop-before.before _ (omega arith) c.loop-before.invariant c.in_ok-push_scoped.ensures.exact

pub returns : goal.returns
returns c =
    let at_end : c.loop-before.before ≡ last_scoped = omega arith in
    record { exact = rw at_end at c.loop-before.invariant }
