use Rattle.std.proofs.Common.{true, false, sym, ◌∙◌}
use Rattle.dg_exec.proofs.ReachLemmas.{direct_is}
use Rattle.dg_exec.proofs.walks.direct_target.Goals as goal

pub returns-then-is_direct : goal.returns-then-is_direct
returns-then-is_direct c = record {
  exact = λ doc plan of k m n d asks. c.target_at.ensures.exact doc plan of k m n d asks
      ∙ direct_is doc of.accepted c.args.inst k m n d c.args.input.now true asks
      (sym c.if-is_direct.ensures.exact);
}

pub returns-else-is_direct : goal.returns-else-is_direct
returns-else-is_direct c = record {
  exact = λ doc plan of k m n d asks.
      direct_is doc of.accepted c.args.inst k m n d c.args.input.now false asks
      (sym c.if-is_direct.ensures.exact);
}
